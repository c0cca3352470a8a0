use Rattle.vectors.proofs.Pieces.{to_pieces_is}
use Rattle.vectors.proofs.steps.to_pieces.Goals as goal

pub returns : goal.returns
returns c = to_pieces_is c.args.w c.fits-w
