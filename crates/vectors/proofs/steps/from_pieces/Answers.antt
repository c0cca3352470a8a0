use Rattle.vectors.proofs.Pieces.{from_pieces_is}
use Rattle.vectors.proofs.steps.from_pieces.Goals as goal

pub returns : goal.returns
returns c = from_pieces_is c.args.v c.fits-v.0 c.fits-v.1
