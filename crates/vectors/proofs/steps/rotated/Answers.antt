use Rattle.std.proofs.Common.{arith}
use Rattle.vectors.proofs.Pieces.{rotated_is}
use Rattle.vectors.proofs.steps.rotated.Goals as goal

pub returns : goal.returns
returns c = rotated_is c.args.by (omega arith) (omega arith) c.args.w c.to_pieces-v.result c.from_pieces.result (omega arith) c.to_pieces-v.ensures c.from_pieces.ensures
