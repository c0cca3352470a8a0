use Rattle.std.proofs.Common.{sym, ◌∙◌}
use Rattle.vectors.proofs.Words.{vector_bytes-xor}
use Rattle.vectors.proofs.steps.xor.Goals as goal

pub returns : goal.returns
returns c = vector_bytes-xor c.args.x c.args.y (c.fits-x.0 ∙ sym c.fits-y.0)
