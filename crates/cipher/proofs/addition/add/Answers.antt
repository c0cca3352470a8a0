use Rattle.std.proofs.Common.{◌∙◌, arith}
use Rattle.cipher.proofs.Sums.{added_all, added_more}
use Rattle.cipher.proofs.addition.add.Goals as goal

pub loop-i-preserved : goal.loop-i-preserved
loop-i-preserved c = added_more c.loop-i.i c.args.row.now c.args.bytes.now c.loop-i.row (omega arith) (omega arith) c.loop-i.invariant

pub returns : goal.returns
returns c = c.loop-i.invariant ∙ added_all c.loop-i.i c.args.row.now c.args.bytes.now (omega arith)
