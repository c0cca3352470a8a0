use Rattle.std.proofs.Common.{arith}
use Rattle.ublock.proofs.KeySteps.{doubled}
use Rattle.ublock.proofs.tables.double.Goals as goal

pub returns : goal.returns
returns c = doubled c.args.byte (omega arith)
