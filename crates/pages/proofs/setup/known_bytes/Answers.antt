use Rattle.std.proofs.Common.{arith}
use Rattle.ublock.proofs.Bytes.{bytes_from}
use Rattle.pages.proofs.setup.known_bytes.Goals as goal

pub returns : goal.returns
returns c = bytes_from c.args.row.now (λ k. omega (arith, c.type_inv.row k))
