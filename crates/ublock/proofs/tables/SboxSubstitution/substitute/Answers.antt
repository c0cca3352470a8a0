use Rattle.std.proofs.Common.{get_or, arith}
use Rattle.ublock.specs.Cipher.{S, on_nibbles}
use Rattle.ublock.specs.declared.tables.TheConstants.{S_OF_BYTE}
use Rattle.ublock.proofs.Check.{agree}
use Rattle.ublock.proofs.tables.SboxSubstitution.substitute.Goals as goal

pub returns : goal.returns
returns c = agree (λ b. get_or S_OF_BYTE b 0) (on_nibbles S) 256 tt c.args.byte (omega arith)
