use Rattle.std.proofs.Common.{get_or, arith}
use Rattle.ublock.specs.Cipher.{S_inverse, on_nibbles}
use Rattle.ublock.specs.declared.tables.TheConstants.{INVERSE_OF_BYTE}
use Rattle.ublock.proofs.Check.{agree}
use Rattle.ublock.proofs.tables.InverseSboxSubstitution.substitute.Goals as goal

pub returns : goal.returns
returns c = agree (λ b. get_or INVERSE_OF_BYTE b 0) (on_nibbles S_inverse) 256 tt c.args.byte (omega arith)
