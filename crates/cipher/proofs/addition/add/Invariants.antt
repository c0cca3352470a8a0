use Rattle.std.proofs.Common.{◌≡◌}
use Rattle.cipher.proofs.Sums.{added_up_to}
use Rattle.cipher.proofs.addition.add.Given as goal

-- as many bytes added as the loop has come to
abbrev pub invariant-loop-i : goal.invariant-loop-i
invariant-loop-i l = l.row ≡ added_up_to l.i l.initial.row l.bytes
