use Rattle.std.proofs.Common.{get_or}
use Rattle.ublock.specs.Cipher.{be4, RC}
use Rattle.schedule.proofs.Quarters.{Written, quarters}
use Rattle.schedule.proofs.register.Register.step.Given as goal

abbrev pub invariant-loop-j : goal.invariant-loop-j
invariant-loop-j l = Written l.quarter l.j l.next (quarters l.k0 l.k1 l.k2 l.k3 (be4 (get_or RC l.taken 0)))
