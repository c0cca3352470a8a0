use Rattle.std.proofs.Common.{◌≡◌, ◌-◌, length}
use Rattle.ublock.specs.Cipher.{inverse_rounds}
use Rattle.keyed.specs.Lanes.{EachLane}
use Rattle.keyed.specs.RoundKeys.{row_key}
use Rattle.keyed.proofs.engine.Keyed.unrounds.Given as goal

-- the rounds that are left to undo
abbrev pub invariant-loop-row : goal.invariant-loop-row
invariant-loop-row g l =
    let B = g.B.Bundle in
    let undone = inverse_rounds B.layout (row_key g.R.KeyRow.key_bytes B.layout l.self.rows) in
    EachLane B.lane_count (λ i. undone (l.n - length l.yielded) (B.lane l.bundle i) ≡ undone l.n (B.lane l.initial.bundle i))
