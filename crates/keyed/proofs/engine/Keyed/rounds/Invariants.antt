use Rattle.std.proofs.Common.{◌≡◌}
use Rattle.ublock.specs.Cipher.{rounds}
use Rattle.keyed.specs.Lanes.{EachLane}
use Rattle.keyed.specs.RoundKeys.{row_key}
use Rattle.keyed.proofs.engine.Keyed.rounds.Given as goal

-- as many rounds as keys so far
abbrev pub invariant-loop-row : goal.invariant-loop-row
invariant-loop-row g l =
    let B = g.B.Bundle in
    EachLane B.lane_count (λ i. B.lane l.bundle i ≡ rounds B.layout (row_key g.R.KeyRow.key_bytes B.layout l.self.rows) l.row-index (B.lane l.initial.bundle i))
