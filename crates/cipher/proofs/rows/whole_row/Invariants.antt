use Rattle.std.proofs.Common.{◌≡◌, ◌-◌, ◌*◌, ◌≤◌, ◌++◌, drop}
use Rattle.cipher.specs.Engines.{each}
use Rattle.cipher.specs.Rows.{in_direction}
use Rattle.cipher.proofs.rows.whole_row.Given as goal

-- the blocks so far are replaced
abbrev pub invariant-loop-i : goal.invariant-loop-i
invariant-loop-i g l =
    (l.i ≤ l.n) × (l.row ≡ each l.b (in_direction l.direction (g.E.Engine.enc l.engine) (g.E.Engine.dec l.engine)) l.i l.initial.row ++ drop (l.i * l.b) l.initial.row)

abbrev pub decreases-loop-i : goal.decreases-loop-i
decreases-loop-i g l = l.n - l.i
