use Rattle.std.proofs.Common.{◌≡◌, ◌-◌, ◌*◌, ◌≤◌, ◌++◌, take, drop}
use Rattle.modes.specs.Sealing.{blocks, joined, opened, scheme_of}
use Rattle.modes.proofs.sealer.Sealer.open_rows.Given as goal

-- the blocks so far are opened
abbrev pub invariant-loop-i : goal.invariant-loop-i
invariant-loop-i g l =
    (l.i ≤ l.n)
    × (l.readings ≡ joined (opened (scheme_of g.E.Engine g.M.Mode l.self) l.at.index (take l.b l.at.before.bytes) (blocks l.b l.i l.row)) ++ drop (l.i * l.b) l.initial.readings)

abbrev pub decreases-loop-i : goal.decreases-loop-i
decreases-loop-i g l = l.n - l.i
