use Rattle.std.proofs.Common.{◌≡◌, ℕ, ◌<◌, ◌≤◌, List, [], map, slice_index_or}
use Rattle.schedule.specs.Rows.{row_at}
use Rattle.keyed.proofs.engine.key_rows.Given as goal

-- the rows so far, and the first in each place that is left
abbrev pub invariant-loop-j : goal.invariant-loop-j
invariant-loop-j g l =
    let kept : ℕ → List ℕ = λ k. slice_index_or (map g.R.KeyRow.key_bytes l.row-items) k [] in
    record {
      so_far : (k : ℕ) → k < l.j → kept k ≡ row_at l.rows k;
      left : (k : ℕ) → l.j ≤ k → k < 25 → kept k ≡ row_at l.rows 0;
    }
