-- A row that a loop comes to, from the front or from the back.
use Rattle.std.specs.Prelude.{◌≡◌, ℕ, ◌-◌, ◌<◌, ◌≤◌, List, [], length, map, take, reverse, slice_index_or}
use Rattle.std.proofs.Common.{sym, ap, ◌∙◌, arith}
use Rattle.std.proofs.lemmas.List.{get_or-map, get_or-take, get_or-reverse, length-take-le}

pub row_from_front : {R : Type 0} (bytes : R → List ℕ) (rows : List R) (n k : ℕ) (row : R) → n ≤ length rows → k < n → row ≡ slice_index_or (take n rows) k row
    → bytes row ≡ slice_index_or (map bytes rows) k []
row_from_front bytes rows n k row fits h e =
    ap bytes (e ∙ get_or-take n rows k row h) ∙ sym (get_or-map bytes rows k row _ (omega arith))

pub row_from_back : {R : Type 0} (bytes : R → List ℕ) (rows : List R) (n k : ℕ) (row : R) → n ≤ length rows → k < n → row ≡ slice_index_or (reverse (take n rows)) k row
    → bytes row ≡ slice_index_or (map bytes rows) (n - 1 - k) []
row_from_back bytes rows n k row fits h e =
    let long = length-take-le n rows fits in
    let at : length (take n rows) - 1 - k ≡ n - 1 - k = omega arith in
    row_from_front bytes rows n (n - 1 - k) row fits (omega arith)
    (e ∙ get_or-reverse (take n rows) k row (omega arith) ∙ ap (λ m. slice_index_or (take n rows) m row) at)
