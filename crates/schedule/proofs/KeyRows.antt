-- Rows that hold the key register, step by step.
use Rattle.std.proofs.Common.{◌≡◌, ℕ, zero, suc, ◌+◌, ◌<◌, ◌≤◌, ◌≢◌, List, [], ◌∷◌, ◌++◌, map, length, get_or, set, take, replicate, refl, ap, ◌∙◌, arith, below_more}
use Rattle.std.proofs.lemmas.List.{get_or-map, get_or-replicate, length-replicate, length-take-le, map-set, map-append, length-map, get_or-set_same, get_or-set_other, get_or_append_left}
use Rattle.ublock.specs.Cipher.{RC, key_step, key_length, register}
use Rattle.ublock.specs.Laws.{Bytes}
use Rattle.ublock.specs.Variants.{parameters}
use Rattle.ublock.specs.declared.variant.Variant.{Variant}
use Rattle.ublock.proofs.Bytes.{bytes_from}
use Rattle.ublock.proofs.KeySteps.{register_long}
use Rattle.ublock.proofs.VariantFacts.{bounded}
use Rattle.schedule.specs.Registers.{padded}
use Rattle.schedule.specs.Rows.{row_at, register_bytes}
use Rattle.schedule.specs.declared.row.Row.{Row}
use Rattle.schedule.proofs.Padding.{padded_front}

-- the key's part of a register's bytes
pub register_front : (v : Variant) (bytes : List ℕ) → length bytes ≡ 32 → (i : ℕ)
    → take (key_length (parameters v)) (register_bytes (parameters v) bytes i) ≡ register (parameters v) (take (key_length (parameters v)) bytes) i
register_front v bytes l zero = refl
register_front v bytes l (suc i) =
    let p = parameters v in
    let long = length-take-le (key_length p) bytes (omega (arith, (bounded v).key_fits)) in
    padded_front (register p (take (key_length p) bytes) (suc i)) (key_length p) (register_long p (take (key_length p) bytes) (bounded v).PK_long long (suc i))

-- a step leads from one register to the next
pub stepped : (v w : Variant) (bytes now next : List ℕ) (i : ℕ) → w ≡ v → length bytes ≡ 32 → now ≡ register_bytes (parameters v) bytes i
    → next ≡ padded (key_step (parameters w).PK (parameters w).quarter (get_or RC i 0) (take (key_length (parameters w)) now))
    → next ≡ register_bytes (parameters v) bytes (suc i)
stepped v w bytes now next i same l e s =
    let front = register_front v bytes l i in
    cc

-- one more row
pub rows_more : (f : ℕ → List ℕ) (rows : List Row) (i : ℕ) (row : Row) → i < length rows → row.bytes ≡ f i
    → ((j : ℕ) → j < i → row_at rows j ≡ f j) → (j : ℕ) → j < i + 1 → row_at (set rows i row) j ≡ f j
rows_more f rows i row h e old =
    let long : i < length (map (λ (r : Row). r.bytes) rows) = omega (arith, length-map rows (λ (r : Row). r.bytes)) in
    below_more _ _
    (λ j g. let ne : j ≢ i = omega arith in rw (map-set (λ (r : Row). r.bytes) rows i row, get_or-set_other) (old j g))
    (rw (map-set (λ (r : Row). r.bytes) rows i row, get_or-set_same) e)

-- the first row and those after it
pub rows_all : (f : ℕ → List ℕ) (row : Row) (rows past : List Row) (r : ℕ) → row.bytes ≡ f 0 → r ≤ length rows
    → ((j : ℕ) → j < r → row_at rows j ≡ f (suc j)) → (j : ℕ) → j ≤ r → row_at (row ∷ (rows ++ past)) j ≡ f j
rows_all f row rows past r e l old zero h = e
rows_all f row rows past r e l old (suc j) h =
    let long : j < length (map (λ (row : Row). row.bytes) rows) = omega (arith, length-map rows (λ (row : Row). row.bytes)) in
    rw (map-append (λ (row : Row). row.bytes) rows past, get_or_append_left) (old j (omega arith))

-- the rows past those that were written
pub rows_past : (row : Row) (rows : List Row) (n j : ℕ) → length rows < j → j < suc (length rows + n) → row_at (row ∷ (rows ++ replicate n row)) j ≡ row.bytes
rows_past row [] n zero l h = absurd (omega arith)
rows_past row [] n (suc j) l h =
    get_or-map (λ (row : Row). row.bytes) (replicate n row) j row _ (omega (arith, length-replicate n row)) ∙ ap (λ (row : Row). row.bytes) (get_or-replicate n j row row (omega arith))
rows_past row (r ∷ rows) n zero l h = absurd (omega arith)
rows_past row (r ∷ rows) n (suc zero) l h = absurd (omega arith)
rows_past row (r ∷ rows) n (suc (suc j)) l h = rows_past row rows n (suc j) (omega arith) (omega arith)

-- each row is of bytes, whichever it is
pub row_bytes : (rows : List Row) (j : ℕ) → Bytes (row_at rows j)
row_bytes [] j = tt
row_bytes (row ∷ rows) zero = bytes_from row.bytes row.of_bytes
row_bytes (row ∷ rows) (suc j) = row_bytes rows j
