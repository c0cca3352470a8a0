-- Parts of rows: what holds of each, one of the blocks, and the first of the sealed blocks.
use Rattle.std.proofs.Common.{◌≡◌, ℕ, zero, suc, ◌+◌, ◌<◌, List, [], ◌∷◌, ◌++◌, length, get_or, take, drop, refl, sym, ap, ◌∙◌, zero-mul, arith}
use Rattle.std.specs.Simd.Lanes.{Each1}
use Rattle.std.proofs.lemmas.Simd.{Each1-chunk}
use Rattle.ublock.specs.Parts.{part}
use Rattle.modes.specs.Sealing.{Scheme, seal_block, sealed, blocks, last_block}
use Rattle.cipher.proofs.EngineRuns.{drop_past}

-- ---- what holds of each of a row
pub each_append : {A : Type 0} (P : A → Type 0) (xs ys : List A) → Each1 P xs → Each1 P ys → Each1 P (xs ++ ys)
each_append P [] ys g h = h
each_append P (x ∷ xs) ys g h = (g.0, each_append P xs ys g.1 h)

pub each_take : {A : Type 0} (P : A → Type 0) (n : ℕ) (xs : List A) → Each1 P xs → Each1 P (take n xs)
each_take P = Each1-chunk P 0

pub each_drop : {A : Type 0} (P : A → Type 0) (n : ℕ) (xs : List A) → Each1 P xs → Each1 P (drop n xs)
each_drop P zero xs h = h
each_drop P (suc n) [] h = tt
each_drop P (suc n) (x ∷ xs) h = each_drop P n xs h.1

-- ---- one block, and the first sealed blocks
pub blocks_at : (b n i : ℕ) (xs : List ℕ) → i < n → get_or (blocks b n xs) i [] ≡ part b i xs
blocks_at b zero i xs lt = absurd (omega arith)
blocks_at b (suc n) zero xs lt = ap (λ m. take b (drop m xs)) (sym (zero-mul b))
blocks_at b (suc n) (suc i) xs lt = blocks_at b n i (drop b xs) (omega arith) ∙ ap (take b) (drop_past b i xs)

pub sealed_take : (s : Scheme) (i : ℕ) (w : List ℕ) (k : ℕ) (xs : List (List ℕ)) → take k (sealed s i w xs) ≡ sealed s i w (take k xs)
sealed_take s i w zero xs = refl
sealed_take s i w (suc k) [] = refl
sealed_take s i w (suc k) (x ∷ xs) = ap (λ z. seal_block s i w x ∷ z) (sealed_take s (suc i) (seal_block s i w x) k xs)

pub sealed_at : (s : Scheme) (i : ℕ) (w : List ℕ) (xs : List (List ℕ)) (j : ℕ) → j < length xs
    → get_or (sealed s i w xs) j [] ≡ seal_block s (i + j) (last_block w (sealed s i w (take j xs))) (get_or xs j [])
sealed_at s i w [] j lt = absurd (omega arith)
sealed_at s i w (x ∷ xs) zero lt = ap (λ k. seal_block s k w x) {x = i} {y = i + 0} (omega arith)
sealed_at s i w (x ∷ xs) (suc j) lt =
    let y = seal_block s i w x in
    sealed_at s (suc i) y xs j (omega arith) ∙ ap (λ k. seal_block s k (last_block y (sealed s (suc i) y (take j xs))) (get_or xs j [])) {x = suc i + j} {y = i + suc j} (omega arith)
