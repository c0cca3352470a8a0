-- The bytes of a vector in another order, as `to_le_bytes`, `swizzle` and `from_le_bytes` make them.
use Rattle.std.proofs.Common.{◌≡◌, ℕ, ◌+◌, ◌*◌, ◌^◌, ◌<◌, Bool, T, List, [], ◌∷◌, ◌++◌, map, length, get_or, sym, refl, ap, ◌∙◌, subst, arith, w64}
use lib.Lanes.{Each1, all_below, number_l, digits_l}
use Rattle.std.proofs.lemmas.List.{length-map}
use Rattle.std.proofs.lemmas.Simd.{below_from_Fits}
use Rattle.ublock.specs.Cipher.{permute}
use Rattle.ublock.specs.Laws.{Bytes}
use Rattle.ublock.proofs.Check.{all, all_at}
use Rattle.ublock.proofs.Bytes.{permute-permute, permute_back, bounded-permute}
use Rattle.ublock.proofs.TableRules.{same, same_equal}
use Rattle.ublock.specs.Parts.{part}
use Rattle.vectors.specs.Vectors.{word64, vector_bytes, InLanes}
use Rattle.vectors.proofs.Words.{Vector, length_vector}
use Rattle.vectors.proofs.Digits.{digits_each, digits_l-number_l, digits_each-digits_l, digits_l-below}
use Rattle.vectors.proofs.Parts.{part-permute}

-- the bytes of each of four words turned about
abbrev pub flip : List ℕ
flip = 7 ∷ 6 ∷ 5 ∷ 4 ∷ 3 ∷ 2 ∷ 1 ∷ 0 ∷ 15 ∷ 14 ∷ 13 ∷ 12 ∷ 11 ∷ 10 ∷ 9 ∷ 8 ∷ 23 ∷ 22 ∷ 21 ∷ 20 ∷ 19 ∷ 18 ∷ 17 ∷ 16 ∷ 31 ∷ 30 ∷ 29 ∷ 28 ∷ 27 ∷ 26 ∷ 25 ∷ 24 ∷ []

-- a word's bytes, the lowest first
low_bytes : (w : ℕ) → w < 2 ^ 64 → digits_l 256 8 w ≡ permute (7 ∷ 6 ∷ 5 ∷ 4 ∷ 3 ∷ 2 ∷ 1 ∷ 0 ∷ []) (word64 w)
unfolding word64
low_bytes w h =
    let bs = permute (7 ∷ 6 ∷ 5 ∷ 4 ∷ 3 ∷ 2 ∷ 1 ∷ 0 ∷ []) (word64 w) in
    let e : w ≡ number_l 256 bs = omega arith in
    ap (digits_l 256 8) e
    ∙ digits_l-number_l 256 bs (omega arith, (omega arith, (omega arith, (omega arith, (omega arith, (omega arith, (omega arith, (omega arith, tt))))))))

four : {a b c d a' b' c' d' : List ℕ} → a ≡ a' → b ≡ b' → c ≡ c' → d ≡ d' → a ++ (b ++ (c ++ (d ++ []))) ≡ a' ++ (b' ++ (c' ++ (d' ++ [])))
four e f g h = cc

low_bytes_of_four : (ws : List ℕ) → length ws ≡ 4 → Each1 (λ w. w < 2 ^ 64) ws → digits_each 256 8 ws ≡ permute flip (vector_bytes ws)
unfolding word64
low_bytes_of_four [] l t = absurd (omega arith)
low_bytes_of_four (a ∷ []) l t = absurd (omega arith)
low_bytes_of_four (a ∷ b ∷ []) l t = absurd (omega arith)
low_bytes_of_four (a ∷ b ∷ c ∷ []) l t = absurd (omega arith)
low_bytes_of_four (a ∷ b ∷ c ∷ d ∷ []) l t =
    four (low_bytes a t.0) (low_bytes b t.1.0) (low_bytes c t.1.1.0) (low_bytes d t.1.1.1.0)
low_bytes_of_four (a ∷ b ∷ c ∷ d ∷ e ∷ ws) l t = absurd (omega arith)

to_bytes : (ws : List ℕ) → Vector ws → digits_l 256 32 (number_l (2 ^ 64) ws) ≡ permute flip (vector_bytes ws)
to_bytes ws v =
    let t = below_from_Fits w64 ws v.1 in
    sym (digits_each-digits_l 256 (omega arith) 8 4 (number_l (2 ^ 64) ws))
    ∙ ap (digits_each 256 8) (ap (λ n. digits_l (2 ^ 64) n (number_l (2 ^ 64) ws)) (sym v.0) ∙ digits_l-number_l (2 ^ 64) ws t)
    ∙ low_bytes_of_four ws v.0 t

from_bytes : (bs : List ℕ) → length bs ≡ 32 → Bytes bs → vector_bytes (digits_l (2 ^ 64) 4 (number_l 256 bs)) ≡ permute flip bs
from_bytes bs l t =
    let ws = digits_l (2 ^ 64) 4 (number_l 256 bs) in
    sym (permute_back 32 flip flip (vector_bytes ws) (record { long = refl; below = tt; identity = refl }) (length_vector ws))
    ∙ ap (permute flip)
    (sym (low_bytes_of_four ws refl (digits_l-below (2 ^ 64) (omega arith) 4 (number_l 256 bs)))
    ∙ digits_each-digits_l 256 (omega arith) 8 4 (number_l 256 bs)
    ∙ ap (λ n. digits_l 256 n (number_l 256 bs)) (sym l) ∙ digits_l-number_l 256 bs t)

-- the bytes that stand at these places, each word's lowest first
abbrev pub swizzled : List ℕ → List ℕ → List ℕ
swizzled ps ws = digits_l (2 ^ 64) 4 (number_l 256 (permute ps (digits_l 256 32 (number_l (2 ^ 64) ws))))

swizzled_is : (ps ws : List ℕ) → Vector ws → length ps ≡ 32 → T (all_below 32 ps)
    → vector_bytes (swizzled ps ws) ≡ permute (permute flip (permute ps flip)) (vector_bytes ws)
swizzled_is ps ws v l below =
    let low = digits_l 256 32 (number_l (2 ^ 64) ws) in
    let long : length (permute ps flip) ≡ 32 = length-map ps (λ k. get_or flip k 0) ∙ l in
    from_bytes (permute ps low) (length-map ps (λ k. get_or low k 0) ∙ l) (bounded-permute 256 (omega arith) ps low (digits_l-below 256 (omega arith) 32 (number_l (2 ^ 64) ws)))
    ∙ ap (λ xs. permute flip (permute ps xs)) (to_bytes ws v)
    ∙ ap (permute flip) (permute-permute (vector_bytes ws) flip ps below)
    ∙ permute-permute (vector_bytes ws) (permute ps flip) flip (subst (λ n. T (all_below n flip)) (sym long) tt)

-- whether these places go through the permutation ks in each of the n parts of m bytes
abbrev pub in_order : ℕ → ℕ → List ℕ → List ℕ → Bool
in_order m n ks ps = all (λ i. same (part m i (permute flip (permute ps flip))) (map (λ k. i * m + k) ks)) n

pub swizzled_in_lanes : (m n : ℕ) (ks ps ws : List ℕ) → Vector ws → length ps ≡ 32 → T (all_below 32 ps) → T (all_below m ks) → T (in_order m n ks ps)
    → InLanes m n ks (vector_bytes ws) (vector_bytes (swizzled ps ws))
swizzled_in_lanes m n ks ps ws v l below within t i h =
    let places = permute flip (permute ps flip) in
    ap (part m i) (swizzled_is ps ws v l below)
    ∙ part-permute m i places ks (vector_bytes ws) within
    (same_equal (part m i places) (map (λ k. i * m + k) ks) (all_at (λ i. same (part m i places) (map (λ k. i * m + k) ks)) n t i h))
