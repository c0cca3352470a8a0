-- Bytes added to a row, one after the other.
use Rattle.std.proofs.Common.{◌≡◌, ℕ, zero, suc, ◌+◌, ◌<◌, ◌≤◌, List, [], ◌∷◌, ◌++◌, length, get_or, set, take, drop, min, refl, sym, ap, ◌∙◌, add-one, arith}
use lib.Bits.{bit_xor}
use Rattle.std.proofs.lemmas.List.{take-append-drop}
use Rattle.ublock.specs.Cipher.{xor}

-- the first i bytes of ys added to those of xs
abbrev pub added_up_to : ℕ → List ℕ → List ℕ → List ℕ
added_up_to i xs ys = xor (take i xs) ys ++ drop i xs

-- past the end of either row nothing is left to add
pub added_all : (i : ℕ) (xs ys : List ℕ) → min (length xs) (length ys) ≤ i → added_up_to i xs ys ≡ xor xs ys
added_all zero [] ys h = refl
added_all (suc i) [] ys h = refl
added_all zero (x ∷ xs) [] h = refl
added_all (suc i) (x ∷ xs) [] h = ap (λ zs. x ∷ zs) (take-append-drop i xs)
added_all zero (x ∷ xs) (y ∷ ys) h = absurd (omega arith)
added_all (suc i) (x ∷ xs) (y ∷ ys) h = ap (λ zs. bit_xor x y ∷ zs) (added_all i xs ys (omega arith))

added_here : (i : ℕ) (xs ys : List ℕ) → get_or (added_up_to i xs ys) i 0 ≡ get_or xs i 0
added_here zero xs ys = refl
added_here (suc i) [] ys = refl
added_here (suc i) (x ∷ xs) [] = ap (λ zs. get_or zs i 0) (take-append-drop i xs)
added_here (suc i) (x ∷ xs) (y ∷ ys) = added_here i xs ys

set_here : (i : ℕ) (xs ys : List ℕ) → i < length xs → i < length ys
    → set (added_up_to i xs ys) i (bit_xor (get_or xs i 0) (get_or ys i 0)) ≡ added_up_to (suc i) xs ys
set_here i [] ys h k = absurd (omega arith)
set_here i (x ∷ xs) [] h k = absurd (omega arith)
set_here zero (x ∷ xs) (y ∷ ys) h k = refl
set_here (suc i) (x ∷ xs) (y ∷ ys) h k = ap (λ zs. bit_xor x y ∷ zs) (set_here i xs ys (omega arith) (omega arith))

-- one byte more
pub added_more : (i : ℕ) (xs ys now : List ℕ) → i < length xs → i < length ys → now ≡ added_up_to i xs ys
    → set now i (bit_xor (get_or now i 0) (get_or ys i 0)) ≡ added_up_to (i + 1) xs ys
added_more i xs ys now h k is =
    let y = get_or ys i 0 in
    ap (λ z. set z i (bit_xor (get_or z i 0) y)) is ∙ ap (λ x. set (added_up_to i xs ys) i (bit_xor x y)) (added_here i xs ys)
    ∙ set_here i xs ys h k ∙ ap (λ m. added_up_to m xs ys) (sym (add-one i))
