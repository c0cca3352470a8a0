-- Nibbles of bytes, and bytes of nibbles, by place.
use Rattle.std.proofs.Common.{◌≡◌, ℕ, zero, suc, ◌*◌, ◌/◌, ◌%◌, ◌<◌, List, [], ◌∷◌, length, get_or, refl, ap, ◌∙◌, subst, arith}
use lib.Lanes.{Each1}
use Rattle.std.proofs.lemmas.List.{length-map}
use Rattle.ublock.specs.Cipher.{nibbles, paired, permute}
use Rattle.ublock.specs.Laws.{Bytes}

twice_suc : (j : ℕ) → suc (suc (j * 2)) ≡ suc j * 2
twice_suc j = omega arith

pub nibbles_high : (xs : List ℕ) (j : ℕ) → get_or (nibbles xs) (j * 2) 0 ≡ get_or xs j 0 / 16
nibbles_high [] j = refl
nibbles_high (x ∷ xs) zero = refl
nibbles_high (x ∷ xs) (suc j) = subst (λ n. get_or (nibbles (x ∷ xs)) n 0 ≡ get_or xs j 0 / 16) (twice_suc j) (nibbles_high xs j)

pub nibbles_low : (xs : List ℕ) (j : ℕ) → get_or (nibbles xs) (suc (j * 2)) 0 ≡ get_or xs j 0 % 16
nibbles_low [] j = refl
nibbles_low (x ∷ xs) zero = refl
nibbles_low (x ∷ xs) (suc j) = subst (λ n. get_or (nibbles (x ∷ xs)) (suc n) 0 ≡ get_or xs j 0 % 16) (twice_suc j) (nibbles_low xs j)

pub length-paired : (ys : List ℕ) (n : ℕ) → length ys ≡ n * 2 → length (paired ys) ≡ n
length-paired [] n e = omega arith
length-paired (x ∷ []) n e = absurd (omega arith)
length-paired (x ∷ y ∷ ys) zero e = absurd (omega arith)
length-paired (x ∷ y ∷ ys) (suc n) e = ap suc (length-paired ys n (omega arith))

pub length_picked : (ks xs : List ℕ) (n : ℕ) → length ks ≡ n * 2 → length (paired (permute ks (nibbles xs))) ≡ n
length_picked ks xs n e = length-paired (permute ks (nibbles xs)) n (length-map ks (λ k. get_or (nibbles xs) k 0) ∙ e)

-- ---- bytes have nibbles, and nibbles make bytes
pub nibbles_small : (xs : List ℕ) → Bytes xs → Each1 (λ n. n < 16) (nibbles xs)
nibbles_small [] t = tt
nibbles_small (x ∷ xs) t = let h = t.0 in (omega arith, (omega arith, nibbles_small xs t.1))

pub paired_bytes : (ys : List ℕ) → Each1 (λ n. n < 16) ys → Bytes (paired ys)
paired_bytes [] t = tt
paired_bytes (x ∷ []) t = tt
paired_bytes (x ∷ y ∷ ys) t = let h = t.0 in let g = t.1.0 in (omega arith, paired_bytes ys t.1.1)
