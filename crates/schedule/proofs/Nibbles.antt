-- Nibbles of the front of a row of bytes.
use Rattle.std.proofs.Common.{◌≡◌, ℕ, zero, suc, ◌*◌, ◌<◌, List, [], ◌∷◌, length, get_or, take, refl, arith}
use Rattle.ublock.specs.Cipher.{nibbles, permute}

get_or-nibbles-take : (n : ℕ) (xs : List ℕ) (i : ℕ) → i < n * 2 → get_or (nibbles (take n xs)) i 0 ≡ get_or (nibbles xs) i 0
get_or-nibbles-take zero xs i h = absurd (omega arith)
get_or-nibbles-take (suc n) [] i h = refl
get_or-nibbles-take (suc n) (x ∷ xs) zero h = refl
get_or-nibbles-take (suc n) (x ∷ xs) (suc zero) h = refl
get_or-nibbles-take (suc n) (x ∷ xs) (suc (suc i)) h = get_or-nibbles-take n xs i (omega arith)

-- a permutation that takes nibbles of the first n bytes alone
pub permute-nibbles-take : (n : ℕ) (ks xs : List ℕ) → ((k : ℕ) → k < length ks → get_or ks k 0 < n * 2) → permute ks (nibbles (take n xs)) ≡ permute ks (nibbles xs)
permute-nibbles-take n [] xs w = refl
permute-nibbles-take n (k ∷ ks) xs w = rw (get_or-nibbles-take n xs k (w 0 (omega arith)), permute-nibbles-take n ks xs (λ i h. w (suc i) (omega arith))) refl
