-- The rules that the published tables keep, each over the whole table.
use Rattle.std.specs.Prelude.{◌≡◌, ℕ, zero, suc, ◌*◌, ◌<◌, Bool, false, ◌||◌, T, List, [], ◌∷◌, ◌++◌, length, drop, ◌==◌, bit_xor, slice_index}
use Rattle.std.specs.Int.Digits.{number_from_digits}
use Rattle.ublock.specs.Cipher.{S, S_inverse, on_nibbles, be4, RC, layout128, layout256, Parameters, ublock128_128, ublock128_256, ublock256_256}
use Rattle.ublock.specs.Laws.{Invertible}

-- S and its inverse undo each other on every byte, and give bytes
pub record SubstitutionUndone : Type 0 where
  pub inverse_of_S : (b : ℕ) → b < 256 → on_nibbles S_inverse (on_nibbles S b) ≡ b
  pub S_of_inverse : (b : ℕ) → b < 256 → on_nibbles S (on_nibbles S_inverse b) ≡ b
  pub S_byte : (b : ℕ) → b < 256 → on_nibbles S b < 256
  pub inverse_byte : (b : ℕ) → b < 256 → on_nibbles S_inverse b < 256

abbrev pub LayoutsInvertible : Type 0
LayoutsInvertible = Invertible layout128 × Invertible layout256

abbrev pub occurs : ℕ → List ℕ → Bool
occurs k [] = false
occurs k (p ∷ ps) = p == k || occurs k ps

-- a list of n places in which each number below n occurs is a permutation
pub record Permutation (n : ℕ) (ps : List ℕ) : Type 0 where
  pub long : length ps ≡ n
  pub below : (i : ℕ) → i < n → slice_index ps i < n
  pub all : (k : ℕ) → k < n → T (occurs k ps)

-- PK permutes the nibbles of the register's left half
abbrev pub PermutesNibbles : Parameters → Type 0
PermutesNibbles p = Permutation (p.quarter * 4) p.PK

abbrev pub PKsPermute : Type 0
PKsPermute = PermutesNibbles ublock128_128 × PermutesNibbles ublock128_256 × PermutesNibbles ublock256_256

-- the shift register of eight bits behind the constants: bits c_i to c_(i + 7), from c_0 to c_7 on,
-- where c_(i + 8) = c_(i + 6) ⊕ c_(i + 5) ⊕ c_(i + 1) ⊕ c_i
abbrev pub shifted : List ℕ → List ℕ
shifted c = drop 1 c ++ (bit_xor (bit_xor (slice_index c 6) (slice_index c 5)) (bit_xor (slice_index c 1) (slice_index c 0)) ∷ [])

abbrev pub bits_from : ℕ → List ℕ
bits_from zero = 0 ∷ 1 ∷ 1 ∷ 0 ∷ 1 ∷ 1 ∷ 0 ∷ 0 ∷ []
bits_from (suc i) = shifted (bits_from i)

-- the byte w_i, whose highest bit is c_i
abbrev pub w : ℕ → ℕ
w i = number_from_digits 2 (bits_from i)

abbrev pub ConstantsFromShiftRegister : Type 0
ConstantsFromShiftRegister =
    (length RC ≡ 24)
    × ((i : ℕ) → i < 24 → be4 (slice_index RC i) ≡ bit_xor (w (suc i)) 0x40 ∷ bit_xor (w (suc i)) 0x54 ∷ bit_xor (w (suc i)) 0x11 ∷ bit_xor (w (suc i)) 0x05 ∷ [])
