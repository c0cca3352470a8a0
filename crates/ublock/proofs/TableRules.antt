-- The rules of the tables, each by one computed test.
use Rattle.std.proofs.Common.{◌≡◌, ℕ, suc, Bool, true, false, ◌&&◌, T, eqb, ltb, List, [], ◌∷◌, length, get_or, refl, eqb→eq}
use lib.Bits.{bit_xor}
use Rattle.ublock.specs.Cipher.{S, S_inverse, on_nibbles, be4, RC}
use Rattle.ublock.specs.Tables.{SubstitutionUndone, LayoutsInvertible, occurs, Permutation, PKsPermute, w, ConstantsFromShiftRegister}
use Rattle.ublock.proofs.Check.{both, all, all_at, agree, bounded}

pub substitution_undone : SubstitutionUndone
substitution_undone = record {
  inverse_of_S = agree (λ b. on_nibbles S_inverse (on_nibbles S b)) (λ b. b) 256 tt;
  S_of_inverse = agree (λ b. on_nibbles S (on_nibbles S_inverse b)) (λ b. b) 256 tt;
  S_byte = bounded (on_nibbles S) 256 256 tt;
  inverse_byte = bounded (on_nibbles S_inverse) 256 256 tt;
}

pub layouts_invertible : LayoutsInvertible
layouts_invertible = (
  record {
    left = record { long = refl; below = tt; identity = refl };
    left_back = record { long = refl; below = tt; identity = refl };
    right = record { long = refl; below = tt; identity = refl };
    right_back = record { long = refl; below = tt; identity = refl };
  },
  record {
    left = record { long = refl; below = tt; identity = refl };
    left_back = record { long = refl; below = tt; identity = refl };
    right = record { long = refl; below = tt; identity = refl };
    right_back = record { long = refl; below = tt; identity = refl };
  },
)

permutation : (n : ℕ) (ps : List ℕ) → length ps ≡ n → T (all (λ i. ltb (get_or ps i 0) n) n) → T (all (λ k. occurs k ps) n) → Permutation n ps
permutation n ps l b o = record { long = l; below = bounded (λ i. get_or ps i 0) n n b; all = all_at (λ k. occurs k ps) n o }

pub PKs_permute : PKsPermute
PKs_permute = (permutation _ _ refl tt tt, permutation _ _ refl tt tt, permutation _ _ refl tt tt)

-- lists of numbers that a test finds equal are equal
abbrev pub same : List ℕ → List ℕ → Bool
same [] [] = true
same [] (y ∷ ys) = false
same (x ∷ xs) [] = false
same (x ∷ xs) (y ∷ ys) = eqb x y && same xs ys

pub same_equal : (xs ys : List ℕ) → T (same xs ys) → xs ≡ ys
same_equal [] [] t = refl
same_equal [] (y ∷ ys) t = absurd t
same_equal (x ∷ xs) [] t = absurd t
same_equal (x ∷ xs) (y ∷ ys) t =
    let ts = both (eqb x y) (same xs ys) t in
    rw (eqb→eq x y ts.0, same_equal xs ys ts.1)

masked : ℕ → List ℕ
masked i = bit_xor (w (suc i)) 0x40 ∷ bit_xor (w (suc i)) 0x54 ∷ bit_xor (w (suc i)) 0x11 ∷ bit_xor (w (suc i)) 0x05 ∷ []

pub constants_from_shift_register : ConstantsFromShiftRegister
unfolding masked
constants_from_shift_register =
    (refl, λ i h. same_equal (be4 (get_or RC i 0)) (masked i) (all_at (λ i. same (be4 (get_or RC i 0)) (masked i)) 24 tt i h))
