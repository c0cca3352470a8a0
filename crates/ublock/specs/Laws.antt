-- What holds of every layout whose byte permutations have inverses, whatever its half length and its rotations are.
use Rattle.std.specs.Prelude.{◌≡◌, ℕ, ◌<◌, T, List, length}
use Rattle.std.specs.Simd.Lanes.{Each1, all_below}
use Rattle.std.specs.List.{range_with_len}
use Rattle.ublock.specs.Cipher.{Layout, Parameters, permute, round, inverse_round, encipher, decipher, block_length, key_length, E, D}

abbrev pub Bytes : List ℕ → Type 0
Bytes xs = Each1 (λ b. b < 256) xs

pub record Block (n : ℕ) (xs : List ℕ) : Type 0 where
  pub long : length xs ≡ n
  pub bytes : Bytes xs

-- the permutation qs of m places undoes the permutation ps: qs of ps is 0, 1, .. m - 1
pub record Undoes (m : ℕ) (qs ps : List ℕ) : Type 0 where
  pub long : length ps ≡ m
  pub below : T (all_below m qs)
  pub identity : permute qs ps ≡ range_with_len 0 m

pub record Invertible (l : Layout) : Type 0 where
  pub left : Undoes l.half l.PL_inverse l.PL
  pub left_back : Undoes l.half l.PL l.PL_inverse
  pub right : Undoes l.half l.PR_inverse l.PR
  pub right_back : Undoes l.half l.PR l.PR_inverse

-- the inverse round undoes the round, and the round undoes the inverse round
abbrev pub RoundUndone : Type 0
RoundUndone =
    (l : Layout) → Invertible l → (key x : List ℕ) → Bytes key → Block (block_length l) x
    → (inverse_round l key (round l key x) ≡ x) × (round l key (inverse_round l key x) ≡ x)

-- a permutation of the blocks of b bytes, with its inverse; both keep the length of any list of b numbers
pub record Permutes (b : ℕ) (enc dec : List ℕ → List ℕ) : Type 0 where
  pub enc_long : (x : List ℕ) → length x ≡ b → length (enc x) ≡ b
  pub dec_long : (x : List ℕ) → length x ≡ b → length (dec x) ≡ b
  pub enc_block : (x : List ℕ) → Block b x → Block b (enc x)
  pub dec_block : (x : List ℕ) → Block b x → Block b (dec x)
  pub dec_enc : (x : List ℕ) → Block b x → dec (enc x) ≡ x
  pub enc_dec : (x : List ℕ) → Block b x → enc (dec x) ≡ x

-- for any number of rounds and any round keys
abbrev pub CipherPermutes : Type 0
CipherPermutes =
    (l : Layout) → Invertible l → (rk : ℕ → List ℕ) → ((j : ℕ) → Bytes (rk j)) → (r : ℕ)
    → Permutes (block_length l) (encipher l rk r) (decipher l rk r)

-- of one variant, under every key
abbrev pub VariantPermutes : Parameters → Type 0
VariantPermutes p = (key : List ℕ) → Block (key_length p) key → Permutes (block_length p.layout) (E p key) (D p key)
