-- The block cipher uBlock, over lists of bytes: the definitions that everything else rests on.
-- A byte's high nibble comes first. A permutation is the list of its sources: place i takes element P(i).
use Rattle.std.specs.Prelude.{ℕ, zero, suc, ◌+◌, ◌-◌, ◌*◌, ◌/◌, ◌%◌, ◌^◌, List, [], ◌∷◌, ◌++◌, map, take, drop, bit_xor, slice_index}
use Rattle.std.specs.Int.Digits.{number_from_digits}

-- ---- substitution
abbrev pub S : List ℕ
S = 0x7 ∷ 0x4 ∷ 0x9 ∷ 0xc ∷ 0xb ∷ 0xa ∷ 0xd ∷ 0x8 ∷ 0xf ∷ 0xe ∷ 0x1 ∷ 0x6 ∷ 0x0 ∷ 0x3 ∷ 0x2 ∷ 0x5 ∷ []

abbrev pub S_inverse : List ℕ
S_inverse = 0xc ∷ 0xa ∷ 0xe ∷ 0xd ∷ 0x1 ∷ 0xf ∷ 0xb ∷ 0x0 ∷ 0x7 ∷ 0x2 ∷ 0x5 ∷ 0x4 ∷ 0x3 ∷ 0x6 ∷ 0x9 ∷ 0x8 ∷ []

-- a table of sixteen nibbles on both nibbles of a byte
abbrev pub on_nibbles : List ℕ → ℕ → ℕ
on_nibbles table b = slice_index table (b / 16) * 16 + slice_index table (b % 16)

abbrev pub substitute : List ℕ → List ℕ → List ℕ
substitute table xs = map (on_nibbles table) xs

-- ---- exclusive or, rotation, permutation
-- xs with ys added to it: as long as xs, which stays as it is where ys has ended
abbrev pub xor : List ℕ → List ℕ → List ℕ
xor [] ys = []
xor (x ∷ xs) [] = x ∷ xs
xor (x ∷ xs) (y ∷ ys) = bit_xor x y ∷ xor xs ys

-- the four bytes of a 32-bit number, the highest first
abbrev pub be4 : ℕ → List ℕ
be4 n = (n / 16777216 % 256) ∷ (n / 65536 % 256) ∷ (n / 256 % 256) ∷ (n % 256) ∷ []

-- a 32-bit number rotated left by b bits, b below 32
abbrev pub rotated : ℕ → ℕ → ℕ
rotated b n = n * 2 ^ b % 2 ^ 32 + n / 2 ^ (32 - b)

-- each 32-bit piece rotated left by b bits; fewer than four bytes at the end stay
abbrev pub rotate : ℕ → List ℕ → List ℕ
rotate b [] = []
rotate b (p ∷ []) = p ∷ []
rotate b (p ∷ q ∷ []) = p ∷ q ∷ []
rotate b (p ∷ q ∷ r ∷ []) = p ∷ q ∷ r ∷ []
rotate b (p ∷ q ∷ r ∷ s ∷ xs) = be4 (rotated b (number_from_digits 256 (p ∷ q ∷ r ∷ s ∷ []))) ++ rotate b xs

abbrev pub permute : List ℕ → List ℕ → List ℕ
permute sources xs = map (λ i. slice_index xs i) sources

-- ---- the round
pub record Halves : Type 0 where
  pub left : List ℕ
  pub right : List ℕ

-- a step of the mixing: one half takes the other, rotated by so many bits
pub data Step : Type 0 where
  into_right : ℕ → Step
  into_left : ℕ → Step

abbrev pub step : Step → Halves → Halves
step (into_right b) h = record { left = h.left; right = xor h.right (rotate b h.left) }
step (into_left b) h = record { left = xor h.left (rotate b h.right); right = h.right }

abbrev pub mixed : List Step → Halves → Halves
mixed [] h = h
mixed (s ∷ ss) h = mixed ss (step s h)

-- the same steps in reverse: each undoes itself
abbrev pub unmixed : List Step → Halves → Halves
unmixed [] h = h
unmixed (s ∷ ss) h = step s (unmixed ss h)

-- what a round does to the two halves: the half's length in bytes, the steps of the mixing,
-- the two byte permutations and the two that undo them
pub record Layout : Type 0 where
  pub half : ℕ
  pub mixing : List Step
  pub PL : List ℕ
  pub PR : List ℕ
  pub PL_inverse : List ℕ
  pub PR_inverse : List ℕ

abbrev pub permuted : List ℕ → List ℕ → Halves → Halves
permuted pl pr h = record { left = permute pl h.left; right = permute pr h.right }

abbrev pub split : ℕ → List ℕ → Halves
split m xs = record { left = take m xs; right = drop m xs }

abbrev pub joined : Halves → List ℕ
joined h = h.left ++ h.right

abbrev pub round : Layout → List ℕ → List ℕ → List ℕ
round l key x = joined (permuted l.PL l.PR (mixed l.mixing (split l.half (substitute S (xor x key)))))

abbrev pub inverse_round : Layout → List ℕ → List ℕ → List ℕ
inverse_round l key y =
    xor (substitute S_inverse (joined (unmixed l.mixing (permuted l.PL_inverse l.PR_inverse (split l.half y))))) key

-- ---- the cipher under round keys rk 0 to rk r
abbrev pub rounds : Layout → (ℕ → List ℕ) → ℕ → List ℕ → List ℕ
rounds l rk zero x = x
rounds l rk (suc j) x = round l (rk j) (rounds l rk j x)

abbrev pub inverse_rounds : Layout → (ℕ → List ℕ) → ℕ → List ℕ → List ℕ
inverse_rounds l rk zero y = y
inverse_rounds l rk (suc j) y = inverse_rounds l rk j (inverse_round l (rk j) y)

abbrev pub encipher : Layout → (ℕ → List ℕ) → ℕ → List ℕ → List ℕ
encipher l rk r x = xor (rounds l rk r x) (rk r)

abbrev pub decipher : Layout → (ℕ → List ℕ) → ℕ → List ℕ → List ℕ
decipher l rk r y = inverse_rounds l rk r (xor y (rk r))

-- ---- the key register
abbrev pub nibbles : List ℕ → List ℕ
nibbles [] = []
nibbles (x ∷ xs) = (x / 16) ∷ (x % 16) ∷ nibbles xs

-- the bytes whose nibbles these are
abbrev pub paired : List ℕ → List ℕ
paired [] = []
paired (x ∷ []) = []
paired (x ∷ y ∷ xs) = (x * 16 + y) ∷ paired xs

-- twice a nibble in GF(16), modulo x^4 + x + 1
abbrev pub double : ℕ → ℕ
double n = bit_xor (n * 2 % 16) (n / 8 * 3)

abbrev pub double_nibbles : ℕ → ℕ
double_nibbles b = double (b / 16) * 16 + double (b % 16)

-- K0 ‖ K1 after PK, the constant's four bytes, and the register before the step, of which K2 and K3 are taken:
-- K2 ⊕ S(K0 ⊕ RC) ‖ K3 ⊕ 2 K1 ‖ K1 ‖ K0, each of q bytes
abbrev pub key_step_from : ℕ → List ℕ → List ℕ → List ℕ → List ℕ
key_step_from q front rc k =
    let k0 = take q front in
    let k1 = drop q front in
    let k2 = xor (take q (drop (q + q) k)) (substitute S (xor k0 rc)) in
    let k3 = xor (drop (q + q + q) k) (map double_nibbles k1) in
    k2 ++ (k3 ++ (k1 ++ k0))

abbrev pub key_step : List ℕ → ℕ → ℕ → List ℕ → List ℕ
key_step pk q rc k = key_step_from q (paired (permute pk (nibbles (take (q + q) k)))) (be4 rc) k

abbrev pub RC : List ℕ
RC =
    0x988cc9dd ∷ 0xf0e4a1b5 ∷ 0x21357064 ∷ 0x8397d2c6 ∷ 0xc7d39682 ∷ 0x4f5b1e0a ∷ 0x5e4a0f1b ∷ 0x7c682d39
    ∷ 0x392d687c ∷ 0xb3a7e2f6 ∷ 0xa7b3f6e2 ∷ 0x8e9adfcb ∷ 0xdcc88d99 ∷ 0x786c293d ∷ 0x30246175 ∷ 0xa1b5f0e4
    ∷ 0x8296d3c7 ∷ 0xc5d19480 ∷ 0x4a5e1b0f ∷ 0x55410410 ∷ 0x6b7f3a2e ∷ 0x17034652 ∷ 0xeffbbeaa ∷ 0x1f0b4e5a ∷ []

-- ---- the three variants
abbrev pub mixing : List Step
mixing = into_right 0 ∷ into_left 4 ∷ into_right 8 ∷ into_left 8 ∷ into_right 20 ∷ into_left 0 ∷ []

abbrev pub layout128 : Layout
layout128 = record {
  half = 8;
  mixing = mixing;
  PL = 1 ∷ 3 ∷ 4 ∷ 6 ∷ 0 ∷ 2 ∷ 7 ∷ 5 ∷ [];
  PR = 2 ∷ 7 ∷ 5 ∷ 0 ∷ 1 ∷ 6 ∷ 4 ∷ 3 ∷ [];
  PL_inverse = 4 ∷ 0 ∷ 5 ∷ 1 ∷ 2 ∷ 7 ∷ 3 ∷ 6 ∷ [];
  PR_inverse = 3 ∷ 4 ∷ 0 ∷ 7 ∷ 6 ∷ 2 ∷ 5 ∷ 1 ∷ [];
}

abbrev pub layout256 : Layout
layout256 = record {
  half = 16;
  mixing = mixing;
  PL = 2 ∷ 7 ∷ 8 ∷ 13 ∷ 3 ∷ 6 ∷ 9 ∷ 12 ∷ 1 ∷ 4 ∷ 15 ∷ 10 ∷ 14 ∷ 11 ∷ 5 ∷ 0 ∷ [];
  PR = 6 ∷ 11 ∷ 1 ∷ 12 ∷ 9 ∷ 4 ∷ 2 ∷ 15 ∷ 7 ∷ 0 ∷ 13 ∷ 10 ∷ 14 ∷ 3 ∷ 8 ∷ 5 ∷ [];
  PL_inverse = 15 ∷ 8 ∷ 0 ∷ 4 ∷ 9 ∷ 14 ∷ 5 ∷ 1 ∷ 2 ∷ 6 ∷ 11 ∷ 13 ∷ 7 ∷ 3 ∷ 12 ∷ 10 ∷ [];
  PR_inverse = 9 ∷ 2 ∷ 6 ∷ 13 ∷ 5 ∷ 15 ∷ 0 ∷ 8 ∷ 14 ∷ 4 ∷ 11 ∷ 1 ∷ 3 ∷ 10 ∷ 12 ∷ 7 ∷ [];
}

abbrev pub PK1 : List ℕ
PK1 = 6 ∷ 0 ∷ 8 ∷ 13 ∷ 1 ∷ 15 ∷ 5 ∷ 10 ∷ 4 ∷ 9 ∷ 12 ∷ 2 ∷ 11 ∷ 3 ∷ 7 ∷ 14 ∷ []

abbrev pub PK2 : List ℕ
PK2 =
    10 ∷ 5 ∷ 15 ∷ 0 ∷ 2 ∷ 7 ∷ 8 ∷ 13 ∷ 14 ∷ 6 ∷ 4 ∷ 12 ∷ 1 ∷ 3 ∷ 11 ∷ 9
    ∷ 24 ∷ 25 ∷ 26 ∷ 27 ∷ 28 ∷ 29 ∷ 30 ∷ 31 ∷ 16 ∷ 17 ∷ 18 ∷ 19 ∷ 20 ∷ 21 ∷ 22 ∷ 23 ∷ []

abbrev pub PK3 : List ℕ
PK3 =
    10 ∷ 5 ∷ 15 ∷ 0 ∷ 2 ∷ 7 ∷ 8 ∷ 13 ∷ 1 ∷ 14 ∷ 4 ∷ 12 ∷ 9 ∷ 11 ∷ 3 ∷ 6
    ∷ 24 ∷ 25 ∷ 26 ∷ 27 ∷ 28 ∷ 29 ∷ 30 ∷ 31 ∷ 16 ∷ 17 ∷ 18 ∷ 19 ∷ 20 ∷ 21 ∷ 22 ∷ 23 ∷ []

-- what a variant fixes: its round, how many there are, a quarter of its key in bytes and its nibble permutation
pub record Parameters : Type 0 where
  pub layout : Layout
  pub round_count : ℕ
  pub quarter : ℕ
  pub PK : List ℕ

abbrev pub ublock128_128 : Parameters
ublock128_128 = record { layout = layout128; round_count = 16; quarter = 4; PK = PK1 }

abbrev pub ublock128_256 : Parameters
ublock128_256 = record { layout = layout128; round_count = 24; quarter = 8; PK = PK2 }

abbrev pub ublock256_256 : Parameters
ublock256_256 = record { layout = layout256; round_count = 24; quarter = 8; PK = PK3 }

abbrev pub block_length : Layout → ℕ
block_length l = l.half + l.half

abbrev pub key_length : Parameters → ℕ
key_length p = p.quarter * 4

-- the register after j steps; step j takes RC_j, which is entry j - 1 of the table
abbrev pub register : Parameters → List ℕ → ℕ → List ℕ
register p key zero = key
register p key (suc j) = key_step p.PK p.quarter (slice_index RC j) (register p key j)

abbrev pub RK : Parameters → List ℕ → ℕ → List ℕ
RK p key j = take (block_length p.layout) (register p key j)

abbrev pub E : Parameters → List ℕ → List ℕ → List ℕ
E p key x = encipher p.layout (RK p key) p.round_count x

abbrev pub D : Parameters → List ℕ → List ℕ → List ℕ
D p key y = decipher p.layout (RK p key) p.round_count y
