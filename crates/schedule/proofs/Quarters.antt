-- A step of the key register, written quarter by quarter.
use Rattle.std.proofs.Common.{◌≡◌, ℕ, zero, suc, ◌+◌, ◌-◌, ◌*◌, ◌<◌, ◌≤◌, List, [], ◌∷◌, ◌++◌, map, length, get_or, set, take, drop, sym, refl, ap, ◌∙◌, arith}
use lib.Bits.{bit_xor, xor_zero_r}
use Rattle.std.proofs.lemmas.List.{get_or-map, length-set, drop-take, drop-drop, get_or_past, ext_get_or}
use Rattle.std.proofs.lemmas.Grind.{elements}
use Rattle.ublock.specs.Cipher.{S, on_nibbles, substitute, xor, double_nibbles, key_step_from}
use Rattle.ublock.proofs.Bytes.{length-xor}
use Rattle.schedule.specs.Registers.{padded}
use Rattle.schedule.proofs.Padding.{length-padded, get_or-padded}

-- an exclusive or by place, whatever the second list's length
get_or-xor : (xs ys : List ℕ) (i : ℕ) → i < length xs → get_or (xor xs ys) i 0 ≡ bit_xor (get_or xs i 0) (get_or ys i 0)
get_or-xor [] ys i h = absurd (omega arith)
get_or-xor (x ∷ xs) [] i h = sym (xor_zero_r (get_or (x ∷ xs) i 0))
get_or-xor (x ∷ xs) (y ∷ ys) zero h = refl
get_or-xor (x ∷ xs) (y ∷ ys) (suc i) h = get_or-xor xs ys i (omega arith)

-- the four quarters that a step leaves
abbrev pub quarters : List ℕ → List ℕ → List ℕ → List ℕ → List ℕ → List ℕ
quarters k0 k1 k2 k3 rc = xor k2 (substitute S (xor k0 rc)) ++ (xor k3 (map double_nibbles k1) ++ (k1 ++ k0))

-- where they are cut out of the permuted front, the first bytes of f, and of the register, those of b
pub quarters_cut : (q : ℕ) (f b k0 k1 k2 k3 rc : List ℕ) → k0 ≡ take q (take (q * 2) f) → k1 ≡ drop q (take (q * 2) f)
    → k2 ≡ take q (take (q * 4 - q * 2) (drop (q * 2) b)) → k3 ≡ drop q (take (q * 4 - q * 2) (drop (q * 2) b))
    → quarters k0 k1 k2 k3 rc ≡ key_step_from q (take (q + q) f) rc (take (q * 4) b)
quarters_cut q f b k0 k1 k2 k3 rc e0 e1 e2 e3 =
    let twice : q * 2 ≡ q + q = omega arith in
    let whole : q + q + (q * 4 - q * 2) ≡ q * 4 = omega arith in
    let back : take (q * 4 - q * 2) (drop (q * 2) b) ≡ drop (q + q) (take (q * 4) b) =
    ap (λ n. take (q * 4 - q * 2) (drop n b)) twice ∙ sym (drop-take (q + q) (q * 4 - q * 2) b) ∙ ap (λ n. drop (q + q) (take n b)) whole in
    cc (ap (λ n. take n f) twice, back, drop-drop q (q + q) (take (q * 4) b))

-- 32 bytes have the first j bytes of each quarter of ts, and zeros past the quarters
pub record Written (q j : ℕ) (xs ts : List ℕ) : Type 0 where
  pub long : length xs ≡ 32
  pub first : (i : ℕ) → i < j → get_or xs i 0 ≡ get_or ts i 0
  pub second : (i : ℕ) → i < j → get_or xs (q + i) 0 ≡ get_or ts (q + i) 0
  pub third : (i : ℕ) → i < j → get_or xs (q * 2 + i) 0 ≡ get_or ts (q * 2 + i) 0
  pub fourth : (i : ℕ) → i < j → get_or xs (q * 3 + i) 0 ≡ get_or ts (q * 3 + i) 0
  pub past : (i : ℕ) → q * 4 ≤ i → get_or xs i 0 ≡ 0

pub written_none : (q : ℕ) (ts : List ℕ) → Written q 0 (padded []) ts
written_none q ts = record {
  long = refl;
  first = λ i h. absurd (omega arith);
  second = λ i h. absurd (omega arith);
  third = λ i h. absurd (omega arith);
  fourth = λ i h. absurd (omega arith);
  past = λ i h. get_or-padded [] i;
}

one_more : (q j : ℕ) (xs ts : List ℕ) (a b c d : ℕ) → Written q j xs ts → j < q → q ≤ 8
    → a ≡ get_or ts j 0 → b ≡ get_or ts (q + j) 0 → c ≡ get_or ts (q * 2 + j) 0 → d ≡ get_or ts (q * 3 + j) 0
    → Written q (j + 1) (set (set (set (set xs j a) (q + j) b) (q * 2 + j) c) (q * 3 + j) d) ts
one_more q j xs ts a b c d w lt few ea eb ec ed = record {
  long = simp length-set w.long;
  first = λ i h. grind (arith, elements, w.first i);
  second = λ i h. grind (arith, elements, w.second i);
  third = λ i h. grind (arith, elements, w.third i);
  fourth = λ i h. grind (arith, elements, w.fourth i);
  past = λ i h. grind (arith, elements, w.past i);
}

module _ (q : ℕ) (k0 k1 k2 k3 rc : List ℕ) (few : q ≤ 8) (long0 : length k0 ≡ q) (long1 : length k1 ≡ q) (long2 : length k2 ≡ q) (long3 : length k3 ≡ q) where
  abbrev next : List ℕ
  next = quarters k0 k1 k2 k3 rc

  -- one more byte of each quarter
  pub written_more : (j : ℕ) (xs : List ℕ) (s d : ℕ) → Written q j xs next → j < q
      → s ≡ on_nibbles S (bit_xor (get_or k0 j 0) (get_or rc j 0)) → d ≡ double_nibbles (get_or k1 j 0)
      → Written q (j + 1) (set (set (set (set xs j (bit_xor (get_or k2 j 0) s)) (q + j) (bit_xor (get_or k3 j 0) d)) (q * 2 + j) (get_or k1 j 0)) (q * 3 + j) (get_or k0 j 0)) next
  written_more j xs s d w h es ed =
      one_more q j xs next _ _ _ _ w h few
      (grind (arith, elements, es, length-xor, get_or-xor, get_or-map (on_nibbles S) (xor k0 rc) j 0 0))
      (grind (arith, elements, ed, length-xor, get_or-xor, get_or-map double_nibbles k1 j 0 0))
      (grind (arith, elements, length-xor))
      (grind (arith, elements, length-xor))

  -- all of each quarter
  pub written_all : (xs : List ℕ) → Written q q xs next → xs ≡ padded next
  written_all xs w =
      let long : length next ≡ q * 4 = grind (arith, elements, length-xor) in
      ext_get_or 0 xs (padded next) (w.long ∙ sym (length-padded next (omega (arith, long))))
      (λ i h. grind (arith, get_or-padded next i, get_or_past next i 0, w.first i, w.second (i - q), w.third (i - q * 2), w.fourth (i - q * 3), w.past i))
