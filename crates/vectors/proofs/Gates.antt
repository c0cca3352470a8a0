-- Circuits on two words: where no mask reads across a nibble, a circuit acts on each nibble of the
-- one and the nibble at the same place of the other by themselves.
use Rattle.std.proofs.Common.{◌≡◌, ℕ, ◌+◌, ◌-◌, ◌*◌, ◌/◌, ◌%◌, ◌^◌, ◌<◌, ◌≤◌, Bool, true, ◌&&◌, T, eqb, leb, ltb, List, [], ◌∷◌, ◌++◌, map, length, sym, refl, ap, ◌∙◌, arith, eqb→eq, leb→le, ltb→lt}
use lib.Bits.{bit_and, and_block, and_shr, or_shr, xor_shr, and_mod, or_mod, xor_mod, and_le_r, and_zero_r}
use Rattle.std.specs.Prelude.{slice_index}
use Rattle.std.proofs.lemmas.Nat.{pow_pos, shl-shr, shr-shr, shr_split, field_of}
use Rattle.std.proofs.Math.Pow.{mod-mod-pow}
use Rattle.std.proofs.Math.Nat.{mod-mod, mod-eq_of_lt, pow-le-pow_right}
use Rattle.ublock.specs.Cipher.{S, S_inverse, on_nibbles}
use Rattle.ublock.proofs.Check.{all, both, agree}
use Rattle.vectors.specs.Vectors.{word64}
use Rattle.vectors.specs.Circuits.{Operation, Gate, Step, apply, value, run, run64, Through, exchange, two_gates, two_gates_reversed}
use Rattle.vectors.specs.Circuits.Operation.{and, or, xor}
use Rattle.vectors.specs.Circuits.Gate.{first, second, mask, up, down, on_both}
use Rattle.vectors.specs.Circuits.Step.{step}
use Rattle.std.specs.Simd.Lanes.{zip2}
use Rattle.vectors.proofs.Words.{eight, word64_is}

-- no mask reads across nibbles
abbrev local : Gate → Bool
local first = true
local second = true
local (mask b) = ltb b 16
local (up k b g) = local g && (leb k 4 && (ltb b 16 && eqb (b % 2 ^ k) 0))
local (down k b g) = local g && (leb k 4 && ltb b (2 ^ (4 - k)))
local (on_both f g h) = local g && local h

abbrev pub all_local : List Step → Bool
all_local [] = true
all_local (step g h ∷ ss) = local g && (local h && all_local ss)

-- ---- what a mask reads
-- a mask below 2 ^ j reads the lowest j bits
and_low : (j a b : ℕ) → b < 2 ^ j → bit_and a b ≡ bit_and (a % 2 ^ j) b
and_low j a b h =
    sym (mod-eq_of_lt (omega (arith, and_le_r a b))) ∙ and_mod a b j ∙ ap (bit_and (a % 2 ^ j)) (mod-eq_of_lt h)

-- a mask that is a multiple of 2 ^ k reads the bits from k on
and_high : (k a m : ℕ) → bit_and a (m * 2 ^ k) ≡ bit_and (a / 2 ^ k) m * 2 ^ k
and_high k a m =
    let p = pow_pos k in
    let e : m * 2 ^ k ≡ m * 2 ^ k + 0 = omega arith in
    ap (λ n. bit_and n (m * 2 ^ k)) (sym (shr_split a k)) ∙ ap (bit_and (a / 2 ^ k * 2 ^ k + a % 2 ^ k)) e
    ∙ and_block k (a / 2 ^ k) m (a % 2 ^ k) 0 (omega arith) p ∙ ap (λ n. bit_and (a / 2 ^ k) m * 2 ^ k + n) (and_zero_r (a % 2 ^ k)) ∙ omega arith

-- ---- the parts of a nibble
nibble_high : (j k n : ℕ) → j + k ≡ 4 → n % 2 ^ 4 / 2 ^ k ≡ n / 2 ^ k % 2 ^ j
nibble_high j k n e = ap (λ m. n % 2 ^ m / 2 ^ k) (sym e) ∙ field_of n j k

nibble_low : (j k n : ℕ) → j + k ≡ 4 → n % 2 ^ 4 % 2 ^ j ≡ n % 2 ^ j
nibble_low j k n e =
    let f : 4 ≡ k + j = omega arith in
    ap (λ m. n % 2 ^ m % 2 ^ j) f ∙ mod-mod-pow n k j

-- ---- the nibble from bit s on, of the numbers and of the masks
module _ (bits ones s : ℕ) (within : s + 4 ≤ bits) (masks : (b : ℕ) → b < 16 → ones * b / 2 ^ s % 2 ^ 4 ≡ b) where
  shifts_swap : (w k : ℕ) → w / 2 ^ k / 2 ^ s ≡ w / 2 ^ s / 2 ^ k
  shifts_swap w k = shr-shr w k s ∙ ap (λ n. w / 2 ^ n) (omega arith) ∙ sym (shr-shr w s k)

  masked_nibble : (a b : ℕ) → b < 16 → bit_and a (ones * b) / 2 ^ s % 2 ^ 4 ≡ bit_and (a / 2 ^ s % 2 ^ 4) b
  masked_nibble a b h =
      ap (λ n. n % 2 ^ 4) (and_shr a (ones * b) s) ∙ and_mod (a / 2 ^ s) (ones * b / 2 ^ s) 4 ∙ ap (bit_and (a / 2 ^ s % 2 ^ 4)) (masks b h)

  down_nibble : (j k w b : ℕ) → j + k ≡ 4 → b < 2 ^ j → b < 16 → bit_and (w / 2 ^ k) (ones * b) / 2 ^ s % 2 ^ 4 ≡ bit_and (w / 2 ^ s % 2 ^ 4 / 2 ^ k) (1 * b)
  down_nibble j k w b e hb hb4 =
      let one : 1 * b ≡ b = omega arith in
      let same : w / 2 ^ k / 2 ^ s % 2 ^ 4 % 2 ^ j ≡ w / 2 ^ s % 2 ^ 4 / 2 ^ k % 2 ^ j =
      nibble_low j k (w / 2 ^ k / 2 ^ s) e ∙ ap (λ n. n % 2 ^ j) (shifts_swap w k)
      ∙ sym (ap (λ n. n % 2 ^ j) (nibble_high j k (w / 2 ^ s) e) ∙ mod-mod (w / 2 ^ s / 2 ^ k) (2 ^ j)) in
      masked_nibble (w / 2 ^ k) b hb4 ∙ and_low j (w / 2 ^ k / 2 ^ s % 2 ^ 4) b hb ∙ ap (λ n. bit_and n b) same
      ∙ sym (ap (bit_and (w / 2 ^ s % 2 ^ 4 / 2 ^ k)) one ∙ and_low j (w / 2 ^ s % 2 ^ 4 / 2 ^ k) b hb)

  up_nibble : (j k w b : ℕ) → j + k ≡ 4 → b < 16 → b % 2 ^ k ≡ 0 → bit_and (w * 2 ^ k % 2 ^ bits) (ones * b) / 2 ^ s % 2 ^ 4 ≡ bit_and (w / 2 ^ s % 2 ^ 4 * 2 ^ k % 2 ^ 4) (1 * b)
  up_nibble j k w b e hb z =
      let m = b / 2 ^ k in
      let pos = pow_pos k in
      let i = bits - (s + 4) in
      let eb : b ≡ m * 2 ^ k = omega (arith, pos) in
      let one : 1 * b ≡ m * 2 ^ k = omega arith in
      let whole : bits ≡ i + j + s + k = omega arith in
      let v = w * 2 ^ k % 2 ^ bits in
      let shifted : v / 2 ^ k ≡ w % 2 ^ (i + j + s) = ap (λ n. w * 2 ^ k % 2 ^ n / 2 ^ k) whole ∙ field_of (w * 2 ^ k) (i + j + s) k ∙ ap (λ n. n % 2 ^ (i + j + s)) (shl-shr w k) in
      let same : v / 2 ^ s % 2 ^ 4 / 2 ^ k ≡ w / 2 ^ s % 2 ^ 4 * 2 ^ k % 2 ^ 4 / 2 ^ k =
      nibble_high j k (v / 2 ^ s) e
      ∙ ap (λ n. n % 2 ^ j) (sym (shifts_swap v k) ∙ ap (λ n. n / 2 ^ s) shifted ∙ field_of w (i + j) s) ∙ mod-mod-pow (w / 2 ^ s) i j
      ∙ sym (nibble_high j k (w / 2 ^ s % 2 ^ 4 * 2 ^ k) e ∙ ap (λ n. n % 2 ^ j) (shl-shr (w / 2 ^ s % 2 ^ 4) k) ∙ nibble_low j k (w / 2 ^ s) e) in
      masked_nibble v b hb ∙ ap (bit_and (v / 2 ^ s % 2 ^ 4)) eb ∙ and_high k (v / 2 ^ s % 2 ^ 4) m ∙ ap (λ n. bit_and n m * 2 ^ k) same
      ∙ sym (ap (bit_and (w / 2 ^ s % 2 ^ 4 * 2 ^ k % 2 ^ 4)) one ∙ and_high k (w / 2 ^ s % 2 ^ 4 * 2 ^ k % 2 ^ 4) m)

  apply_nibble : (f : Operation) (a b : ℕ) → apply f a b / 2 ^ s % 2 ^ 4 ≡ apply f (a / 2 ^ s % 2 ^ 4) (b / 2 ^ s % 2 ^ 4)
  apply_nibble and a b = ap (λ n. n % 2 ^ 4) (and_shr a b s) ∙ and_mod (a / 2 ^ s) (b / 2 ^ s) 4
  apply_nibble or a b = ap (λ n. n % 2 ^ 4) (or_shr a b s) ∙ or_mod (a / 2 ^ s) (b / 2 ^ s) 4
  apply_nibble xor a b = ap (λ n. n % 2 ^ 4) (xor_shr a b s) ∙ xor_mod (a / 2 ^ s) (b / 2 ^ s) 4

  value_nibble : (g : Gate) → T (local g) → (u v : ℕ) → value bits ones g u v / 2 ^ s % 2 ^ 4 ≡ value 4 1 g (u / 2 ^ s % 2 ^ 4) (v / 2 ^ s % 2 ^ 4)
  value_nibble first t u v = refl
  value_nibble second t u v = refl
  value_nibble (mask b) t u v = masks b (ltb→lt b 16 t) ∙ omega arith
  value_nibble (up k b g) t u v =
      let gs = both (local g) (leb k 4 && (ltb b 16 && eqb (b % 2 ^ k) 0)) t in
      let ts = both (leb k 4) (ltb b 16 && eqb (b % 2 ^ k) 0) gs.1 in
      let us = both (ltb b 16) (eqb (b % 2 ^ k) 0) ts.1 in
      let le = leb→le k 4 ts.0 in
      up_nibble (4 - k) k (value bits ones g u v) b (omega arith) (ltb→lt b 16 us.0) (eqb→eq (b % 2 ^ k) 0 us.1)
      ∙ ap (λ n. bit_and (n * 2 ^ k % 2 ^ 4) (1 * b)) (value_nibble g gs.0 u v)
  value_nibble (down k b g) t u v =
      let gs = both (local g) (leb k 4 && ltb b (2 ^ (4 - k))) t in
      let ts = both (leb k 4) (ltb b (2 ^ (4 - k))) gs.1 in
      let le = leb→le k 4 ts.0 in
      let lt = ltb→lt b (2 ^ (4 - k)) ts.1 in
      let most : 2 ^ (4 - k) ≤ 2 ^ 4 = pow-le-pow_right (omega arith) {i = 4 - k} {j = 4} (omega arith) in
      down_nibble (4 - k) k (value bits ones g u v) b (omega arith) lt (omega arith)
      ∙ ap (λ n. bit_and (n / 2 ^ k) (1 * b)) (value_nibble g gs.0 u v)
  value_nibble (on_both f g h) t u v =
      let ts = both (local g) (local h) t in
      apply_nibble f (value bits ones g u v) (value bits ones h u v)
      ∙ ap (λ n. apply f n (value bits ones h u v / 2 ^ s % 2 ^ 4)) (value_nibble g ts.0 u v)
      ∙ ap (apply f (value 4 1 g (u / 2 ^ s % 2 ^ 4) (v / 2 ^ s % 2 ^ 4))) (value_nibble h ts.1 u v)

  run_nibble : (out : Gate) → T (local out) → (ss : List Step) → T (all_local ss) → (u v : ℕ)
      → run bits ones out ss u v / 2 ^ s % 2 ^ 4 ≡ run 4 1 out ss (u / 2 ^ s % 2 ^ 4) (v / 2 ^ s % 2 ^ 4)
  run_nibble out o [] t u v = value_nibble out o u v
  run_nibble out o (step g h ∷ ss) t u v =
      let ts = both (local g) (local h && all_local ss) t in
      let us = both (local h) (all_local ss) ts.1 in
      run_nibble out o ss us.1 (value bits ones g u v) (value bits ones h u v)
      ∙ ap (λ n. run 4 1 out ss n (value bits ones h u v / 2 ^ s % 2 ^ 4)) (value_nibble g ts.0 u v)
      ∙ ap (run 4 1 out ss (value 4 1 g (u / 2 ^ s % 2 ^ 4) (v / 2 ^ s % 2 ^ 4))) (value_nibble h us.0 u v)

-- a test at every two nibbles
abbrev pub on_pairs : (ℕ → ℕ → ℕ) → ℕ → ℕ
on_pairs f n = f (n / 16) (n % 16)

every_pair : (f g : ℕ → ℕ → ℕ) → T (all (λ k. eqb (on_pairs f k) (on_pairs g k)) 256) → (a b : ℕ) → a < 16 → b < 16 → f a b ≡ g a b
every_pair f g t a b ha hb =
    let n = a * 16 + b in
    let ea : n / 16 ≡ a = omega arith in
    let eb : n % 16 ≡ b = omega arith in
    sym (ap (λ m. f m (n % 16)) ea ∙ ap (f a) eb) ∙ agree (on_pairs f) (on_pairs g) 256 t n (omega arith) ∙ ap (λ m. g m (n % 16)) ea ∙ ap (g a) eb

-- a byte by its nibbles
in_nibbles : (table : List ℕ) (n w s : ℕ) → n / 2 ^ s % 2 ^ 4 ≡ slice_index table (w / 2 ^ s % 2 ^ 4) → n / 2 ^ (s + 4) % 2 ^ 4 ≡ slice_index table (w / 2 ^ (s + 4) % 2 ^ 4)
    → n / 2 ^ s % 256 ≡ on_nibbles table (w / 2 ^ s % 256)
in_nibbles table n w s low high =
    let en : n / 2 ^ (s + 4) ≡ n / 2 ^ s / 16 = sym (shr-shr n s 4) in
    let ew : w / 2 ^ (s + 4) ≡ w / 2 ^ s / 16 = sym (shr-shr w s 4) in
    let wh : w / 2 ^ (s + 4) % 16 ≡ w / 2 ^ s % 256 / 16 = ap (λ m. m % 16) ew ∙ omega arith in
    let wl : w / 2 ^ s % 16 ≡ w / 2 ^ s % 256 % 16 = omega arith in
    let split : n / 2 ^ s % 256 ≡ n / 2 ^ (s + 4) % 16 * 16 + n / 2 ^ s % 16 = omega (arith, en) in
    split ∙ ap (λ m. m * 16 + n / 2 ^ s % 16) (high ∙ ap (slice_index table) wh) ∙ ap (λ m. slice_index table (w / 2 ^ s % 256 / 16) * 16 + m) (low ∙ ap (slice_index table) wl)

-- one that is a table on each nibble of the one number, or of the other, is that table on the nibbles of a word
module _ (table : List ℕ) (out : Gate) (o : T (local out)) (ss : List Step) (ok : T (all_local ss)) where
  run_word : (u v w : ℕ) → ((s : ℕ) → run 4 1 out ss (u / 2 ^ s % 2 ^ 4) (v / 2 ^ s % 2 ^ 4) ≡ slice_index table (w / 2 ^ s % 2 ^ 4))
      → word64 (run64 out ss u v) ≡ map (on_nibbles table) (word64 w)
  run_word u v w e =
      let nibble : (s : ℕ) → s + 4 ≤ 64 → ((b : ℕ) → b < 16 → 0x1111111111111111 * b / 2 ^ s % 2 ^ 4 ≡ b) → run64 out ss u v / 2 ^ s % 2 ^ 4 ≡ slice_index table (w / 2 ^ s % 2 ^ 4) =
      λ s within masks. run_nibble 64 0x1111111111111111 s within masks out o ss ok u v ∙ e s in
      let at : (s : ℕ) → s + 8 ≤ 64 → ((b : ℕ) → b < 16 → 0x1111111111111111 * b / 2 ^ s % 2 ^ 4 ≡ b) → ((b : ℕ) → b < 16 → 0x1111111111111111 * b / 2 ^ (s + 4) % 2 ^ 4 ≡ b)
      → run64 out ss u v / 2 ^ s % 256 ≡ on_nibbles table (w / 2 ^ s % 256) =
      λ s within low high. in_nibbles table (run64 out ss u v) w s (nibble s (omega arith) low) (nibble (s + 4) (omega arith) high) in
      word64_is (run64 out ss u v)
      ∙ eight (at 56 (omega arith) (λ b h. omega arith) (λ b h. omega arith)) (at 48 (omega arith) (λ b h. omega arith) (λ b h. omega arith))
      (at 40 (omega arith) (λ b h. omega arith) (λ b h. omega arith)) (at 32 (omega arith) (λ b h. omega arith) (λ b h. omega arith))
      (at 24 (omega arith) (λ b h. omega arith) (λ b h. omega arith)) (at 16 (omega arith) (λ b h. omega arith) (λ b h. omega arith))
      (at 8 (omega arith) (λ b h. omega arith) (λ b h. omega arith)) (at 0 (omega arith) (λ b h. omega arith) (λ b h. omega arith))
      ∙ ap (map (on_nibbles table)) (sym (word64_is w))

-- ---- steps after steps
run-append : (out : Gate) (ss rest : List Step) (u v : ℕ) → run64 out rest (run64 first ss u v) (run64 second ss u v) ≡ run64 out (ss ++ rest) u v
run-append out [] rest u v = refl
run-append out (step g h ∷ ss) rest u v = run-append out ss rest (value 64 0x1111111111111111 g u v) (value 64 0x1111111111111111 h u v)

zip2-append : (out : Gate) (ss rest : List Step) (us vs : List ℕ)
    → zip2 (run64 out rest) (zip2 (run64 first ss) us vs) (zip2 (run64 second ss) us vs) ≡ zip2 (run64 out (ss ++ rest)) us vs
zip2-append out ss rest [] vs = refl
zip2-append out ss rest (u ∷ us) [] = refl
zip2-append out ss rest (u ∷ us) (v ∷ vs) =
    ap (λ n. n ∷ zip2 (run64 out rest) (zip2 (run64 first ss) us vs) (zip2 (run64 second ss) us vs)) (run-append out ss rest u v)
    ∙ ap (λ ns. run64 out (ss ++ rest) u v ∷ ns) (zip2-append out ss rest us vs)

through-append : (ss rest : List Step) (us vs us' vs' us'' vs'' : List ℕ) → Through ss us vs us' vs' → Through rest us' vs' us'' vs'' → Through (ss ++ rest) us vs us'' vs''
through-append ss rest us vs us' vs' us'' vs'' p q =
    let both_are : (out : Gate) → zip2 (run64 out rest) us' vs' ≡ zip2 (run64 out (ss ++ rest)) us vs =
    λ out. ap (λ xs. zip2 (run64 out rest) xs vs') p.0 ∙ ap (zip2 (run64 out rest) (zip2 (run64 first ss) us vs)) p.1 ∙ zip2-append out ss rest us vs in
    (q.0 ∙ both_are first, q.1 ∙ both_are second)

-- the one number in the place of the other
abbrev turn : List Step
turn = step second first ∷ []

turned : (us vs : List ℕ) → length us ≡ length vs → Through turn us vs vs us
turned [] [] l = (refl, refl)
turned [] (v ∷ vs) l = absurd (omega arith)
turned (u ∷ us) [] l = absurd (omega arith)
turned (u ∷ us) (v ∷ vs) l =
    let rest = turned us vs (omega arith) in
    (ap (λ ns. v ∷ ns) rest.0, ap (λ ns. u ∷ ns) rest.1)

-- ---- S and its inverse
abbrev pub forward : List Step
forward = exchange ++ (two_gates ++ (turn ++ (two_gates ++ (turn ++ exchange))))

abbrev pub backward : List Step
backward = exchange ++ (turn ++ (two_gates_reversed ++ (turn ++ (two_gates_reversed ++ exchange))))

-- what the functions do one after the other
pub forward_through : (us vs a b c d e f us' vs' : List ℕ) → length c ≡ length d → length e ≡ length f → Through exchange us vs a b → Through two_gates a b c d → Through two_gates d c f e
    → Through exchange e f us' vs' → Through forward us vs us' vs'
forward_through us vs a b c d e f us' vs' l m p q r s =
    let last = turn ++ exchange in
    let second_half = two_gates ++ last in
    through-append exchange (two_gates ++ (turn ++ second_half)) _ _ _ _ _ _ p (through-append two_gates (turn ++ second_half) _ _ _ _ _ _ q
    (through-append turn second_half _ _ _ _ _ _ (turned c d l) (through-append two_gates last _ _ _ _ _ _ r (through-append turn exchange _ _ _ _ _ _ (turned f e (sym m)) s))))

pub backward_through : (us vs a b c d e f us' vs' : List ℕ) → length a ≡ length b → length c ≡ length d → Through exchange us vs a b → Through two_gates_reversed b a d c → Through two_gates_reversed c d e f
    → Through exchange e f us' vs' → Through backward us vs us' vs'
backward_through us vs a b c d e f us' vs' l m p q r s =
    let last = two_gates_reversed ++ exchange in
    let second_half = two_gates_reversed ++ (turn ++ last) in
    through-append exchange (turn ++ second_half) _ _ _ _ _ _ p (through-append turn second_half _ _ _ _ _ _ (turned a b l)
    (through-append two_gates_reversed (turn ++ last) _ _ _ _ _ _ q (through-append turn last _ _ _ _ _ _ (turned d c (sym m)) (through-append two_gates_reversed exchange _ _ _ _ _ _ r s))))

pub forward_first : (u v : ℕ) → word64 (run64 first forward u v) ≡ map (on_nibbles S) (word64 u)
forward_first u v =
    run_word S first tt forward tt u v u
    (λ s. every_pair (run 4 1 first forward) (λ a b. slice_index S a) tt (u / 2 ^ s % 2 ^ 4) (v / 2 ^ s % 2 ^ 4) (omega arith) (omega arith))

pub forward_second : (u v : ℕ) → word64 (run64 second forward u v) ≡ map (on_nibbles S) (word64 v)
forward_second u v =
    run_word S second tt forward tt u v v
    (λ s. every_pair (run 4 1 second forward) (λ a b. slice_index S b) tt (u / 2 ^ s % 2 ^ 4) (v / 2 ^ s % 2 ^ 4) (omega arith) (omega arith))

pub backward_first : (u v : ℕ) → word64 (run64 first backward u v) ≡ map (on_nibbles S_inverse) (word64 u)
backward_first u v =
    run_word S_inverse first tt backward tt u v u
    (λ s. every_pair (run 4 1 first backward) (λ a b. slice_index S_inverse a) tt (u / 2 ^ s % 2 ^ 4) (v / 2 ^ s % 2 ^ 4) (omega arith) (omega arith))

pub backward_second : (u v : ℕ) → word64 (run64 second backward u v) ≡ map (on_nibbles S_inverse) (word64 v)
backward_second u v =
    run_word S_inverse second tt backward tt u v v
    (λ s. every_pair (run 4 1 second backward) (λ a b. slice_index S_inverse b) tt (u / 2 ^ s % 2 ^ 4) (v / 2 ^ s % 2 ^ 4) (omega arith) (omega arith))
