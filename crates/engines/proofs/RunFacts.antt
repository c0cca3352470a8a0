-- A run is accepted exactly when it is a number of blocks that the lanes take, and then each block is replaced.
use Rattle.std.specs.Prelude.{◌≡◌, ◌≢◌, ℕ, zero, suc, ◌+◌, ◌*◌, ◌/◌, ◌%◌, ◌<◌, ◌≤◌, Bool, false, true, List, ◌++◌, length, take, drop, refl}
use Rattle.std.proofs.Common.{sym, ap, ◌∙◌, ⊎_elim, arith}
use Rattle.std.proofs.Math.Nat.{suc-mul, mul-mod_left, mul-div_cancel, le_of_mul-le-mul_right}
use Rattle.std.proofs.lemmas.Bool.Decides.{nat_tests}
use Rattle.std.proofs.lemmas.List.{drop-drop, length-append, length-drop, length-take-le, take_at, drop_at}
use Rattle.std.proofs.lemmas.Nat.{div-add-mod', mul-le}
use Rattle.ublock.specs.Parts.{part}
use Rattle.cipher.specs.Engines.{Answer, Shape, Ran, each, refused}
use Rattle.engines.specs.Laws.{BlocksReplaced, RunsByBlocks}

-- ---- which runs are accepted
length_pos : (b w : ℕ) → Shape b w → 0 < b
length_pos b w s = ⊎_elim (λ e. omega arith) (λ e. omega arith) s.length_of_block

accepted : (b w m : ℕ) → m ≤ w → refused b w (m * b) ≡ false
accepted b w m few =
    let whole : m * b % b ≡ 0 = mul-mod_left m b in
    let most : m * b ≤ w * b = mul-le m b w b few (omega arith) in
    grind (arith, nat_tests)

whole_blocks : (b w n : ℕ) → refused b w n ≡ false → n % b ≡ 0
whole_blocks b w n h = grind (arith, nat_tests)

few_blocks : (b w n : ℕ) → refused b w n ≡ false → n ≤ w * b
few_blocks b w n h = grind (arith, nat_tests)

declined : (b w n : ℕ) → 0 < b → ((m : ℕ) → m ≤ w → n ≢ m * b) → (r : Bool) → refused b w n ≡ r → r ≡ true
declined b w n pos none true e = refl
declined b w n pos none false e =
    let whole : n ≡ n / b * b = omega (arith, div-add-mod' n b, whole_blocks b w n e) in
    absurd (none (n / b) (le_of_mul-le-mul_right (omega (arith, whole, few_blocks b w n e)) pos) whole)

-- ---- each block replaced
part-drop : (b i : ℕ) (xs : List ℕ) → part b i (drop b xs) ≡ part b (suc i) xs
part-drop b i xs = ap (take b) (drop-drop (i * b) b xs ∙ ap (λ k. drop k xs) (omega (arith, suc-mul i b)))

part-zero : (b : ℕ) (xs : List ℕ) → part b 0 xs ≡ take b xs
part-zero b xs = let z : 0 * b ≡ 0 = omega arith in ap (λ k. take b (drop k xs)) z

module _ (b : ℕ) (f : List ℕ → List ℕ) (keeps : (x : List ℕ) → length x ≡ b → length (f x) ≡ b) where
  first_long : (n : ℕ) (xs : List ℕ) → suc n * b ≤ length xs → length (f (take b xs)) ≡ b
  first_long n xs h = keeps (take b xs) (length-take-le b xs (omega (arith, suc-mul n b)))

  rest_long : (n : ℕ) (xs : List ℕ) → suc n * b ≤ length xs → n * b ≤ length (drop b xs)
  rest_long n xs h = omega (arith, suc-mul n b, length-drop b xs)

  length_each : (n : ℕ) (xs : List ℕ) → n * b ≤ length xs → length (each b f n xs) ≡ n * b
  unfolding each
  length_each zero xs h = omega arith
  length_each (suc n) xs h =
      omega (arith, length-append (f (take b xs)) (each b f n (drop b xs)), first_long n xs h, length_each n (drop b xs) (rest_long n xs h), suc-mul n b)

  part_each : (n i : ℕ) (xs : List ℕ) → i < n → n * b ≤ length xs → part b i (each b f n xs) ≡ f (part b i xs)
  unfolding each
  part_each zero i xs lt h = absurd (omega arith)
  part_each (suc n) zero xs lt h =
      part-zero b (f (take b xs) ++ each b f n (drop b xs)) ∙ take_at (f (take b xs)) (each b f n (drop b xs)) b (first_long n xs h) ∙ ap f (sym (part-zero b xs))
  part_each (suc n) (suc i) xs lt h =
      sym (part-drop b i (f (take b xs) ++ each b f n (drop b xs))) ∙ ap (part b i) (drop_at (f (take b xs)) (each b f n (drop b xs)) b (first_long n xs h))
      ∙ part_each n i (drop b xs) (omega arith) (rest_long n xs h) ∙ ap f (part-drop b i xs)

  replaced : (w m : ℕ) → 0 < b → m ≤ w → (before after : List ℕ) (answer : Answer Unit) → Ran b w f before after answer → length before ≡ m * b
      → (answer.number ≡ 0) × BlocksReplaced b m f before after
  replaced w m pos few before after answer ran long =
      let fine : refused b w (length before) ≡ false = ap (refused b w) long ∙ accepted b w m few in
      let count : length before / b ≡ m = ap (λ k. k / b) long ∙ mul-div_cancel m pos in
      let all : after ≡ each b f m before = ran.run ∙ rw fine (ap (λ k. each b f k before) count) in
      let room : m * b ≤ length before = omega (arith, long) in (
        ran.number ∙ rw fine refl,
        record {
          long = ap length all ∙ length_each m before room ∙ sym long;
          blocks = λ i lt. ap (part b i) all ∙ part_each m i before lt room;
        },
      )

stays : (b w : ℕ) (f : List ℕ → List ℕ) (before after : List ℕ) (answer : Answer Unit) → Ran b w f before after answer → refused b w (length before) ≡ true
    → (answer.number ≡ 4) × (after ≡ before)
stays b w f before after answer ran bad = (ran.number ∙ rw bad refl, ran.run ∙ rw bad refl)

pub runs_by_blocks : RunsByBlocks
runs_by_blocks b w shape f keeps before after answer ran =
    let pos = length_pos b w shape in (
      λ m few long. replaced b f keeps w m pos few before after answer ran long,
      λ none. stays b w f before after answer ran (declined b w (length before) pos none (refused b w (length before)) refl),
    )
