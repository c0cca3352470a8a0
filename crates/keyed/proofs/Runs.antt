-- Runs of blocks, each replaced by its image.
use Rattle.std.specs.Prelude.{◌≡◌, ℕ, zero, suc, ◌+◌, ◌-◌, ◌*◌, ◌/◌, ◌%◌, ◌<◌, ◌≤◌, false, List, [], ◌∷◌, ◌++◌, length, take, drop, Some, refl}
use Rattle.std.proofs.Common.{sym, ap, ◌∙◌, ⊎_elim, arith}
use Rattle.std.proofs.Math.Nat.{zero-mod, zero-div, div-add-mod, mul-le-mul_right, le_of_mul-le-mul_right}
use Rattle.std.proofs.lemmas.List.{drop-drop, length-drop, take-append-drop}
use Rattle.std.proofs.lemmas.Bool.Decides.{nat_tests}
use Rattle.cipher.specs.Engines.{Shape, Ran, refused, each}
use Rattle.ublock.specs.Parts.{part}

pub length_pos : (b w : ℕ) → Shape b w → 0 < b
length_pos b w s = ⊎_elim (λ e. omega arith) (λ e. omega arith) s.length_of_block

part-drop : (b i : ℕ) (xs : List ℕ) → part b i (drop b xs) ≡ part b (suc i) xs
part-drop b i xs =
    let m : b + i * b ≡ suc i * b = omega arith in
    ap (take b) (drop-drop (i * b) b xs ∙ ap (λ k. drop k xs) m)

part-zero : (b : ℕ) (xs : List ℕ) → part b 0 xs ≡ take b xs
part-zero b xs = let z : 0 * b ≡ 0 = omega arith in ap (λ k. take b (drop k xs)) z

-- a run of n blocks, of which each is g of the block that was there
each_of_parts : (b : ℕ) (g : List ℕ → List ℕ) (n : ℕ) (run after : List ℕ) → length run ≡ n * b → length after ≡ n * b
    → ((i : ℕ) → i < n → part b i after ≡ g (part b i run)) → after ≡ each b g n run
unfolding each
each_of_parts b g zero run [] e f parts = refl
each_of_parts b g zero run (x ∷ xs) e f parts = absurd (omega arith)
each_of_parts b g (suc n) run after e f parts =
    let m : suc n * b - b ≡ n * b = omega arith in
    let first = sym (part-zero b after) ∙ parts 0 (omega arith) ∙ ap g (part-zero b run) in
    let rest = each_of_parts b g n (drop b run) (drop b after) (length-drop b run ∙ ap (λ k. k - b) e ∙ m) (length-drop b after ∙ ap (λ k. k - b) f ∙ m)
    (λ i h. part-drop b i after ∙ parts (suc i) (omega arith) ∙ ap g (sym (part-drop b i run))) in
    sym (take-append-drop b after) ∙ ap (λ x. x ++ drop b after) first ∙ ap (λ y. g (take b run) ++ y) rest

accepted : (b w n : ℕ) → n % b ≡ 0 → n ≤ w * b → refused b w n ≡ false
accepted b w n e h = grind (arith, nat_tests)

whole_blocks : (b w n : ℕ) → refused b w n ≡ false → n % b ≡ 0
whole_blocks b w n h = grind (arith, nat_tests)

few_blocks : (b w n : ℕ) → refused b w n ≡ false → n ≤ w * b
few_blocks b w n h = grind (arith, nat_tests)

-- a run of no block stays as it is
pub ran_none : (b w : ℕ) (g : List ℕ → List ℕ) (run : List ℕ) → length run ≡ 0 → Ran b w g run run (record { value = Some tt; number = 0 })
unfolding each
ran_none b w g [] e =
    let fine = accepted b w 0 (zero-mod b) (omega arith) in
    record { number = rw fine; run = ap (λ n. each b g n []) (sym (zero-div b)) ∙ rw fine }
ran_none b w g (x ∷ xs) e = absurd (omega arith)

-- a run that is loaded into lanes, of which each takes its g, and stored again
pub ran_lanes : (b w : ℕ) (g : List ℕ → List ℕ) (run after : List ℕ) (before now : ℕ → List ℕ) → Shape b w → refused b w (length run) ≡ false
    → ((i : ℕ) → suc i * b ≤ length run → before i ≡ part b i run) → ((i : ℕ) → i < w → now i ≡ g (before i))
    → length after ≡ length run → ((i : ℕ) → suc i * b ≤ length run → part b i after ≡ now i)
    → Ran b w g run after (record { value = Some tt; number = 0 })
ran_lanes b w g run after before now shape fine loaded worked long stored =
    let n = length run / b in
    let whole : length run ≡ n * b = omega (arith, div-add-mod (length run) b, whole_blocks b w (length run) fine) in
    let within : (i : ℕ) → i < n → suc i * b ≤ length run = λ i h. omega (arith, whole, mul-le-mul_right b h) in
    let lane : (i : ℕ) → i < n → i < w = λ i h. le_of_mul-le-mul_right (omega (arith, within i h, few_blocks b w (length run) fine)) (length_pos b w shape) in
    record {
      number = rw fine;
      run = each_of_parts b g n run after whole (long ∙ whole) (λ i h. stored i (within i h) ∙ worked i (lane i h) ∙ ap g (loaded i (within i h))) ∙ rw fine;
    }
