-- The worked examples hold: the checker computes them. Inputs beyond the limits are followed step by step.
use Rattle.std.proofs.Common.{◌≡◌, ℕ, zero, suc, ◌≤◌, eqb, false, min, List, [], ◌∷◌, ◌++◌, length, map, take, replicate, refl, ap, ◌∙◌, inl, inr, arith}
use Rattle.std.proofs.lemmas.Bool.{cases_lt}
use Rattle.std.proofs.lemmas.List.{length-replicate, take-replicate, take_all}
use Rattle.lines.specs.Examples.{LinesAsWorked, LimitsHold}
use Rattle.lines.specs.Lines.{HasNoFeed, first_lines, split_lines}
use Rattle.lines.proofs.Cuts.{split_feed}

pub lines_as_worked : LinesAsWorked
lines_as_worked = refl

-- ---- line feeds alone
split_feeds : (n : ℕ) → split_lines (replicate n 10) ≡ replicate n []
split_feeds zero = refl
split_feeds (suc n) = ap (λ ls. [] ∷ ls) (split_feeds n)

take_min : {A : Type 0} (m n : ℕ) (x : A) → take m (replicate n x) ≡ replicate (min n m) x
take_min m n x =
    elim (cases_lt n m) [
      | inl lt ↦ take_all m (replicate n x) (omega (arith, length-replicate n x)) ∙ ap (λ k. replicate k x) {x = n} {y = min n m} (omega arith)
      | inr le ↦ take-replicate m n x le ∙ ap (λ k. replicate k x) {x = m} {y = min n m} (omega arith)
    ]

empty_kept : (n : ℕ) → map (take {A = ℕ} 201) (replicate n []) ≡ replicate n []
empty_kept zero = refl
empty_kept (suc n) = ap (λ ls. [] ∷ ls) (empty_kept n)

feeds_alone : (b m n : ℕ) → m ≤ b → first_lines m (split_lines (take b (replicate n 10))) ≡ replicate (min n m) []
feeds_alone b m n h =
    ap (λ t. first_lines m (split_lines t)) (take_min b n 10) ∙ ap (first_lines m) (split_feeds (min n b))
    ∙ ap (map (take 201)) (take_min m (min n b) []) ∙ empty_kept (min (min n b) m)
    ∙ ap (λ k. replicate k []) {x = min (min n b) m} {y = min n m} (omega (arith, h))

-- ---- a line, its line feed, and one byte
take_two : (b : ℕ) (line : List ℕ) (x y : ℕ) (after : List ℕ) → b ≡ suc (suc (length line)) → take b (line ++ x ∷ y ∷ after) ≡ line ++ x ∷ y ∷ []
take_two zero line x y after h = absurd (omega arith)
take_two (suc zero) line x y after h = absurd (omega arith)
take_two (suc (suc zero)) [] x y after h = refl
take_two (suc (suc (suc b))) [] x y after h = absurd (omega arith)
take_two (suc (suc b)) (z ∷ line) x y after h = ap (λ t. z ∷ t) (take_two (suc b) line x y after (omega arith))

line_of_byte : (x : ℕ) → eqb x 10 ≡ false → split_lines (x ∷ []) ≡ (x ∷ []) ∷ []
line_of_byte x e = rw e

last_byte : (b : ℕ) (line : List ℕ) (x : ℕ) (after : List ℕ) → b ≡ suc (suc (length line)) → HasNoFeed line → eqb x 10 ≡ false
    → split_lines (take b (line ++ 10 ∷ x ∷ after)) ≡ line ∷ (x ∷ []) ∷ []
last_byte b line x after h u e = ap split_lines (take_two b line 10 x after h) ∙ split_feed line (x ∷ []) u ∙ ap (λ ls. line ∷ ls) (line_of_byte x e)

pub limits_hold : LimitsHold
limits_hold = record {
  most_lines = λ n. feeds_alone 1000000000 999999 n (omega arith);
  last_byte = λ line x after h u e. ap (first_lines 999999) (last_byte 1000000000 line x after (omega arith) u e);
}
