-- How many leading ones of two rows are alike: there is always one such number, and sealed blocks have that of their readings.
use Rattle.std.proofs.Common.{◌≡◌, ℕ, zero, suc, ◌≤◌, List, [], ◌∷◌, length, take, refl, sym, ap, ap₂, ◌∙◌, ⊎_elim, le_antisymm, arith}
use Rattle.std.specs.Str.{bytes_eq}
use Rattle.std.proofs.lemmas.Bool.{cases_Bool, both_ways}
use Rattle.std.proofs.lemmas.Slice.Eq.{bytes_eq-Decides}
use Rattle.ublock.specs.Laws.{Block}
use Rattle.modes.specs.Sealing.{Scheme, Lawful, AllBlocks, sealed, opened}
use Rattle.modes.proofs.Rows.{length_sealed, opened_sealed}
use Rattle.beatlog.specs.Pages.{Leading}
use Rattle.agreement.proofs.Rows.{each_take, sealed_take}

pub leading_unique : (xs ys : List (List ℕ)) (k m : ℕ) → Leading xs ys k → Leading xs ys m → k ≡ m
leading_unique xs ys k m a b = le_antisymm (b.largest k a.in_first a.in_second a.alike) (a.largest m b.in_first b.in_second b.alike)

leading_none : (xs ys : List (List ℕ)) → ((m : ℕ) → m ≤ length xs → m ≤ length ys → take m xs ≡ take m ys → m ≤ 0) → Leading xs ys 0
leading_none xs ys largest = record { in_first = omega arith; in_second = omega arith; alike = refl; largest = largest }

apart : (x y : List ℕ) (xs ys : List (List ℕ)) → (x ≡ y → ⊥) → (m : ℕ) → take m (x ∷ xs) ≡ take m (y ∷ ys) → m ≤ 0
apart x y xs ys differ zero e = omega arith
apart x y xs ys differ (suc m) e = absurd (differ (cc))

leading_more : (x y : List ℕ) (xs ys : List (List ℕ)) (k : ℕ) → x ≡ y → Leading xs ys k → Leading (x ∷ xs) (y ∷ ys) (suc k)
leading_more x y xs ys k same l = record {
  in_first = omega (arith, l.in_first);
  in_second = omega (arith, l.in_second);
  alike = ap₂ (λ z zs. z ∷ zs) same l.alike;
  largest = largest;
} where
  largest : (m : ℕ) → m ≤ length (x ∷ xs) → m ≤ length (y ∷ ys) → take m (x ∷ xs) ≡ take m (y ∷ ys) → m ≤ suc k
  largest zero a b e = omega arith
  largest (suc m) a b e = let rest : m ≤ k = l.largest m (omega arith) (omega arith) (cc) in omega arith

-- the number, by comparing readings one after the other
pub leading : (xs ys : List (List ℕ)) → (k : ℕ) × Leading xs ys k
leading [] ys = (0, leading_none [] ys (λ m a b e. omega arith))
leading (x ∷ xs) [] = (0, leading_none (x ∷ xs) [] (λ m a b e. omega arith))
leading (x ∷ xs) (y ∷ ys) =
    let rest = leading xs ys in
    ⊎_elim
    (λ t. (suc rest.0, leading_more x y xs ys rest.0 ((bytes_eq-Decides x y).0 t) rest.1))
    (λ f. (0, leading_none (x ∷ xs) (y ∷ ys) (λ m a b. apart x y xs ys (λ same. both_ways (bytes_eq x y) f ((bytes_eq-Decides x y).1 same)) m)))
    (cases_Bool (bytes_eq x y))

-- sealed blocks lead as their readings do
module _ (s : Scheme) (ok : Lawful s) (ps qs : List (List ℕ)) (hp : AllBlocks s.size ps) (hq : AllBlocks s.size qs) where
  first_sealed_alike : (m : ℕ) → take m ps ≡ take m qs → take m (sealed s 0 s.start ps) ≡ take m (sealed s 0 s.start qs)
  first_sealed_alike m e = sealed_take s 0 s.start m ps ∙ ap (sealed s 0 s.start) e ∙ sym (sealed_take s 0 s.start m qs)

  first_readings_alike : (m : ℕ) → take m (sealed s 0 s.start ps) ≡ take m (sealed s 0 s.start qs) → take m ps ≡ take m qs
  first_readings_alike m e =
      let back : (rs : List (List ℕ)) → AllBlocks s.size rs → opened s 0 s.start (take m (sealed s 0 s.start rs)) ≡ take m rs = λ rs h.
      ap (opened s 0 s.start) (sealed_take s 0 s.start m rs) ∙ opened_sealed s ok 0 s.start (take m rs) ok.start (each_take (Block s.size) m rs h) in
      sym (back ps hp) ∙ ap (opened s 0 s.start) e ∙ back qs hq

  pub leading_sealed : (k : ℕ) → Leading ps qs k → Leading (sealed s 0 s.start ps) (sealed s 0 s.start qs) k
  leading_sealed k l =
      let n = length_sealed s 0 s.start ps in
      let m = length_sealed s 0 s.start qs in
      record {
        in_first = omega (arith, l.in_first);
        in_second = omega (arith, l.in_second);
        alike = first_sealed_alike k l.alike;
        largest = λ j a b e. l.largest j (omega arith) (omega arith) (first_readings_alike j e);
      }
