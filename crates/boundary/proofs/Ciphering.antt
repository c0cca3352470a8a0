-- Blocks through an engine that was filled for a variant and key.
use Rattle.std.specs.Prelude.{◌≡◌, ◌≢◌, ℕ, zero, suc, ◌/◌, ◌%◌, ◌==◌, Bool, true, false, cond, not, List, ◌++◌, length, take, drop, Some, refl}
use Rattle.std.proofs.Common.{sym, ap, subst, ◌∙◌, arith}
use Rattle.ublock.specs.Cipher.{E, D}
use Rattle.ublock.specs.Variants.{parameters, numbered}
use Rattle.ublock.specs.declared.variant.Variant.{Variant}
use Rattle.cipher.specs.Engines.{Answer, Ran, each, refused}
use Rattle.cipher.specs.Keys.{fill_number, fill_number_of, MeansCipher}
use Rattle.cipher.specs.Rows.{in_direction, row_refusal}
use Rattle.cipher.specs.declared.rows.Direction.{Direction}
use Rattle.cipher.specs.declared.rows.Direction.TheVariants.{Encipher, Decipher}
use Rattle.pages.specs.Calls.{size}
use Rattle.pages.proofs.Numbers.{filled_number, filled_size}
use Rattle.boundary.specs.Calls.{RowCiphered, lanes, run_refusal}

each_alike : (b : ℕ) (f g : List ℕ → List ℕ) → ((x : List ℕ) → f x ≡ g x) → (n : ℕ) (xs : List ℕ) → each b f n xs ≡ each b g n xs
unfolding each
each_alike b f g same zero xs = refl
each_alike b f g same (suc n) xs = ap (λ y. y ++ each b f n (drop b xs)) (same (take b xs)) ∙ ap (λ z. g (take b xs) ++ z) (each_alike b f g same n (drop b xs))

means_cipher : (way : Direction) (variant : ℕ) (key : List ℕ) (enc dec : List ℕ → List ℕ) → MeansCipher variant key enc dec → (v : Variant) → numbered variant ≡ Some v
    → (x : List ℕ) → in_direction way enc dec x ≡ in_direction way (E (parameters v) key) (D (parameters v) key) x
means_cipher Encipher variant key enc dec means v named x = (means v named x).0
means_cipher Decipher variant key enc dec means v named x = (means v named x).1

-- where the engine replaced each block, or refused
ciphered : (refusal : ℕ → ℕ) (b variant : ℕ) (way : Direction) (key : List ℕ) (enc dec : List ℕ → List ℕ) (before after : List ℕ) (number : ℕ)
    → 0 ≡ fill_number b variant (length key) → MeansCipher variant key enc dec → number ≡ refusal b → (number ≢ 0 → after ≡ before)
    → (number ≡ 0 → after ≡ each b (in_direction way enc dec) (length before / b) before) → RowCiphered refusal variant way key before after number
ciphered refusal b variant way key enc dec before after number filled means is stays goes = record {
  number = is ∙ sym (filled_number b (numbered variant) (length key) refusal filled);
  refused = stays;
  accepted = λ done v named.
      let e : b ≡ size v = sym (filled_size b v (length key) (subst (λ o. 0 ≡ fill_number_of b o (length key)) named filled)) in
      goes done ∙ each_alike b _ _ (means_cipher way variant key enc dec means v named) (length before / b) before
      ∙ ap (λ k. each k (in_direction way (E (parameters v) key) (D (parameters v) key)) (length before / k) before) e;
}

-- ---- what a call leaves
settled : (r : Bool) (before done after : List ℕ) (number : ℕ) → number ≡ cond r 4 0 → after ≡ cond r before done
    → (number ≢ 0 → after ≡ before) × (number ≡ 0 → after ≡ done)
settled true before done after number is left = (λ _. left, λ z. absurd (omega arith))
settled false before done after number is left = (λ ne. absurd (ne is), λ _. left)

module _ (b variant : ℕ) (way : Direction) (key : List ℕ) (enc dec : List ℕ → List ℕ) (filled : 0 ≡ fill_number b variant (length key)) (means : MeansCipher variant key enc dec)
    (before after : List ℕ) (answer : ℕ) where
  pub run_ciphered : (packed : Bool) (w : ℕ) (given : Answer Unit) → w ≡ lanes packed b → answer ≡ given.number → Ran b w (in_direction way enc dec) before after given
      → RowCiphered (run_refusal packed (length before)) variant way key before after answer
  run_ciphered packed w given wide is ran =
      let number = is ∙ ran.number in
      let left = settled (refused b w (length before)) before _ after answer number ran.run in
      ciphered (run_refusal packed (length before)) b variant way key enc dec before after answer filled means
      (number ∙ ap (λ k. cond (refused b k (length before)) 4 0) wide) left.0 left.1

  pub row_ciphered : answer ≡ row_refusal (length before) b
      → after ≡ cond (not (length before % b == 0)) before (each b (in_direction way enc dec) (length before / b) before)
      → RowCiphered (row_refusal (length before)) variant way key before after answer
  row_ciphered number row =
      let left = settled (not (length before % b == 0)) before _ after answer number row in
      ciphered (row_refusal (length before)) b variant way key enc dec before after answer filled means number left.0 left.1
