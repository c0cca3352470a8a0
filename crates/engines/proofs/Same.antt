-- Two engines that are filled with one variant and key.
use Rattle.std.specs.Prelude.{◌≡◌, ℕ, List, length, Some, None, Option}
use Rattle.std.proofs.Common.{sym, refl, ◌∙◌, arith}
use Rattle.ublock.specs.Variants.{numbered}
use Rattle.ublock.specs.declared.variant.Variant.{Variant}
use Rattle.cipher.specs.Engines.{OnePermutation}
use Rattle.cipher.specs.Keys.{fill_number, fill_number_of, MeansCipher}

-- there is a variant of a number that is not refused
some_variant : (b : ℕ) (o : Option Variant) (n : ℕ) → 0 ≡ fill_number_of b o n → (v : Variant) × (o ≡ Some v)
some_variant b None n h = absurd (omega arith)
some_variant b (Some v) n h = (v, refl)

pub one_permutation : (b n : ℕ) (key : List ℕ) (enc dec enc' dec' : List ℕ → List ℕ) → 0 ≡ fill_number b n (length key)
    → MeansCipher n key enc dec → MeansCipher n key enc' dec' → OnePermutation b enc dec enc' dec'
one_permutation b n key enc dec enc' dec' taken m m' =
    let found = some_variant b (numbered n) (length key) taken in
    record {
      enciphered = λ x h. (m found.0 found.1 x).0 ∙ sym (m' found.0 found.1 x).0;
      deciphered = λ x h. (m found.0 found.1 x).1 ∙ sym (m' found.0 found.1 x).1;
    }
