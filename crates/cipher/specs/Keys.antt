-- Filling an engine: from a variant's number and a key.
use Rattle.std.specs.Prelude.{◌≡◌, ℕ, cond, List, length, IfSome, Some, None, Ok, Err, codes, Option, Result, ◌==◌}
use Rattle.ublock.specs.Cipher.{block_length, key_length, E, D}
use Rattle.ublock.specs.Variants.{parameters, numbered}
use Rattle.ublock.specs.declared.variant.Variant.{Variant}
use Rattle.cipher.specs.Engines.{Answer}
use Rattle.cipher.specs.declared.engine.KeyFault.{KeyFault}
use Rattle.cipher.specs.declared.engine.KeyFault.TheVariants.{NoVariant, KeyLength}

abbrev pub key_answer : {T : Type 0} → Result T KeyFault → Answer T
key_answer (Ok x) = record { value = Some x; number = 0 }
key_answer (Err NoVariant) = record { value = None; number = 1 }
key_answer (Err KeyLength) = record { value = None; number = 2 }

abbrev pub key_fault_text : KeyFault → List ℕ
key_fault_text NoVariant = codes "there is no such variant, or its blocks have another length"
key_fault_text KeyLength = codes "the key is not as long as the variant's keys"

-- for an engine of blocks of b bytes: 1 where there is no such variant or it has other blocks, then 2 for a key of
-- another length than the variant's
abbrev pub fill_number_of : ℕ → Option Variant → ℕ → ℕ
fill_number_of b None n = 1
fill_number_of b (Some v) n = cond (block_length (parameters v).layout == b) (cond (n == key_length (parameters v)) 0 2) 1

abbrev pub fill_number : ℕ → ℕ → ℕ → ℕ
fill_number b number n = fill_number_of b (numbered number) n

-- enc and dec are E and D of the numbered variant under the key
abbrev pub MeansCipher : ℕ → List ℕ → (List ℕ → List ℕ) → (List ℕ → List ℕ) → Type 0
MeansCipher number key enc dec =
    (v : Variant) → numbered number ≡ Some v → (x : List ℕ) → (enc x ≡ E (parameters v) key x) × (dec x ≡ D (parameters v) key x)

pub record Filled {T : Type 0} (b : ℕ) (enc dec : T → List ℕ → List ℕ) (variant : ℕ) (key : List ℕ) (answer : Answer T) : Type 0 where
  pub number : answer.number ≡ fill_number b variant (length key)
  pub cipher : IfSome answer.value (λ e. MeansCipher variant key (enc e) (dec e))
