-- The numbers of the calls.
use Rattle.std.proofs.Common.{◌≡◌, ℕ, ◌*◌, ◌/◌, ◌%◌, ◌≤◌, Some, None, Option, arith}
use Rattle.std.proofs.lemmas.Bool.Decides.{nat_tests}
use Rattle.ublock.specs.Cipher.{key_length}
use Rattle.ublock.specs.Variants.{parameters}
use Rattle.ublock.specs.declared.variant.Variant.{Variant}
use Rattle.cipher.specs.Keys.{fill_number_of}
use Rattle.beatlog.specs.Refusals.{seal_refusal, open_refusal}
use Rattle.pages.specs.Calls.{refusal_by, size}

-- ---- a filled engine
pub filled_size : (b : ℕ) (v : Variant) (k : ℕ) → 0 ≡ fill_number_of b (Some v) k → size v ≡ b
filled_size b v k h = grind (arith, nat_tests)

pub filled_key : (b : ℕ) (v : Variant) (k : ℕ) → 0 ≡ fill_number_of b (Some v) k → k ≡ key_length (parameters v)
filled_key b v k h = grind (arith, nat_tests)

pub filled_number : (b : ℕ) (o : Option Variant) (k : ℕ) (later : ℕ → ℕ) → 0 ≡ fill_number_of b o k → refusal_by o k later ≡ later b
filled_number b None k later h = absurd (omega arith)
filled_number b (Some v) k later h = let e = filled_size b v k h in let f = filled_key b v k h in grind (arith, nat_tests)

-- ---- accepted calls
pub key_accepted : (v : Variant) (k : ℕ) (later : ℕ → ℕ) → refusal_by (Some v) k later ≡ 0 → (k ≡ key_length (parameters v)) × (later (size v) ≡ 0)
key_accepted v k later h = (grind (arith, nat_tests), grind (arith, nat_tests))

pub seal_accepted : (b start readings page : ℕ) → seal_refusal b start readings page ≡ 0 → (start ≡ b) × (readings % b ≡ 0) × (readings ≤ page)
seal_accepted b start readings page h = (grind (arith, nat_tests), grind (arith, nat_tests), grind (arith, nat_tests))

pub open_accepted : (b start page n place : ℕ) → open_refusal b start page n place ≡ 0 → (start ≡ b) × (place ≡ n * b) × (page % b ≡ 0) × (n ≤ page / b)
open_accepted b start page n place h = (grind (arith, nat_tests), grind (arith, nat_tests), grind (arith, nat_tests), grind (arith, nat_tests))
