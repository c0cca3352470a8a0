-- What the calls give to C: the number of a refusal, 0 for none, and the bytes that the call leaves.
use Rattle.std.specs.Prelude.{◌≡◌, ◌≢◌, ℕ, ◌*◌, ◌/◌, Bool, true, false, cond, List, length, Some}
use Rattle.ublock.specs.Cipher.{E, D}
use Rattle.ublock.specs.Variants.{parameters, numbered}
use Rattle.ublock.specs.declared.variant.Variant.{Variant}
use Rattle.cipher.specs.Engines.{each, refused}
use Rattle.cipher.specs.Rows.{in_direction}
use Rattle.cipher.specs.declared.rows.Direction.{Direction}
use Rattle.cipher.specs.declared.rows.Direction.TheVariants.{Encipher, Decipher}
use Rattle.modes.specs.declared.standard.StandardMode.{StandardMode}
use Rattle.modes.specs.declared.standard.StandardMode.TheVariants.{Ecb, Cbc}
use Rattle.beatlog.specs.Refusals.{seal_refusal, open_refusal}
use Rattle.pages.specs.Calls.{Terms, HoldsBy, Decrypted, refusal_by, size}

abbrev pub direction : Bool → Direction
direction false = Encipher
direction true = Decipher

-- the most blocks of b bytes that a run of the plain or of the packed engine has
abbrev pub lanes : Bool → ℕ → ℕ
lanes false b = 1
lanes true b = 64 / b

abbrev pub mode : Bool → StandardMode
mode false = Ecb
mode true = Cbc

abbrev pub run_refusal : Bool → ℕ → ℕ → ℕ
run_refusal packed run b = cond (refused b (lanes packed b) run) 4 0

-- each block of a row enciphered, or each deciphered; a refused row stays. `refusal` says what is refused for the block length
pub record RowCiphered (refusal : ℕ → ℕ) (variant : ℕ) (way : Direction) (key before after : List ℕ) (answer : ℕ) : Type 0 where
  pub number : answer ≡ refusal_by (numbered variant) (length key) refusal
  pub refused : answer ≢ 0 → after ≡ before
  pub accepted : answer ≡ 0 → (v : Variant) → numbered variant ≡ Some v → after ≡ each (size v) (in_direction way (E (parameters v) key) (D (parameters v) key)) (length before / size v) before

-- a row of readings sealed into a page, then zeros; a refused page stays
pub record SealedByNumber (t : Terms) (readings before after : List ℕ) (answer : ℕ) : Type 0 where
  pub number : answer ≡ refusal_by (numbered t.variant) (length t.key) (λ b. seal_refusal b (length t.start) (length readings) (length before))
  pub refused : answer ≢ 0 → after ≡ before
  pub accepted : answer ≡ 0 → (v : Variant) → numbered t.variant ≡ Some v → (length after ≡ length before) × HoldsBy t v (length readings / size v) readings after

-- the n readings of a page opened into a place; a refused place stays
pub record OpenedByNumber (t : Terms) (page : List ℕ) (n : ℕ) (before after : List ℕ) (answer : ℕ) : Type 0 where
  pub number : answer ≡ refusal_by (numbered t.variant) (length t.key) (λ b. open_refusal b (length t.start) (length page) n (length before))
  pub refused : answer ≢ 0 → after ≡ before
  pub accepted : answer ≡ 0 → (v : Variant) → numbered t.variant ≡ Some v
      → (length after ≡ n * size v) × Decrypted t.mode (D (parameters v) t.key) (size v) n t.start page after
