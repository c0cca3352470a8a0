-- Pages by a variant's number: what a call answers and what it leaves, by the standard's equations and whichever engine works.
use Rattle.std.specs.Prelude.{◌≡◌, ◌≢◌, ℕ, ◌-◌, ◌*◌, ◌/◌, not, List, length, drop, replicate, Some, None, Option, ◌==◌}
use Rattle.ublock.specs.Cipher.{block_length, key_length, E, D}
use Rattle.ublock.specs.Laws.{Bytes}
use Rattle.ublock.specs.Variants.{parameters, numbered}
use Rattle.ublock.specs.declared.variant.Variant.{Variant}
use Rattle.cipher.specs.Engines.{Answer}
use Rattle.modes.specs.declared.standard.StandardMode.{StandardMode}
use Rattle.modes.specs.declared.standard.StandardMode.TheVariants.{Ecb, Cbc}
use Rattle.beatlog.specs.Refusals.{row, seal_refusal, open_refusal}
use Rattle.pages.specs.Standard.{EcbEncrypted, EcbDecrypted, CbcEncrypted, CbcDecrypted}
use Rattle.pages.specs.declared.setup.Setup.{Setup}

-- what fixes the bytes of a page: the variant's number, the mode, the key and the start block. The engine does not
pub record Terms : Type 0 where
  pub variant : ℕ
  pub mode : StandardMode
  pub key : List ℕ
  pub start : List ℕ

abbrev pub terms : Setup → Terms
terms s = record { variant = s.variant; mode = s.mode; key = s.key.now; start = s.start.now }

-- bytes in a block
abbrev pub size : Variant → ℕ
size v = block_length (parameters v).layout

-- ---- numbers
abbrev pub block_len_answer : Option Variant → Answer ℕ
block_len_answer None = record { value = None; number = 1 }
block_len_answer (Some v) = record { value = Some (size v); number = 0 }

-- 1 where no variant has the number, 2 where the key is not as long as the variant's, else what `later` says for its block length
abbrev pub refusal_by : Option Variant → ℕ → (ℕ → ℕ) → ℕ
refusal_by None key later = 1
refusal_by (Some v) key later = row 2 (not (key == key_length (parameters v))) (later (size v))

-- ---- equations
-- n blocks of readings P and of a page C, in either mode
abbrev pub Encrypted : StandardMode → (List ℕ → List ℕ) → ℕ → ℕ → List ℕ → List ℕ → List ℕ → Type 0
Encrypted Ecb E b n start P C = EcbEncrypted E b n P C
Encrypted Cbc E b n start P C = CbcEncrypted E b n start P C

abbrev pub Decrypted : StandardMode → (List ℕ → List ℕ) → ℕ → ℕ → List ℕ → List ℕ → List ℕ → Type 0
Decrypted Ecb D b n start C P = EcbDecrypted D b n C P
Decrypted Cbc D b n start C P = CbcDecrypted D b n start C P

-- a page on which n readings stand: they are encrypted, and zeros follow
pub record Holds (m : StandardMode) (E : List ℕ → List ℕ) (b n : ℕ) (start readings page : List ℕ) : Type 0 where
  pub whole : length readings ≡ n * b
  pub blocks : Encrypted m E b n start readings page
  pub zeros : drop (n * b) page ≡ replicate (length page - n * b) 0

-- the same by the terms, of a variant that has their number
abbrev pub HoldsBy : Terms → Variant → ℕ → List ℕ → List ℕ → Type 0
HoldsBy t v n readings page = Holds t.mode (E (parameters v) t.key) (size v) n t.start readings page

-- ---- calls
-- what sealing leaves, where it is accepted
pub record PageLeft (t : Terms) (v : Variant) (readings page page_after : List ℕ) (answer : Answer ℕ) : Type 0 where
  pub value : answer.value ≡ Some (length readings / size v)
  pub long : length page_after ≡ length page
  pub holds : HoldsBy t v (length readings / size v) readings page_after

-- a row of readings sealed into a page, then zeros; the answer is how many
pub record SealedPage (t : Terms) (readings page page_after : List ℕ) (answer : Answer ℕ) : Type 0 where
  pub number : answer.number ≡ refusal_by (numbered t.variant) (length t.key) (λ b. seal_refusal b (length t.start) (length readings) (length page))
  pub refused : answer.number ≢ 0 → (answer.value ≡ None) × (page_after ≡ page)
  pub accepted : answer.number ≡ 0 → (v : Variant) → numbered t.variant ≡ Some v → PageLeft t v readings page page_after answer

-- what opening leaves, where it is accepted
pub record PlaceLeft (t : Terms) (v : Variant) (page : List ℕ) (n : ℕ) (place_after : List ℕ) (answer : Answer ℕ) : Type 0 where
  pub value : answer.value ≡ Some n
  pub long : length place_after ≡ n * size v
  pub blocks : Decrypted t.mode (D (parameters v) t.key) (size v) n t.start page place_after

-- the n readings of a page opened into one place; the answer is how many
pub record OpenedPage (t : Terms) (page : List ℕ) (n : ℕ) (place place_after : List ℕ) (answer : Answer ℕ) : Type 0 where
  pub number : answer.number ≡ refusal_by (numbered t.variant) (length t.key) (λ b. open_refusal b (length t.start) (length page) n (length place))
  pub refused : answer.number ≢ 0 → (answer.value ≡ None) × (place_after ≡ place)
  pub accepted : answer.number ≡ 0 → (v : Variant) → numbered t.variant ≡ Some v → PlaceLeft t v page n place_after answer

-- ---- laws
-- the page that an accepted call leaves is the only one of its length on which these readings stand
abbrev pub OnePage : Terms → List ℕ → List ℕ → Answer ℕ → Type 0
OnePage t readings page answer =
    answer.number ≡ 0 → (v : Variant) → numbered t.variant ≡ Some v → (other : List ℕ) → length other ≡ length page
    → HoldsBy t v (length readings / size v) readings other → other ≡ page

-- an accepted call gives back the readings that stand on the page
abbrev pub GivesBack : Terms → List ℕ → ℕ → List ℕ → Answer ℕ → Type 0
GivesBack t page n place answer =
    answer.number ≡ 0 → (v : Variant) → numbered t.variant ≡ Some v → (readings : List ℕ) → Bytes readings
    → HoldsBy t v n readings page → place ≡ readings
