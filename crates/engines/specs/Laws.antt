-- What a call on a run comes to, block by block, and what filling answers, in examples.
use Rattle.std.specs.Prelude.{◌≡◌, ◌≢◌, ℕ, ◌*◌, ◌<◌, ◌≤◌, List, [], ◌∷◌, length}
use Rattle.std.specs.Simd.Lanes.{Each1}
use Rattle.ublock.specs.Parts.{part}
use Rattle.cipher.specs.Engines.{Answer, Shape, Ran}
use Rattle.cipher.specs.Keys.{fill_number}

-- block i of a run of m blocks of b bytes becomes f of block i
pub record BlocksReplaced (b m : ℕ) (f : List ℕ → List ℕ) (before after : List ℕ) : Type 0 where
  pub long : length after ≡ length before
  pub blocks : (i : ℕ) → i < m → part b i after ≡ f (part b i before)

-- of every engine: a run of m blocks, for any m up to the lane count, is accepted, and each of them replaced; a run that is of
-- no such m is refused with 4 and stays
abbrev pub RunsByBlocks : Type 0
RunsByBlocks =
    (b w : ℕ) → Shape b w → (f : List ℕ → List ℕ) → ((x : List ℕ) → length x ≡ b → length (f x) ≡ b)
    → (before after : List ℕ) (answer : Answer Unit) → Ran b w f before after answer
    → ((m : ℕ) → m ≤ w → length before ≡ m * b → (answer.number ≡ 0) × BlocksReplaced b m f before after)
    × (((m : ℕ) → m ≤ w → length before ≢ m * b) → (answer.number ≡ 4) × (after ≡ before))

-- an engine of blocks of so many bytes is filled for the variant of a number, with a key of so many bytes; and the number answered
pub record FillExample : Type 0 where
  pub block : ℕ
  pub variant : ℕ
  pub key : ℕ
  pub number : ℕ

abbrev pub fill_examples : List FillExample
fill_examples =
    record { block = 16; variant = 1; key = 16; number = 0 }
    ∷ record { block = 16; variant = 2; key = 32; number = 0 }
    ∷ record { block = 32; variant = 3; key = 32; number = 0 }
    ∷ record { block = 16; variant = 0; key = 16; number = 1 }
    ∷ record { block = 16; variant = 4; key = 0; number = 1 }
    ∷ record { block = 16; variant = 3; key = 32; number = 1 }
    ∷ record { block = 32; variant = 2; key = 16; number = 1 }
    ∷ record { block = 16; variant = 1; key = 32; number = 2 }
    ∷ record { block = 16; variant = 2; key = 16; number = 2 }
    ∷ record { block = 32; variant = 3; key = 31; number = 2 }
    ∷ []

abbrev pub FillExamplesHold : Type 0
FillExamplesHold = Each1 (λ (e : FillExample). fill_number e.block e.variant e.key ≡ e.number) fill_examples
