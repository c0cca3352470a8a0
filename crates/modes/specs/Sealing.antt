-- Rows of readings and of sealed blocks, under any permutation and any mode.
use Rattle.std.specs.Prelude.{◌≡◌, ℕ, zero, suc, ◌/◌, min, Bool, List, [], ◌∷◌, ◌++◌, length, take, drop}
use Rattle.std.specs.Simd.Lanes.{Each1}
use Rattle.ublock.specs.Cipher.{xor}
use Rattle.ublock.specs.Laws.{Block, Permutes}
use Rattle.ublock.specs.Parts.{part}
use Rattle.modes.specs.Modes.{BlockLength, Mask, Rule}
use Rattle.cipher.specs.declared.engine.Engine as engines
use Rattle.modes.specs.declared.sealer.Sealer.{Sealer}
use Rattle.modes.specs.declared.mode.Mode as modes

-- what fixes the bytes of sealed blocks: block length, permutation with its inverse, both masks, start block
pub record Scheme : Type 0 where
  pub size : ℕ
  pub enc : List ℕ → List ℕ
  pub dec : List ℕ → List ℕ
  pub first : Mask
  pub last : Mask
  pub start : List ℕ

-- that of an engine e, a mode m and a start block v
abbrev pub scheme : {E M : Type 0} → engines.Ghosts E → modes.Ghosts M → E → M → List ℕ → Scheme
scheme engine mode e m v = record { size = engine.block_length; enc = engine.enc e; dec = engine.dec e; first = mode.first_mask m; last = mode.last_mask m; start = v }

-- that of a sealer
abbrev pub scheme_of : {E M : Type 0} → engines.Ghosts E → modes.Ghosts M → Sealer E M → Scheme
scheme_of engine mode s = scheme engine mode s.engine s.mode (take engine.block_length s.start.bytes)

-- a scheme whose parts keep their laws
pub record Lawful (s : Scheme) : Type 0 where
  pub length : BlockLength s.size
  pub permutes : Permutes s.size s.enc s.dec
  pub chained : Bool
  pub rule : Rule s.size s.first s.last chained
  pub start : Block s.size s.start

-- sealed block i of a reading, after the sealed block before
abbrev pub seal_block : Scheme → ℕ → List ℕ → List ℕ → List ℕ
seal_block s i before p = xor (s.enc (xor p (s.first s.start i before))) (s.last s.start i before)

-- the reading of sealed block i
abbrev pub open_block : Scheme → ℕ → List ℕ → List ℕ → List ℕ
open_block s i before c = xor (s.dec (xor c (s.last s.start i before))) (s.first s.start i before)

-- the sealed blocks of a row of readings from index i on, each after the sealed block before it
abbrev pub sealed : Scheme → ℕ → List ℕ → List (List ℕ) → List (List ℕ)
sealed s i before [] = []
sealed s i before (p ∷ ps) = seal_block s i before p ∷ sealed s (suc i) (seal_block s i before p) ps

-- f of each block of a row from index i on, with its index and the block before it in the row; `before` stands before the first
abbrev pub along : (ℕ → List ℕ → List ℕ → List ℕ) → ℕ → List ℕ → List (List ℕ) → List (List ℕ)
along f i before [] = []
along f i before (x ∷ xs) = f i before x ∷ along f (suc i) x xs

-- the readings of a row of sealed blocks
abbrev pub opened : Scheme → ℕ → List ℕ → List (List ℕ) → List (List ℕ)
opened s = along (open_block s)

-- the bytes of a row of blocks
abbrev pub joined : List (List ℕ) → List ℕ
joined [] = []
joined (x ∷ xs) = x ++ joined xs

-- each of a row is b bytes long
abbrev pub AllLong : ℕ → List (List ℕ) → Type 0
AllLong b = Each1 (λ x. length x ≡ b)

-- each of a row is a block of b bytes
abbrev pub AllBlocks : ℕ → List (List ℕ) → Type 0
AllBlocks b = Each1 (Block b)

-- the last block of a row that follows the block `before`
abbrev pub last_block : List ℕ → List (List ℕ) → List ℕ
last_block before [] = before
last_block before (x ∷ xs) = last_block x xs

-- the first n blocks of b bytes
abbrev pub blocks : ℕ → ℕ → List ℕ → List (List ℕ)
blocks b zero xs = []
blocks b (suc n) xs = take b xs ∷ blocks b n (drop b xs)

-- the block before block i of a row that follows the block `before`
abbrev pub previous : ℕ → List ℕ → ℕ → List ℕ → List ℕ
previous b before zero xs = before
previous b before (suc i) xs = part b i xs

-- how many whole blocks of b bytes two rows of these lengths both have
abbrev pub whole_blocks : ℕ → ℕ → ℕ → ℕ
whole_blocks b m n = min (m / b) (n / b)

-- the masks along a row of blocks from index i on, joined
abbrev pub masks_along : Mask → List ℕ → ℕ → List ℕ → List (List ℕ) → List ℕ
masks_along mask v i before xs = joined (along (λ j w x. mask v j w) i before xs)
