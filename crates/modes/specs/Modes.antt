-- What a mode of operation is: two masks for each block, and what its call answers and leaves.
use Rattle.std.specs.Prelude.{◌≡◌, ℕ, ◌&&◌, ◌||◌, ◌⊎◌, Bool, cond, false, not, List, length, Some, None, Ok, Err, codes, Result, ◌==◌}
use Rattle.ublock.specs.Laws.{Block}
use Rattle.cipher.specs.Engines.{Answer}
use Rattle.modes.specs.declared.mode.ModeFault.{ModeFault}
use Rattle.modes.specs.declared.mode.ModeFault.TheVariants.{PieceLength}

-- the lengths that a block may have
abbrev pub BlockLength : ℕ → Type 0
BlockLength b = (b ≡ 16) ⊎ (b ≡ 32)

-- a mask, as a function of the start block, the block's index and the sealed block before it
abbrev pub Mask : Type 0
Mask = List ℕ → ℕ → List ℕ → List ℕ

-- what a mask owes over pieces of b bytes: it is one of them, and where the mode is not chained it is the same for every
-- block before. A mode is called chained if it needs the block before
pub record MaskRule (b : ℕ) (mask : Mask) (chained : Bool) : Type 0 where
  pub long : (v : List ℕ) (i : ℕ) (before : List ℕ) → length v ≡ b → length before ≡ b → length (mask v i before) ≡ b
  pub block : (v : List ℕ) (i : ℕ) (before : List ℕ) → Block b v → Block b before → Block b (mask v i before)
  pub same_for_each_before : chained ≡ false → (v : List ℕ) (i : ℕ) (before other : List ℕ) → Block b v → Block b before → Block b other → mask v i before ≡ mask v i other

pub record Rule (b : ℕ) (f l : Mask) (chained : Bool) : Type 0 where
  pub first : MaskRule b f chained
  pub last : MaskRule b l chained

abbrev pub mode_answer : {T : Type 0} → Result T ModeFault → Answer T
mode_answer (Ok x) = record { value = Some x; number = 0 }
mode_answer (Err PieceLength) = record { value = None; number = 4 }

abbrev pub mode_fault_text : ModeFault → List ℕ
mode_fault_text PieceLength = codes "start block, block before and masks are not all of 16 or all of 32 bytes"

abbrev pub all_of : ℕ → ℕ → ℕ → ℕ → ℕ → Bool
all_of b m n o p = (m == b) && ((n == b) && ((o == b) && (p == b)))

-- pieces of these lengths are refused: they are not all of 16 or all of 32 bytes
abbrev pub misfit : ℕ → ℕ → ℕ → ℕ → Bool
misfit m n o p = not (all_of 16 m n o p || all_of 32 m n o p)

-- the masks of start block v, index i and block before are written into two places; pieces that do not fit are refused with 4
-- and both places stay
pub record Masked (f l : Mask) (v : List ℕ) (i : ℕ) (before : List ℕ) (a z a_after z_after : List ℕ) (answer : Answer Unit) : Type 0 where
  pub number : answer.number ≡ cond (misfit (length v) (length before) (length a) (length z)) 4 0
  pub first : a_after ≡ cond (misfit (length v) (length before) (length a) (length z)) a (f v i before)
  pub last : z_after ≡ cond (misfit (length v) (length before) (length a) (length z)) z (l v i before)
