-- What an engine is, and what its calls answer and leave.
use Rattle.std.specs.Prelude.{◌≡◌, ℕ, zero, suc, ◌*◌, ◌/◌, ◌%◌, ◌≤◌, Bool, cond, not, ◌||◌, ◌⊎◌, List, [], ◌++◌, length, take, drop, Some, None, Ok, Err, codes, Option, Result, ◌==◌, nat_lt}
use Rattle.ublock.specs.Laws.{Block}
use Rattle.cipher.specs.declared.engine.EngineFault.{EngineFault}
use Rattle.cipher.specs.declared.engine.EngineFault.TheVariants.{RunLength}

-- an answer: the value that it carries, if any, and its number, which is 0 where the call did its work
pub record Answer (T : Type 0) : Type 0 where
  pub value : Option T
  pub number : ℕ

abbrev pub engine_answer : {T : Type 0} → Result T EngineFault → Answer T
engine_answer (Ok x) = record { value = Some x; number = 0 }
engine_answer (Err RunLength) = record { value = None; number = 4 }

abbrev pub engine_fault_text : EngineFault → List ℕ
engine_fault_text RunLength = codes "the run ends within a block, or has more blocks than lanes"

-- the block lengths and lane counts that an engine may have
pub record Shape (b w : ℕ) : Type 0 where
  pub length_of_block : (b ≡ 16) ⊎ (b ≡ 32)
  pub one_lane : 1 ≤ w
  pub eight_lanes : w ≤ 8

-- the first n blocks of b bytes of a run, each replaced by its f
unfoldable pub each : ℕ → (List ℕ → List ℕ) → ℕ → List ℕ → List ℕ
each b f zero xs = []
each b f (suc n) xs = f (take b xs) ++ each b f n (drop b xs)

-- a run of n bytes is refused: no multiple of b, or more than w blocks
abbrev pub refused : ℕ → ℕ → ℕ → Bool
refused b w n = not (n % b == 0) || nat_lt (w * b) n

-- a run of blocks of b bytes, at most w of them, each replaced by its f; any other is refused with 4 and stays
pub record Ran (b w : ℕ) (f : List ℕ → List ℕ) (before after : List ℕ) (answer : Answer Unit) : Type 0 where
  pub number : answer.number ≡ cond (refused b w (length before)) 4 0
  pub run : after ≡ cond (refused b w (length before)) before (each b f (length before / b) before)

-- two engines of blocks of b bytes mean one permutation: both take every block to the same block, there and back
pub record OnePermutation (b : ℕ) (enc dec enc' dec' : List ℕ → List ℕ) : Type 0 where
  pub enciphered : (x : List ℕ) → Block b x → enc x ≡ enc' x
  pub deciphered : (x : List ℕ) → Block b x → dec x ≡ dec' x
