-- Rows of any number of blocks, enciphered or deciphered.
use Rattle.std.specs.Prelude.{◌≡◌, ℕ, ◌/◌, ◌%◌, cond, not, List, length, ◌==◌}
use Rattle.cipher.specs.Engines.{Answer, each}
use Rattle.cipher.specs.declared.rows.Direction.{Direction}
use Rattle.cipher.specs.declared.rows.Direction.TheVariants.{Encipher, Decipher}

-- one of two functions on blocks: the first enciphers, the second deciphers
abbrev pub in_direction : Direction → (List ℕ → List ℕ) → (List ℕ → List ℕ) → List ℕ → List ℕ
in_direction Encipher enc dec = enc
in_direction Decipher enc dec = dec

-- the number for a row of n bytes: 4 where it is not of whole blocks of b bytes
abbrev pub row_refusal : ℕ → ℕ → ℕ
row_refusal n b = cond (not (n % b == 0)) 4 0

-- a row of whole blocks of b bytes, each replaced by its f; any other is refused with 4 and stays
pub record RowReplaced (b : ℕ) (f : List ℕ → List ℕ) (before after : List ℕ) (answer : Answer Unit) : Type 0 where
  pub number : answer.number ≡ row_refusal (length before) b
  pub row : after ≡ cond (not (length before % b == 0)) before (each b f (length before / b) before)
