-- What is written for an input.
use Rattle.std.specs.Prelude.{◌≡◌, ℕ, List, ◌++◌, take, Option, IfSome}
use Rattle.std.specs.List.{concat}
use Rattle.std.specs.Io.KnownBytes.{Appends}
use Rattle.lines.specs.Lines.{Reading, HasRead, lines_of, split_lines}
use Rattle.session.specs.Session.{SessionState, texts, beginning, state_after}

-- the answers to some lines, one after the other
abbrev pub text_of : List (List ℕ) → List ℕ
text_of lines = concat (texts beginning lines)

-- the lines of an input, of any length: at most 999,999, of its first 1,000,000,000 bytes
abbrev pub whole_lines : List ℕ → List (List ℕ)
whole_lines input = take 999999 (split_lines (take 1000000000 input))

-- the answers to the lines of an input
abbrev pub output_of : List ℕ → List ℕ
output_of input = text_of (whole_lines input)

-- known bytes grow by a front part of a text
abbrev pub AppendsFront : Option (List ℕ) → Option (List ℕ) → List ℕ → Type 0
AppendsFront old new text = (n : ℕ) × Appends old new (take n text)

-- what was written after what the writer first held is a front part of the answers, whatever follows the bytes fed
abbrev pub FrontWritten : Option (List ℕ) → Option (List ℕ) → List ℕ → Type 0
FrontWritten first written fed = (xs : List ℕ) → AppendsFront first written (output_of (fed ++ xs))

-- a reading was fed these bytes; the session took the lines that it gave, and their answers, and nothing else, were written
-- after what the writer first held
pub record Served (reading : Reading) (session : SessionState) (first written : Option (List ℕ)) (fed : List ℕ) : Type 0 where
  pub given : List (List ℕ)
  pub has_read : HasRead reading fed given
  pub taken : session ≡ state_after beginning given
  pub answered : Appends first written (text_of given)

-- the bytes served give all lines of an input
pub record ServedAll (reading : Reading) (session : SessionState) (first written input : Option (List ℕ)) : Type 0 where
  pub fed : List ℕ
  pub served : Served reading session first written fed
  pub all : IfSome input (λ bytes. lines_of fed ≡ lines_of bytes)
