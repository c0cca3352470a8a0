-- What a line says: None where it has the wrong shape.
use Rattle.std.specs.Prelude.{◌≡◌, ℕ, List, [], ◌∷◌, length, take, Option, Some, None, option_map, nat_lt, ◌==◌, if◌then◌else◌}
use Rattle.std.specs.Str.{byte}
use Rattle.protocol.specs.Fields.{fields, alone, number_of, bytes_of, engine_of, mode_of, ◌>>=◌}
use Rattle.protocol.specs.declared.command.Command.{Command}
use Rattle.protocol.specs.declared.command.Command.TheVariants.{New, Log}
use Rattle.protocol.specs.declared.command.NewLog.{NewLog}
use Rattle.protocol.specs.declared.command.LogCommand.{LogCommand}
use Rattle.protocol.specs.declared.command.LogCommand.TheVariants.{Append, Amend, Cut, Read, Show}

-- ---- the fields after the letter
unfoldable pub new_from : List ℕ → List ℕ → List ℕ → List ℕ → List ℕ → List ℕ → Option NewLog
new_from variant engine mode blocks key start = do
  v ← number_of variant
  e ← engine_of engine
  m ← mode_of mode
  b ← number_of blocks
  k ← bytes_of key
  s ← bytes_of start
  Some (record { variant = v; engine = e; mode = m; blocks = b; key = k; start = s })

unfoldable pub new_of : List (List ℕ) → Option NewLog
new_of (variant ∷ engine ∷ mode ∷ blocks ∷ key ∷ start ∷ []) = new_from variant engine mode blocks key start
new_of _ = None

unfoldable pub append_of : List (List ℕ) → Option LogCommand
append_of fields = do
  reading ← alone fields
  r ← bytes_of reading
  Some (Append r)

unfoldable pub amend_of : List (List ℕ) → Option LogCommand
amend_of (index ∷ reading ∷ []) = do
  i ← number_of index
  r ← bytes_of reading
  Some (Amend i r)
amend_of _ = None

-- the one field, a number
unfoldable pub number_alone : List (List ℕ) → Option ℕ
number_alone fields = alone fields >>= number_of

unfoldable pub cut_of : List (List ℕ) → Option LogCommand
cut_of fields = do
  n ← number_alone fields
  Some (Cut n)

unfoldable pub read_of : List (List ℕ) → Option LogCommand
read_of fields = do
  i ← number_alone fields
  Some (Read i)

unfoldable pub show_of : List (List ℕ) → Option LogCommand
show_of fields = do
  i ← number_alone fields
  Some (Show i)

-- ---- a line: the letter, which is the first field, says what the others are
abbrev pub of_letter : ℕ → List (List ℕ) → Option Command
of_letter c fields =
    if c == byte "N" then option_map New (new_of fields)
    else (if c == byte "A" then option_map Log (append_of fields)
    else (if c == byte "M" then option_map Log (amend_of fields)
    else (if c == byte "C" then option_map Log (cut_of fields)
    else (if c == byte "R" then option_map Log (read_of fields)
    else (if c == byte "S" then option_map Log (show_of fields)
    else None)))))

unfoldable pub of_fields : List (List ℕ) → Option Command
of_fields ((letter ∷ []) ∷ after) = of_letter letter after
of_fields _ = None

-- at most 200 bytes
unfoldable pub command_of : List ℕ → Option Command
command_of line = if nat_lt 200 (length line) then None else of_fields (fields line)

-- the first 201 bytes of a line say what the whole line says, so that a reader need keep no more of it
abbrev pub FirstBytesSuffice : Type 0
FirstBytesSuffice = (line : List ℕ) → command_of (take 201 line) ≡ command_of line
