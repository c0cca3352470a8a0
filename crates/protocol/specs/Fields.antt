-- Fields, and what each kind of field says: None where it breaks its rule.
use Rattle.std.specs.Prelude.{ℕ, ◌+◌, ◌-◌, ◌*◌, Bool, ◌&&◌, ◌||◌, List, [], ◌∷◌, length, Option, Some, None, option_and_then, nat_lt, nat_le, ◌==◌, if◌then◌else◌}
use Rattle.std.specs.List.{slice_split}
use Rattle.std.specs.Str.{byte}
use Rattle.protocol.specs.declared.command.EngineName.{EngineName}
use Rattle.protocol.specs.declared.command.EngineName.TheVariants.{Plain, Packed}
use Rattle.protocol.specs.declared.command.ModeName.{ModeName}
use Rattle.protocol.specs.declared.command.ModeName.TheVariants.{Ecb, Cbc}

infixl 10 ◌>>=◌
abbrev pub ◌>>=◌ : {A B : Type 0} → Option A → (A → Option B) → Option B
o >>= f = option_and_then f o

-- a text is parted at each tab: it has one field more than tabs
abbrev pub is_tab : ℕ → Bool
is_tab c = c == byte "\t"

unfoldable pub fields : List ℕ → List (List ℕ)
fields text = slice_split is_tab text

-- the field, where it is the only one
unfoldable pub alone : List (List ℕ) → Option (List ℕ)
alone (field ∷ []) = Some field
alone _ = None

abbrev pub between : ℕ → ℕ → ℕ → Bool
between first last c = nat_le first c && nat_le c last

-- ---- numbers: one to five decimal digits
abbrev pub digit_of : ℕ → Option ℕ
digit_of c = if between (byte "0") (byte "9") c then Some (c - byte "0") else None

-- the number that more digits make of n
unfoldable pub read_on : ℕ → List ℕ → Option ℕ
read_on n [] = Some n
read_on n (c ∷ cs) = do
  d ← digit_of c
  read_on (10 * n + d) cs

unfoldable pub number_of : List ℕ → Option ℕ
number_of field = if (length field == 0) || nat_lt 5 (length field) then None else read_on 0 field

-- ---- bytes: pairs of lower-case hex digits, or nothing
abbrev pub hex_digit_of : ℕ → Option ℕ
hex_digit_of c =
    if between (byte "0") (byte "9") c
    then Some (c - byte "0")
    else (if between (byte "a") (byte "f") c then Some (c - byte "a" + 10) else None)

unfoldable pub bytes_of : List ℕ → Option (List ℕ)
bytes_of [] = Some []
bytes_of (c ∷ []) = None
bytes_of (c ∷ d ∷ cs) = do
  high ← hex_digit_of c
  low ← hex_digit_of d
  more ← bytes_of cs
  Some ((16 * high + low) ∷ more)

-- ---- a letter, for the engine and for the mode
unfoldable pub letter_of : List ℕ → Option ℕ
letter_of (c ∷ []) = Some c
letter_of _ = None

unfoldable pub engine_of : List ℕ → Option EngineName
engine_of field = do
  c ← letter_of field
  if c == byte "P" then Some Plain else (if c == byte "K" then Some Packed else None)

unfoldable pub mode_of : List ℕ → Option ModeName
mode_of field = do
  c ← letter_of field
  if c == byte "E" then Some Ecb else (if c == byte "C" then Some Cbc else None)
