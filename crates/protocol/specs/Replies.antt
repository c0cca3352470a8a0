-- How answers are written.
use Rattle.std.specs.Prelude.{ℕ, ◌+◌, ◌-◌, ◌/◌, ◌%◌, List, [], ◌∷◌, ◌++◌, codes, decimal, nat_lt, nat_le, if◌then◌else◌}
use Rattle.std.specs.Str.{byte}

abbrev pub hex_digit : ℕ → ℕ
hex_digit n = if nat_lt n 10 then byte "0" + n else byte "a" + (n - 10)

-- two lower-case hex digits for each byte
unfoldable pub hex_text : List ℕ → List ℕ
hex_text [] = []
hex_text (b ∷ bs) = hex_digit (b / 16) ∷ hex_digit (b % 16) ∷ hex_text bs

-- the layer that refuses with a number: 1 and 2 are a key's, 3 to 9 a log's, 10 and 11 a line's
abbrev pub layer_of : ℕ → List ℕ
layer_of number = if nat_le number 2 then codes "key" else (if nat_le number 9 then codes "log" else codes "line")

abbrev pub number_text : ℕ → List ℕ
number_text n = codes "ok\t" ++ decimal n ++ codes "\n"

abbrev pub block_text : List ℕ → List ℕ
block_text block = codes "ok\t" ++ hex_text block ++ codes "\n"

abbrev pub refusal_text : ℕ → ℕ → List ℕ
refusal_text line number = codes "no\t" ++ decimal line ++ codes "\t" ++ layer_of number ++ codes "\t" ++ decimal number ++ codes "\n"
