-- Worked examples: inputs beside their lines; and what is left of inputs beyond the limits.
use Rattle.std.specs.Prelude.{◌≡◌, ℕ, ◌==◌, false, min, List, [], ◌∷◌, ◌++◌, length, map, take, replicate, codes}
use Rattle.std.specs.Str.{byte}
use Rattle.lines.specs.Lines.{HasNoFeed, lines_of}

pub record Example : Type 0 where
  pub input : List ℕ
  pub lines : List (List ℕ)

-- the last line has 202 bytes
abbrev pub examples : List Example
examples =
    record { input = codes ""; lines = [] }
    ∷ record { input = codes "ab"; lines = codes "ab" ∷ [] }
    ∷ record { input = codes "ab\n"; lines = codes "ab" ∷ [] }
    ∷ record { input = codes "\n"; lines = codes "" ∷ [] }
    ∷ record { input = codes "ab\ncd"; lines = codes "ab" ∷ codes "cd" ∷ [] }
    ∷ record { input = codes "ab\n\n\rc\r\n"; lines = codes "ab" ∷ codes "" ∷ codes "\rc\r" ∷ [] }
    ∷ record { input = replicate 202 (byte "a"); lines = replicate 201 (byte "a") ∷ [] }
    ∷ []

abbrev pub LinesAsWorked : Type 0
LinesAsWorked = map (λ (e : Example). lines_of e.input) examples ≡ map (λ (e : Example). e.lines) examples

pub record LimitsHold : Type 0 where
  -- line feeds alone end at most 999,999 lines
  pub most_lines : (n : ℕ) → lines_of (replicate n 10) ≡ replicate (min n 999999) []
  -- after a line of 999,999,998 bytes and its line feed one byte more counts
  pub last_byte : (line : List ℕ) (x : ℕ) (after : List ℕ) → length line ≡ 999999998 → HasNoFeed line → (x == 10) ≡ false
      → lines_of (line ++ 10 ∷ x ∷ after) ≡ take 201 line ∷ (x ∷ []) ∷ []
