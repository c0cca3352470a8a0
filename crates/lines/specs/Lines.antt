-- The lines of an input, and where a reading of them stands.
use Rattle.std.specs.Prelude.{◌≡◌, ℕ, ◌+◌, ◌-◌, ◌==◌, ◌&&◌, nat_lt, Bool, false, All, List, [], ◌∷◌, ◌++◌, length, map, take, position, Option, Some, None, if◌then◌else◌}
use Rattle.std.specs.List.{onto_first}

-- no byte is a line feed
abbrev pub HasNoFeed : List ℕ → Type 0
HasNoFeed = All (λ x. (x == 10) ≡ false)

-- a text cut at each line feed; what follows the last one is a line if it is not empty. `onto_first` puts a byte before the
-- first line, and begins one if there is none
abbrev pub split_lines : List ℕ → List (List ℕ)
split_lines [] = []
split_lines (x ∷ xs) = if x == 10 then [] ∷ split_lines xs else onto_first x (split_lines xs)

-- the first n lines, of each its first 201 bytes
abbrev pub first_lines : ℕ → List (List ℕ) → List (List ℕ)
first_lines n ls = map (take 201) (take n ls)

-- the lines of an input: at most 999,999, of its first 1,000,000,000 bytes
abbrev pub lines_of : List ℕ → List (List ℕ)
lines_of xs = first_lines 999999 (split_lines (take 1000000000 xs))

-- where a reading stands: the line that the last call gave, or nothing; the first 201 bytes of the line that is not at its
-- end; how many lines may still be given; how many bytes still count
pub record Reading : Type 0 where
  pub line : List ℕ
  pub held : List ℕ
  pub lines_left : ℕ
  pub bytes_left : ℕ

abbrev pub beginning : Reading
beginning = record { line = []; held = []; lines_left = 999999; bytes_left = 1000000000 }

-- the lines that are still given if xs follow, and then the input ends
abbrev pub lines_ahead : Reading → List ℕ → List (List ℕ)
lines_ahead r xs = first_lines r.lines_left (split_lines (r.held ++ take r.bytes_left xs))

-- a reading was fed these bytes and gave these lines: whatever follows, with those ahead they are the lines of it all
abbrev pub HasRead : Reading → List ℕ → List (List ℕ) → Type 0
HasRead r fed given = (xs : List ℕ) → given ++ lines_ahead r xs ≡ lines_of (fed ++ xs)

-- the bytes of a chunk that count
abbrev pub counted : Reading → List ℕ → List ℕ
counted r xs = if r.lines_left == 0 then [] else take r.bytes_left xs

-- the index of the first line feed among them
abbrev pub line_end : Reading → List ℕ → Option ℕ
line_end r xs = position (λ x. x == 10) (counted r xs)

-- the reading after a chunk with no line feed, or after its line feed at index i
abbrev pub after : Reading → List ℕ → Option ℕ → Reading
after r xs None = record { line = []; held = take 201 (r.held ++ counted r xs); lines_left = r.lines_left; bytes_left = r.bytes_left - length xs }
after r xs (Some i) = record { line = take 201 (r.held ++ take i xs); held = []; lines_left = r.lines_left - 1; bytes_left = r.bytes_left - (i + 1) }

-- whether a last line is left at the end of the input
abbrev pub has_last : Reading → Bool
has_last r = nat_lt 0 (length r.held) && nat_lt 0 r.lines_left

-- the reading at the end of the input
abbrev pub at_end : Reading → Reading
at_end r = record { line = (if has_last r then r.held else []); held = []; lines_left = 0; bytes_left = 0 }
