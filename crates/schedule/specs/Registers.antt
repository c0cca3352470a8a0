-- Bytes in a place of 32.
use Rattle.std.specs.Prelude.{ℕ, List, ◌++◌, length, drop, replicate}

-- xs with zeros after it, up to 32
abbrev pub padded : List ℕ → List ℕ
padded xs = xs ++ drop (length xs) (replicate 32 0)
