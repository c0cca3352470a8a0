-- A row of bytes cut into parts of one length.
use Rattle.std.specs.Prelude.{ℕ, ◌*◌, List, take, drop}

-- part i of a row that is cut into parts of m
abbrev pub part : ℕ → ℕ → List ℕ → List ℕ
part m i xs = take m (drop (i * m) xs)
