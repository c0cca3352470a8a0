-- Two rows of pieces, one after the other.
use Rattle.std.specs.Prelude.{ℕ, List, ◌++◌}
use Rattle.words.specs.declared.pair.Pair.{Pair}

-- the bytes of both, where `bytes` gives those of each
abbrev pub pair_bytes : {P : Type 0} → (P → List ℕ) → Pair P → List ℕ
pair_bytes bytes x = bytes x.first ++ bytes x.second
