-- Vectors of 64-bit words, each the list of its words, as the rows of bytes that they stand for.
use Rattle.std.specs.Prelude.{◌≡◌, ℕ, ◌/◌, ◌%◌, ◌<◌, List, [], ◌∷◌, ◌++◌}
use Rattle.ublock.specs.Parts.{part}
use Rattle.ublock.specs.Cipher.{be4, permute}

-- the eight bytes of a 64-bit number, the highest first
unfoldable pub word64 : ℕ → List ℕ
word64 n = be4 (n / 4294967296) ++ be4 n

-- the bytes of the words, one word after the other
abbrev pub vector_bytes : List ℕ → List ℕ
vector_bytes [] = []
vector_bytes (w ∷ ws) = word64 w ++ vector_bytes ws

-- each of the n parts of m bytes has gone through the permutation
abbrev pub InLanes : ℕ → ℕ → List ℕ → List ℕ → List ℕ → Type 0
InLanes m n sources xs ys = (i : ℕ) → i < n → part m i ys ≡ permute sources (part m i xs)

-- the 32-bit pieces of the words, the lower first
abbrev pub pieces : List ℕ → List ℕ
pieces [] = []
pieces (w ∷ ws) = (w % 4294967296) ∷ (w / 4294967296 % 4294967296) ∷ pieces ws

-- block i of two vectors, the left and the right halves, each of m bytes
abbrev pub block_at : ℕ → ℕ → List ℕ → List ℕ → List ℕ
block_at m i left right = part m i (vector_bytes left) ++ part m i (vector_bytes right)
