-- A worked example of a row that is sealed and opened, in blocks of two bytes.
use Rattle.std.specs.Prelude.{◌≡◌, ℕ, ◌+◌, List, [], ◌∷◌, ◌++◌, take, drop, replicate}
use Rattle.modes.specs.Sealing.{Scheme, sealed, opened, joined, blocks}

-- the second byte before the first
abbrev pub swapped : List ℕ → List ℕ
swapped xs = drop 1 xs ++ take 1 xs

-- both masks count: the first is the block before, the last the index and 5 in each byte
abbrev pub swapping : Scheme
swapping = record { size = 2; enc = swapped; dec = swapped; first = λ v i before. before; last = λ v i before. replicate 2 (i + 5); start = 0x01 ∷ 0x02 ∷ [] }

abbrev pub readings : List ℕ
readings = 0x10 ∷ 0x20 ∷ 0x40 ∷ 0x80 ∷ []

-- 1020 and 0102 make 1122, changed 2211, and with 0505 2714; 4080 and 2714 make 6794, changed 9467, and with 0606 9261
abbrev pub row : List ℕ
row = 0x27 ∷ 0x14 ∷ 0x92 ∷ 0x61 ∷ []

pub record SealedAsWorked : Type 0 where
  pub row_sealed : joined (sealed swapping 0 swapping.start (blocks 2 2 readings)) ≡ row
  pub row_opened : joined (opened swapping 0 swapping.start (blocks 2 2 row)) ≡ readings
