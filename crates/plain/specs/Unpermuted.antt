-- Blocks kept in halves that are still to go through the byte permutations.
use Rattle.std.specs.Prelude.{ℕ, List, ◌++◌, take, drop}
use Rattle.ublock.specs.Cipher.{Layout, permute, block_length}
use Rattle.words.specs.declared.pair.Pair.{Pair}

-- the block, from both halves
abbrev pub permuted_halves : Layout → List ℕ → List ℕ → List ℕ
permuted_halves l x y = permute l.PL x ++ permute l.PR y

-- where `bytes` gives the bytes of a half
abbrev pub block_of : {P : Type 0} → Layout → (P → List ℕ) → Pair P → List ℕ
block_of l bytes x = permuted_halves l (bytes x.first) (bytes x.second)

-- a row that begins with the block whose halves are at the front of xs, and goes on as ys does
abbrev pub row_of : Layout → List ℕ → List ℕ → List ℕ
row_of l xs ys = permuted_halves l (take l.half xs) (take l.half (drop l.half xs)) ++ drop (block_length l) ys
