-- The laws of an engine. These lemmas stand here since a law that an impl proves may cite no file of its crate but those of specs/.
use Rattle.std.specs.Prelude.{ℕ, zero, suc, List, [], ◌∷◌, map, slice_index_or}
use Rattle.std.proofs.Common.{sym, subst, ⊎_elim}
use Rattle.ublock.specs.Cipher.{Layout, block_length}
use Rattle.ublock.specs.Laws.{Bytes, Invertible}
use Rattle.ublock.proofs.Bytes.{bytes-take}
use Rattle.ublock.proofs.TableRules.{layouts_invertible}
use Rattle.halves.specs.Halves.{IsUblockLayout}
use Rattle.keyed.specs.RoundKeys.{row_key}

-- both layouts have byte permutations with inverses
pub invertible_of : (l : Layout) → IsUblockLayout l → Invertible l
invertible_of l = ⊎_elim (λ e. subst Invertible (sym e) layouts_invertible.0) (λ e. subst Invertible (sym e) layouts_invertible.1)

row_bytes : {R : Type 0} (bytes : R → List ℕ) → ((row : R) → Bytes (bytes row)) → (rows : List R) (j : ℕ) → Bytes (slice_index_or (map bytes rows) j [])
row_bytes bytes all [] j = tt
row_bytes bytes all (row ∷ rows) zero = all row
row_bytes bytes all (row ∷ rows) (suc j) = row_bytes bytes all rows j

-- each round key is bytes
pub row_key_bytes : {R : Type 0} (bytes : R → List ℕ) → ((row : R) → Bytes (bytes row)) → (l : Layout) (rows : List R) (j : ℕ) → Bytes (row_key bytes l rows j)
row_key_bytes bytes all l rows j = bytes-take (block_length l) (slice_index_or (map bytes rows) j []) (row_bytes bytes all rows j)
