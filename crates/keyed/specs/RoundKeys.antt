-- What an engine's rows of round keys mean.
use Rattle.std.specs.Prelude.{◌≡◌, ℕ, ◌≤◌, List, [], map, take, Some, slice_index_or}
use Rattle.ublock.specs.Cipher.{Layout, block_length, RK, encipher, decipher}
use Rattle.ublock.specs.Variants.{parameters, numbered}
use Rattle.ublock.specs.declared.variant.Variant.{Variant}

-- round key j: a block at the front of row j, of which `bytes` gives the bytes
abbrev pub row_key : {R : Type 0} → (R → List ℕ) → Layout → List R → ℕ → List ℕ
row_key bytes l rows j = take (block_length l) (slice_index_or (map bytes rows) j [])

-- an engine's variant is the numbered one, and its rows begin with that variant's round keys
abbrev pub HoldRoundKeys : {R : Type 0} → (R → List ℕ) → Layout → ℕ → List ℕ → Variant → List R → Type 0
HoldRoundKeys bytes l number key w rows =
    (v : Variant) → numbered number ≡ Some v → (w ≡ v) × ((j : ℕ) → j ≤ (parameters v).round_count → row_key bytes l rows j ≡ RK (parameters v) key j)

abbrev pub keyed_E : {R : Type 0} → (R → List ℕ) → Layout → List R → Variant → List ℕ → List ℕ
keyed_E bytes l rows v x = encipher l (row_key bytes l rows) (parameters v).round_count x

abbrev pub keyed_D : {R : Type 0} → (R → List ℕ) → Layout → List R → Variant → List ℕ → List ℕ
keyed_D bytes l rows v y = decipher l (row_key bytes l rows) (parameters v).round_count y
