-- Rows that hold the key register, step by step.
use Rattle.std.specs.Prelude.{◌≡◌, ℕ, zero, suc, ◌<◌, ◌≤◌, List, [], map, take, slice_index_or}
use Rattle.ublock.specs.Cipher.{Parameters, key_length, register}
use Rattle.schedule.specs.Registers.{padded}
use Rattle.schedule.specs.declared.row.Row.{Row}

-- the bytes of row j
abbrev pub row_at : List Row → ℕ → List ℕ
row_at rows j = slice_index_or (map (λ (r : Row). r.bytes) rows) j []

-- the bytes of a register after j steps, where it starts with these: what it has past the key is zero after a step
abbrev pub register_bytes : Parameters → List ℕ → ℕ → List ℕ
register_bytes p bytes zero = bytes
register_bytes p bytes (suc j) = padded (register p (take (key_length p) bytes) (suc j))

-- row j holds the register after j steps, up to the last round's; every later one of n rows holds what the first does
pub record HoldRegisters (p : Parameters) (bytes : List ℕ) (n : ℕ) (rows : List Row) : Type 0 where
  pub steps : (j : ℕ) → j ≤ p.round_count → row_at rows j ≡ register_bytes p bytes j
  pub later : (j : ℕ) → p.round_count < j → j < n → row_at rows j ≡ bytes
