-- Blocks side by side.
use Rattle.std.specs.Prelude.{ℕ, ◌<◌}

-- something holds of each of n lanes
abbrev pub EachLane : ℕ → (ℕ → Type 0) → Type 0
EachLane n P = (i : ℕ) → i < n → P i
