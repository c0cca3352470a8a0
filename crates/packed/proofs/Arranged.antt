-- The words of blocks, in the vectors of their halves.
use Rattle.std.specs.Prelude.{◌≡◌, ℕ, zero, suc, ◌<◌, [], ◌∷◌, take, replicate, refl}
use Rattle.std.proofs.Common.{arith}
use Rattle.ublock.specs.Parts.{part}
use Rattle.vectors.specs.Vectors.{word64, vector_bytes, block_at}

below_four : (P : ℕ → Type 0) → P 0 → P 1 → P 2 → P 3 → (i : ℕ) → i < 4 → P i
below_four P a b c d zero h = a
below_four P a b c d (suc zero) h = b
below_four P a b c d (suc (suc zero)) h = c
below_four P a b c d (suc (suc (suc zero))) h = d
below_four P a b c d (suc (suc (suc (suc i)))) h = absurd (omega arith)

below_two : (P : ℕ → Type 0) → P 0 → P 1 → (i : ℕ) → i < 2 → P i
below_two P a b zero h = a
below_two P a b (suc zero) h = b
below_two P a b (suc (suc i)) h = absurd (omega arith)

module _ (a b c d e f g h : ℕ) where
  pub narrow_halves : (i : ℕ) → i < 4 → block_at 8 i (a ∷ c ∷ e ∷ g ∷ []) (b ∷ d ∷ f ∷ h ∷ []) ≡ part 16 i (vector_bytes (a ∷ b ∷ c ∷ d ∷ e ∷ f ∷ g ∷ h ∷ []))
  unfolding word64
  narrow_halves =
      below_four (λ i. block_at 8 i (a ∷ c ∷ e ∷ g ∷ []) (b ∷ d ∷ f ∷ h ∷ []) ≡ part 16 i (vector_bytes (a ∷ b ∷ c ∷ d ∷ e ∷ f ∷ g ∷ h ∷ []))) refl refl refl refl

  pub wide_halves : (i : ℕ) → i < 2 → block_at 16 i (a ∷ b ∷ e ∷ f ∷ []) (c ∷ d ∷ g ∷ h ∷ []) ≡ part 32 i (vector_bytes (a ∷ b ∷ c ∷ d ∷ e ∷ f ∷ g ∷ h ∷ []))
  unfolding word64
  wide_halves =
      below_two (λ i. block_at 16 i (a ∷ b ∷ e ∷ f ∷ []) (c ∷ d ∷ g ∷ h ∷ []) ≡ part 32 i (vector_bytes (a ∷ b ∷ c ∷ d ∷ e ∷ f ∷ g ∷ h ∷ []))) refl refl

module _ (a b c d : ℕ) where
  pub narrow_spread : (i : ℕ) → i < 4 → block_at 8 i (replicate 4 a) (replicate 4 b) ≡ take 16 (vector_bytes (a ∷ b ∷ c ∷ d ∷ []))
  unfolding word64
  narrow_spread = below_four (λ i. block_at 8 i (replicate 4 a) (replicate 4 b) ≡ take 16 (vector_bytes (a ∷ b ∷ c ∷ d ∷ []))) refl refl refl refl

  pub wide_spread : (i : ℕ) → i < 2 → block_at 16 i (a ∷ b ∷ a ∷ b ∷ []) (c ∷ d ∷ c ∷ d ∷ []) ≡ take 32 (vector_bytes (a ∷ b ∷ c ∷ d ∷ []))
  unfolding word64
  wide_spread = below_two (λ i. block_at 16 i (a ∷ b ∷ a ∷ b ∷ []) (c ∷ d ∷ c ∷ d ∷ []) ≡ take 32 (vector_bytes (a ∷ b ∷ c ∷ d ∷ []))) refl refl
