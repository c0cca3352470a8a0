-- The layouts that halves may have, and their byte permutations.
use Rattle.std.specs.Prelude.{◌≡◌, ◌⊎◌}
use Rattle.ublock.specs.Cipher.{Layout, layout128, layout256}
use Rattle.halves.specs.declared.Permutations.{Permutations}

-- one of the two layouts that the cipher has
abbrev pub IsUblockLayout : Layout → Type 0
IsUblockLayout l = (l ≡ layout128) ⊎ (l ≡ layout256)

-- the byte permutations of a layout
pub record HasPermutations (l : Layout) (p : Permutations) : Type 0 where
  pub left : p.left.now ≡ l.PL
  pub right : p.right.now ≡ l.PR
  pub inverse_left : p.inverse_left.now ≡ l.PL_inverse
  pub inverse_right : p.inverse_right.now ≡ l.PR_inverse
