-- A value added to blocks.
use Rattle.std.proofs.Common.{ℕ, List, take, ◌∙◌}
use Rattle.ublock.specs.Cipher.{xor}
use Rattle.ublock.proofs.Bytes.{length-xor}
use Rattle.layers.proofs.Blocks.{Keeps}

-- a value keeps the length of the blocks that it is added to
pub keeps_added : (b : ℕ) (value : List ℕ) → Keeps b (λ x. xor x (take b value))
keeps_added b value x e = length-xor x (take b value) ∙ e
