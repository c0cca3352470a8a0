-- Which layout a variant has.
use Rattle.std.specs.Prelude.{◌≡◌}
use Rattle.std.proofs.Common.{sym, ap, ⊎_elim, arith}
use Rattle.ublock.specs.Cipher.{Layout, block_length}
use Rattle.ublock.specs.Variants.{parameters}
use Rattle.ublock.specs.declared.variant.Variant.{Variant}
use Rattle.ublock.specs.declared.variant.Variant.TheVariants.{Block128Key128, Block128Key256, Block256Key256}
use Rattle.halves.specs.Halves.{IsUblockLayout}

pub layout_by_length : (v : Variant) (l : Layout) → IsUblockLayout l → block_length (parameters v).layout ≡ block_length l → (parameters v).layout ≡ l
layout_by_length Block128Key128 l p e = ⊎_elim (λ q. sym q) (λ q. let h = ap block_length q in absurd (omega arith)) p
layout_by_length Block128Key256 l p e = ⊎_elim (λ q. sym q) (λ q. let h = ap block_length q in absurd (omega arith)) p
layout_by_length Block256Key256 l p e = ⊎_elim (λ q. let h = ap block_length q in absurd (omega arith)) (λ q. sym q) p
