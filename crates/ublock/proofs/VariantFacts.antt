-- What each variant's parameters keep to.
use Rattle.std.proofs.Common.{◌≡◌, ℕ, ◌*◌, ◌<◌, ◌≤◌, length, get_or, refl, arith}
use Rattle.ublock.specs.Cipher.{Parameters, block_length, key_length}
use Rattle.ublock.specs.Variants.{parameters}
use Rattle.ublock.specs.declared.variant.Variant.{Variant}
use Rattle.ublock.specs.declared.variant.Variant.TheVariants.{Block128Key128, Block128Key256, Block256Key256}
use Rattle.ublock.proofs.TableRules.{PKs_permute}

pub record Bounded (p : Parameters) : Type 0 where
  pub PK_long : length p.PK ≡ p.quarter * 4
  pub PK_within : (k : ℕ) → k < p.quarter * 4 → get_or p.PK k 0 < p.quarter * 4
  pub key_fits : p.quarter ≤ 8
  pub block_fits : block_length p.layout ≤ key_length p
  pub few_rounds : p.round_count ≤ 24

pub bounded : (v : Variant) → Bounded (parameters v)
bounded Block128Key128 = record { PK_long = refl; PK_within = PKs_permute.0.below; key_fits = omega arith; block_fits = omega arith; few_rounds = omega arith }
bounded Block128Key256 = record { PK_long = refl; PK_within = PKs_permute.1.below; key_fits = omega arith; block_fits = omega arith; few_rounds = omega arith }
bounded Block256Key256 = record { PK_long = refl; PK_within = PKs_permute.2.below; key_fits = omega arith; block_fits = omega arith; few_rounds = omega arith }
