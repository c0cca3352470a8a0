-- The published cipher in a standard mode keeps the laws of a scheme.
use Rattle.std.proofs.Common.{ℕ, List, inl, inr, refl}
use Rattle.ublock.specs.Cipher.{key_length}
use Rattle.ublock.specs.Laws.{Block, VariantPermutes}
use Rattle.ublock.specs.Variants.{parameters}
use Rattle.ublock.specs.declared.variant.Variant.{Variant}
use Rattle.ublock.specs.declared.variant.Variant.TheVariants.{Block128Key128, Block128Key256, Block256Key256}
use Rattle.ublock.proofs.KeySteps.{variants_permute}
use Rattle.modes.specs.Modes.{BlockLength}
use Rattle.modes.specs.Sealing.{Lawful}
use Rattle.modes.specs.StandardModes.{standard_chained}
use Rattle.modes.specs.Lawful.{standard_rule}
use Rattle.modes.specs.declared.standard.StandardMode.{StandardMode}
use Rattle.pages.specs.Calls.{size}
use Rattle.session.specs.Session.{published}

permutes_by : (v : Variant) → VariantPermutes (parameters v)
permutes_by Block128Key128 = variants_permute.0
permutes_by Block128Key256 = variants_permute.1
permutes_by Block256Key256 = variants_permute.2

pub size_by : (v : Variant) → BlockLength (size v)
size_by Block128Key128 = inl refl
size_by Block128Key256 = inl refl
size_by Block256Key256 = inr refl

pub published_lawful : (v : Variant) (mode : StandardMode) (key start : List ℕ) → Block (key_length (parameters v)) key → Block (size v) start
    → Lawful (published v mode key start)
published_lawful v mode key start hk hs = record {
  length = size_by v;
  permutes = permutes_by v key hk;
  chained = standard_chained mode;
  rule = standard_rule mode (size v) (size_by v);
  start = hs;
}
