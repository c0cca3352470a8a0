-- The variants as the code names them: what each fixes, and its number.
use Rattle.std.specs.Prelude.{◌≡◌, ℕ, cond, List, ◌++◌, Some, None, Option, Result, MatchResult, ◌==◌, codes}
use Rattle.std.specs.Fmt.{decimal}
use Rattle.ublock.specs.Cipher.{Parameters, ublock128_128, ublock128_256, ublock256_256}
use Rattle.ublock.specs.declared.variant.Variant.{Variant}
use Rattle.ublock.specs.declared.variant.UnknownVariant.{UnknownVariant}
use Rattle.ublock.specs.declared.variant.Variant.TheVariants.{Block128Key128, Block128Key256, Block256Key256}

abbrev pub parameters : Variant → Parameters
parameters Block128Key128 = ublock128_128
parameters Block128Key256 = ublock128_256
parameters Block256Key256 = ublock256_256

abbrev pub numbered : ℕ → Option Variant
numbered n = cond (n == 1) (Some Block128Key128) (cond (n == 2) (Some Block128Key256) (cond (n == 3) (Some Block256Key256) None))

-- the variant of a number, or the number that no variant has
abbrev pub Numbers : ℕ → Result Variant UnknownVariant → Type 0
Numbers n r = MatchResult r (λ v. numbered n ≡ Some v) (λ e. (e.0 ≡ n) × (numbered n ≡ None))

abbrev pub unknown_variant_text : UnknownVariant → List ℕ
unknown_variant_text unknown = codes "no variant has the number " ++ decimal unknown.0
