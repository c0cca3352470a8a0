-- The laws of ECB and CBC. These lemmas stand here since a law that an impl proves may cite no file of its crate but those of specs/.
use Rattle.std.specs.Prelude.{ℕ, ◌<◌, Bool, true, false, length, replicate, refl}
use Rattle.std.proofs.Common.{◌∙◌, arith}
use Rattle.std.proofs.lemmas.Bool.{true≢false}
use Rattle.std.proofs.lemmas.List.{length-replicate}
use Rattle.std.proofs.lemmas.Simd.{Each1-replicate}
use Rattle.modes.specs.Modes.{BlockLength, MaskRule, Rule}
use Rattle.modes.specs.StandardModes.{standard_first, standard_chained}
use Rattle.modes.specs.declared.standard.StandardMode.{StandardMode}
use Rattle.modes.specs.declared.standard.StandardMode.TheVariants.{Ecb, Cbc}

-- a mask of zeros
pub zeros_rule : (b : ℕ) (chained : Bool) → MaskRule b (λ v i before. replicate (length v) 0) chained
zeros_rule b chained = record {
  long = λ v i before lv lb. length-replicate (length v) 0 ∙ lv;
  block = λ v i before hv hb. record { long = length-replicate (length v) 0 ∙ hv.long; bytes = Each1-replicate (λ z. z < 256) (length v) 0 (omega arith) };
  same_for_each_before = λ e v i before other hv hb ho. refl;
}

pub ecb_rule : (b : ℕ) → BlockLength b → Rule b (λ v i before. replicate (length v) 0) (λ v i before. replicate (length v) 0) false
ecb_rule b _ = record { first = zeros_rule b false; last = zeros_rule b false }

pub cbc_rule : (b : ℕ) → BlockLength b → Rule b (λ v i before. before) (λ v i before. replicate (length v) 0) true
cbc_rule b _ = record {
  first = record { long = λ v i before lv lb. lb; block = λ v i before hv hb. hb; same_for_each_before = λ e. absurd (true≢false e) };
  last = zeros_rule b true;
}

pub standard_rule : (m : StandardMode) (b : ℕ) → BlockLength b → Rule b (standard_first m) (λ v i before. replicate (length v) 0) (standard_chained m)
standard_rule Ecb = ecb_rule
standard_rule Cbc = cbc_rule
