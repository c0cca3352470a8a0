-- What ECB and CBC are, chosen at run time.
use Rattle.std.specs.Prelude.{Bool, true, false, length, replicate}
use Rattle.modes.specs.Modes.{Mask}
use Rattle.modes.specs.declared.standard.StandardMode.{StandardMode}
use Rattle.modes.specs.declared.standard.StandardMode.TheVariants.{Ecb, Cbc}

-- no mask, or the block before
abbrev pub standard_first : StandardMode → Mask
standard_first Ecb = λ v i before. replicate (length v) 0
standard_first Cbc = λ v i before. before

abbrev pub standard_chained : StandardMode → Bool
standard_chained Ecb = false
standard_chained Cbc = true
