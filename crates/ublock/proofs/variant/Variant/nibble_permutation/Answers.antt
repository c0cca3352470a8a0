use Rattle.ublock.proofs.TableRules.{PKs_permute}
use Rattle.ublock.proofs.variant.Variant.nibble_permutation.Goals as goal

pub returns-in-Block128Key128-clause-permutes : goal.returns-in-Block128Key128-clause-permutes
returns-in-Block128Key128-clause-permutes c = PKs_permute

pub returns-in-Block128Key256-clause-permutes : goal.returns-in-Block128Key256-clause-permutes
returns-in-Block128Key256-clause-permutes c = PKs_permute

pub returns-in-Block256Key256-clause-permutes : goal.returns-in-Block256Key256-clause-permutes
returns-in-Block256Key256-clause-permutes c = PKs_permute
