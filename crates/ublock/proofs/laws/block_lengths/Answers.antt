use Rattle.ublock.proofs.KeySteps.{variants_permute}
use Rattle.ublock.proofs.Rounds.{round_undone, cipher_permutes}
use Rattle.ublock.proofs.TableRules.{substitution_undone, layouts_invertible}
use Rattle.ublock.proofs.laws.block_lengths.Goals as goal

pub returns-clause-substitution_undone : goal.returns-clause-substitution_undone
returns-clause-substitution_undone c = substitution_undone

pub returns-clause-layouts_invertible : goal.returns-clause-layouts_invertible
returns-clause-layouts_invertible c = layouts_invertible

pub returns-clause-round_undone : goal.returns-clause-round_undone
returns-clause-round_undone c = round_undone

pub returns-clause-cipher_permutes : goal.returns-clause-cipher_permutes
returns-clause-cipher_permutes c = cipher_permutes

pub returns-clause-variants_permute : goal.returns-clause-variants_permute
returns-clause-variants_permute c = variants_permute
