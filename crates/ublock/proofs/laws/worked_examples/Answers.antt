use Rattle.ublock.proofs.Examples.{examples_hold}
use Rattle.ublock.proofs.laws.worked_examples.Goals as goal

pub returns-clause-hold : goal.returns-clause-hold
returns-clause-hold c = examples_hold
