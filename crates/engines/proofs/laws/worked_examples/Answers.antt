use Rattle.engines.proofs.RunFacts.{runs_by_blocks}
use Rattle.engines.proofs.laws.worked_examples.Goals as goal

pub returns-clause-runs : goal.returns-clause-runs
returns-clause-runs c = runs_by_blocks
