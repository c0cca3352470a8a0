use Rattle.boundary.proofs.Ciphering.{run_ciphered}
use Rattle.boundary.proofs.runs.run_with.Goals as goal

pub returns-in-Ok : goal.returns-in-Ok
returns-in-Ok g c =
    let filled = rw c.in-Ok.is at c.requires.filled in
    run_ciphered _ _ c.args.direction _ _ _ filled.number filled.cipher _ _ _ c.args.packed _ _ c.requires.lanes c.of_engine.ensures c.one_run.ensures
