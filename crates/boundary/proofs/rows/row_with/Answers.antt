use Rattle.std.proofs.Common.{◌∙◌}
use Rattle.boundary.proofs.Ciphering.{row_ciphered}
use Rattle.boundary.proofs.rows.row_with.Goals as goal

pub returns-in-Ok : goal.returns-in-Ok
returns-in-Ok g c =
    let filled = rw c.in-Ok.is at c.requires.filled in
    row_ciphered _ _ c.args.direction _ _ _ filled.number filled.cipher _ _ _ (c.of_engine.ensures ∙ c.whole_row.ensures.number) c.whole_row.ensures.row
