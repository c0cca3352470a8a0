use Rattle.session.proofs.NewLogs.{some_block, view_of_new}
use Rattle.session.proofs.begin.begin.Goals as goal

pub returns-clause-log : goal.returns-clause-log
returns-clause-log g c =
    let filled = c.in_ok-engine.ensures.cipher in
    view_of_new c.args.new.now _ _ _ _ _ _ c.as_slice.ensures c.as_slice-2.ensures c.standard.ensures (some_block g.met.B.Bundle.shaped.length_of_block) filled.number filled.cipher _ _ c.requires.page _ c.in_ok-begin.ensures
