use Rattle.pages.specs.Calls.{terms}
use Rattle.pages.proofs.Calls.{opened_page}
use Rattle.pages.proofs.setup.open_with.Goals as goal

pub returns : goal.returns
returns g c =
    let filled = rw c.in_ok-engine.was at c.requires.filled in
    opened_page (terms c.args.setup.now) g.E.Engine.block_length _ _ filled.number filled.cipher (g.met.E.Engine.permutes _).dec_long _ _ _ _ _ c.open.ensures
