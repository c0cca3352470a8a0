use Rattle.pages.proofs.Laws.{one_page}
use Rattle.pages.proofs.setup.Setup.seal.Goals as goal

pub returns-then-branch-eq16-clause-one_page : goal.returns-then-branch-eq16-clause-one_page
returns-then-branch-eq16-clause-one_page c = one_page _ _ _ _ _ c.seal_halves.ensures

pub returns-else-branch-eq16-clause-one_page : goal.returns-else-branch-eq16-clause-one_page
returns-else-branch-eq16-clause-one_page c = one_page _ _ _ _ _ c.seal_halves-else-branch-eq16.ensures
