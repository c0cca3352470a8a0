use Rattle.std.proofs.Common.{arith}
use Rattle.ublock.proofs.Bytes.{bytes_from}
use Rattle.pages.specs.Calls.{terms}
use Rattle.pages.proofs.Laws.{gives_back}
use Rattle.pages.proofs.setup.Setup.open.Goals as goal

pub returns-then-branch-eq16-clause-gives_back : goal.returns-then-branch-eq16-clause-gives_back
returns-then-branch-eq16-clause-gives_back c =
    gives_back (terms c.args.self.now) c.known_bytes.ensures c.known_bytes-2.ensures _ (bytes_from c.args.page.now (λ k. omega (arith, c.type_inv.page k))) _ _ _ _
    c.open_halves.ensures

pub returns-else-branch-eq16-clause-gives_back : goal.returns-else-branch-eq16-clause-gives_back
returns-else-branch-eq16-clause-gives_back c =
    gives_back (terms c.args.self.now) c.known_bytes.ensures c.known_bytes-2.ensures _ (bytes_from c.args.page.now (λ k. omega (arith, c.type_inv.page k))) _ _ _ _
    c.open_halves-else-branch-eq16.ensures
