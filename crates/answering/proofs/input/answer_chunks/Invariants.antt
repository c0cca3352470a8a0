use Rattle.std.proofs.Common.{ℕ, List, []}
use Rattle.std.specs.Io.KnownBytes.{Consumes}
use Rattle.session.specs.contracts.session.SessionShown.TheImpl as the_session
use Rattle.answering.specs.Output.{Served}
use Rattle.answering.proofs.input.answer_chunks.Given as goal

abbrev pub invariant-loop-writer : goal.invariant-loop-writer
invariant-loop-writer g l =
    Served l.fn.splitter (the_session.ghosts.shown l.fn.session) (g.W.Write.contents l.fn.writer) (g.W.Write.contents l.fn.writer) []
    → (fed : List ℕ) × Consumes (g.R.Read.remaining l.fn.reader) (g.R.Read.remaining l.reader) fed
    × Served l.splitter (the_session.ghosts.shown l.session) (g.W.Write.contents l.fn.writer) (g.W.Write.contents l.writer) fed

abbrev pub decreases-loop-writer : goal.decreases-loop-writer
decreases-loop-writer g l = l.splitter.bytes_left
