use Rattle.std.proofs.Common.{◌≡◌, ◌-◌, ◌≤◌, ℕ, List, ◌++◌, length, Option}
use Rattle.session.specs.contracts.session.SessionShown.TheImpl as the_session
use Rattle.answering.specs.Output.{Served}
use Rattle.answering.proofs.input.answer_lines.Given as goal

abbrev pub invariant-loop-n : goal.invariant-loop-n
invariant-loop-n g l = record {
  within : length l.rest ≤ length l.chunk;
  bytes_left : l.splitter.bytes_left ≡ l.fn.splitter.bytes_left - (length l.chunk - length l.rest);
  served : (first : Option (List ℕ)) (fed : List ℕ)
      → Served l.fn.splitter (the_session.ghosts.shown l.fn.session) first (g.W.Write.contents l.fn.writer) fed
      → (part : List ℕ) × (part ++ l.rest ≡ l.chunk) × Served l.splitter (the_session.ghosts.shown l.session) first (g.W.Write.contents l.writer) (fed ++ part);
}

abbrev pub decreases-loop-n : goal.decreases-loop-n
decreases-loop-n g l = length l.rest
