-- The lines given and those ahead stay the lines of the bytes fed.
use Rattle.std.proofs.Common.{◌≡◌, Some, None, rules, arith, sym, ◌∙◌}
use Rattle.std.proofs.lemmas.Grind.{common_steps}
use Rattle.lines.specs.Lines.{HasNoFeed, line_end}
use Rattle.lines.proofs.Steps.{no_feed_held, none_read, some_read}
use Rattle.lines.proofs.splitter.Splitter.next_line.Goals as goal

pub invariant_of-self : goal.invariant_of-self
invariant_of-self c = (omega arith, omega arith, rw c.keep-self-inside.ensures.bytes (no_feed_held _ _ _ c.self.invariant.2 (sym c.line_feed.ensures ∙ c.in-None.is)))

pub returns-in-None-clause-state : goal.returns-in-None-clause-state
returns-in-None-clause-state c = grind (arith, common_steps)

pub returns-in-None-clause-lines : goal.returns-in-None-clause-lines
returns-in-None-clause-lines c fed given so =
    let r = c.args.self.now in
    let u : HasNoFeed r.held = rw (← c.self.view_is) c.self.invariant.2 in
    let e : line_end r c.args.chunk.now ≡ None = search rules in
    none_read r _ c.args.chunk.now fed given u e (returns-in-None-clause-state c) so

pub returns-in-Some-clause-state : goal.returns-in-Some-clause-state
returns-in-Some-clause-state c = grind (arith, common_steps)

pub returns-in-Some-clause-lines : goal.returns-in-Some-clause-lines
returns-in-Some-clause-lines c fed given so =
    let r = c.args.self.now in
    let u : HasNoFeed r.held = rw (← c.self.view_is) c.self.invariant.2 in
    let e : line_end r c.args.chunk.now ≡ Some c.in-Some.i = search rules in
    some_read r _ c.args.chunk.now fed given c.in-Some.i u e (returns-in-Some-clause-state c) so
