-- What is held is the last line.
use Rattle.std.proofs.Common.{◌≤◌, length, rules, arith}
use Rattle.std.proofs.lemmas.List.{length-take}
use Rattle.lines.specs.Lines.{HasNoFeed}
use Rattle.lines.proofs.Steps.{last_read}
use Rattle.lines.proofs.splitter.Splitter.finish.Goals as goal

pub returns-clause-lines : goal.returns-clause-lines
returns-clause-lines c fed given so =
    let r = c.args.self.now in
    let u : HasNoFeed r.held = rw (← c.self.view_is) c.self.invariant.2 in
    let le : length r.held ≤ 201 = rw (← c.self.view_is) (omega (arith, length-take c.self.inside.held c.self.inside.buffer)) in
    last_read r _ _ fed given u le (search rules) (search rules) so
