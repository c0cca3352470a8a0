-- The line that was given is the line that is answered.
use Rattle.std.proofs.Common.{OnOk, OnErr, subst, ap, ◌∙◌}
use Rattle.std.specs.Io.KnownBytes.{Appends}
use Rattle.session.specs.Session.{answer}
use Rattle.session.specs.contracts.session.SessionShown.TheImpl as the_session
use Rattle.answering.specs.Output.{AppendsFront}
use Rattle.answering.proofs.input.answer_line.Goals as goal

pub returns-clause-state : goal.returns-clause-state
returns-clause-state g c = c.answer.ensures.state ∙ ap (λ l. (answer (the_session.ghosts.shown c.args.session.now) l).state) c.line.ensures.line

pub returns-clause-text : goal.returns-clause-text
returns-clause-text g c =
    subst (λ t. OnOk c.write_whole.result (Appends (g.W.Write.contents c.args.writer.now) (g.W.Write.contents c.write_whole.new.writer) t))
    (c.as_slice.ensures ∙ c.answer.ensures.text ∙ ap (λ l. (answer (the_session.ghosts.shown c.args.session.now) l).text) c.line.ensures.line)
    c.write_whole.ensures.whole

pub returns-clause-cut_off : goal.returns-clause-cut_off
returns-clause-cut_off g c =
    subst (λ t. OnErr c.write_whole.result (AppendsFront (g.W.Write.contents c.args.writer.now) (g.W.Write.contents c.write_whole.new.writer) t))
    (c.as_slice.ensures ∙ c.answer.ensures.text ∙ ap (λ l. (answer (the_session.ghosts.shown c.args.session.now) l).text) c.line.ensures.line)
    c.write_whole.ensures.cut_off
