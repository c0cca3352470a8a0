-- All lines are answered, or a front part of the answers is written.
use Rattle.answering.proofs.Service.{all_front, all_written, new_served, nothing_front, on_err, on_ok, whole_front}
use Rattle.answering.proofs.input.run.Goals as goal

pub returns-in_err-buffer-clause-cut_off : goal.returns-in_err-buffer-clause-cut_off
returns-in_err-buffer-clause-cut_off g c = on_err _ (nothing_front (g.W.Write.contents c.args.writer.now) (g.R.Read.remaining c.args.reader.now))

pub returns-in_err-answer_chunks-clause-cut_off : goal.returns-in_err-answer_chunks-clause-cut_off
returns-in_err-answer_chunks-clause-cut_off g c = on_err _ (c.in_err-answer_chunks.ensures.cut_off (new_served _ _ _ c.new-splitter.ensures.lines c.new-session.ensures))

pub returns-in_err-answer_last-clause-cut_off : goal.returns-in_err-answer_last-clause-cut_off
returns-in_err-answer_last-clause-cut_off g c =
    on_err _
    (all_front _ _ _ _ _ _ (c.in_ok-answer_chunks.ensures.served (new_served _ _ _ c.new-splitter.ensures.lines c.new-session.ensures)) (λ fed. c.in_err-answer_last.ensures.cut_off _ fed))

pub returns-clause-answered : goal.returns-clause-answered
returns-clause-answered g c =
    on_ok c.flush.result
    (all_written _ _ _ _ _ _ _ (c.in_ok-answer_chunks.ensures.served (new_served _ _ _ c.new-splitter.ensures.lines c.new-session.ensures)) (λ fed. c.in_ok-answer_last.ensures.answered _ fed) c.flush.ensures.bytes)

pub returns-clause-cut_off : goal.returns-clause-cut_off
returns-clause-cut_off g c =
    on_err c.flush.result
    (whole_front _ _ _
    (all_written _ _ _ _ _ _ _ (c.in_ok-answer_chunks.ensures.served (new_served _ _ _ c.new-splitter.ensures.lines c.new-session.ensures)) (λ fed. c.in_ok-answer_last.ensures.answered _ fed) c.flush.ensures.bytes))
