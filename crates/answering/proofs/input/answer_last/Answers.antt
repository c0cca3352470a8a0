-- With the last line, all that was fed is answered.
use Rattle.answering.proofs.Service.{last_front, last_served, none_left, on_err}
use Rattle.answering.proofs.input.answer_last.Goals as goal

pub returns-in_ok-answer_line-clause-answered : goal.returns-in_ok-answer_line-clause-answered
returns-in_ok-answer_line-clause-answered g c first fed so =
    last_served _ _ first _ _ fed c.finish.new.self.line c.finish.result so (c.finish.ensures.lines fed) c.if-finish.true c.in_ok-answer_line.ensures.text

pub returns-in_err-answer_line-clause-cut_off : goal.returns-in_err-answer_line-clause-cut_off
returns-in_err-answer_line-clause-cut_off g c first fed so =
    on_err _ (last_front _ _ first _ _ fed c.finish.new.self.line c.finish.result so (c.finish.ensures.lines fed) c.if-finish.true c.in_err-answer_line.ensures.cut_off)

pub returns-else-finish-clause-answered : goal.returns-else-finish-clause-answered
returns-else-finish-clause-answered g c first fed so = none_left _ _ first _ fed c.finish.new.self.line c.finish.result so (c.finish.ensures.lines fed) c.if-finish.false
