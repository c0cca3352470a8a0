-- Each chunk is served, and the loop ends where all lines are.
use Rattle.std.proofs.Common.{◌++◌, take, arith}
use Rattle.answering.proofs.Service.{all_at_end, all_when_full, consumes_more, input_front, on_err, served_front, served_kept}
use Rattle.answering.proofs.input.answer_chunks.Goals as goal

pub loop-writer-preserved : goal.loop-writer-preserved
loop-writer-preserved g c new =
    let before = c.loop-writer.invariant new in
    let part = take c.in_ok-n.n c.read_some.new.buffer in (
      before.0 ++ part,
      consumes_more _ _ _ before.0 part before.1 c.in_ok-n.ensures.bytes,
      c.in_ok-answer_lines.ensures.served _ before.0 (served_kept _ _ _ _ _ before.0 before.2 c.flush.ensures.bytes),
    )

pub returns-after-loop-writer-clause-served : goal.returns-after-loop-writer-clause-served
returns-after-loop-writer-clause-served g c new =
    let before = c.loop-writer.invariant new in
    all_when_full _ _ _ _ _ _ before.0 before.2 before.1 (c.is_full.ensures.stays c.loop-writer-test.false)

pub returns-then-n-eq0-clause-served : goal.returns-then-n-eq0-clause-served
returns-then-n-eq0-clause-served g c new =
    let before = c.loop-writer.invariant new in
    all_at_end _ _ _ _ _ _ _ before.0 c.read_some.new.buffer c.in_ok-n.n (served_kept _ _ _ _ _ before.0 before.2 c.flush.ensures.bytes) before.1 c.in_ok-n.ensures.bytes c.if-n-eq0.true
    (c.in_ok-n.ensures.end c.if-n-eq0.true (omega (arith, c.requires, c.loop-writer.auto.buffer)))

pub returns-in_err-flush-clause-cut_off : goal.returns-in_err-flush-clause-cut_off
returns-in_err-flush-clause-cut_off g c new =
    let before = c.loop-writer.invariant new in
    on_err _ (input_front _ _ _ _ before.0 before.1 (served_front _ _ _ _ before.0 (served_kept _ _ _ _ _ before.0 before.2 c.flush.ensures.bytes)))

pub returns-in_err-n-clause-cut_off : goal.returns-in_err-n-clause-cut_off
returns-in_err-n-clause-cut_off g c new =
    let before = c.loop-writer.invariant new in
    on_err _ (input_front _ _ _ _ before.0 before.1 (served_front _ _ _ _ before.0 (served_kept _ _ _ _ _ before.0 before.2 c.flush.ensures.bytes)))

pub returns-in_err-answer_lines-clause-cut_off : goal.returns-in_err-answer_lines-clause-cut_off
returns-in_err-answer_lines-clause-cut_off g c new =
    let before = c.loop-writer.invariant new in
    let part = take c.in_ok-n.n c.read_some.new.buffer in
    on_err _
    (input_front _ _ _ _ (before.0 ++ part) (consumes_more _ _ _ before.0 part before.1 c.in_ok-n.ensures.bytes)
    (c.in_err-answer_lines.ensures.cut_off _ before.0 (served_kept _ _ _ _ _ before.0 before.2 c.flush.ensures.bytes)))
