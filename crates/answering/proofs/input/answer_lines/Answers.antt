-- A line more is served.
use Rattle.std.proofs.Common.{◌≡◌, ◌-◌, ◌≤◌, ◌++◌, append_assoc, length, take, arith}
use Rattle.answering.proofs.Service.{chunk_cut, chunk_front, left_after, length_cut, line_front, line_served, on_err}
use Rattle.answering.proofs.input.answer_lines.Goals as goal

pub loop-n-preserved : goal.loop-n-preserved
loop-n-preserved g c =
    let rest = c.loop-n.rest.now in
    let n = c.in-Some.n in
    let now = c.next_line.new.self in
    let fits : n ≤ length rest = c.in-Some.ensures.within.1 in
    let left : now.bytes_left ≡ c.loop-n.splitter.bytes_left - n = left_after c.loop-n.splitter now rest n c.in-Some.ensures.taken c.in-Some.ensures.state in
    record {
      within = omega (arith, length_cut rest n, c.loop-n.invariant.within);
      bytes_left = omega (arith, length_cut rest n, c.loop-n.invariant.within, c.loop-n.invariant.bytes_left, left, fits);
      served = λ first fed so.
          let before = c.loop-n.invariant.served first fed so in
          let part = before.0 in (
            part ++ take n rest,
            chunk_cut part rest _ n before.1,
            rw (← append_assoc fed part (take n rest))
                (line_served _ now _ _ first _ _ (fed ++ part) (take n rest) now.line before.2 (c.in-Some.ensures.lines (fed ++ part))
                c.answer_line.ensures.state c.in_ok-answer_line.ensures.text),
          );
    }

pub returns-in_err-answer_line-clause-cut_off : goal.returns-in_err-answer_line-clause-cut_off
returns-in_err-answer_line-clause-cut_off g c first fed so =
    let rest = c.loop-n.rest.now in
    let n = c.in-Some.n in
    let now = c.next_line.new.self in
    let before = c.loop-n.invariant.served first fed so in
    let part = before.0 in
    on_err _
    (chunk_front first _ fed part rest _ n before.1
    (line_front _ now _ first _ _ (fed ++ part) (take n rest) now.line before.2 (c.in-Some.ensures.lines (fed ++ part)) c.in_err-answer_line.ensures.cut_off))
