-- A run of bytes more is written.
use Rattle.std.proofs.Common.{◌-◌, length, drop, arith}
use Rattle.std.proofs.lemmas.List.{length-drop, length-take}
use Rattle.answering.proofs.Service.{all_text, appends_kept, appends_nothing, front_at, more_written, on_err}
use Rattle.answering.proofs.writing.write_whole.Goals as goal

pub loop-done-init : goal.loop-done-init
loop-done-init g c = (omega arith, appends_nothing _)

pub loop-done-preserved : goal.loop-done-preserved
loop-done-preserved g c =
    let text = c.args.text.now in
    let done = c.loop-done.done in (
      omega (arith, length-take (length text - done) (drop done text), length-drop done text, c.in_ok-n.ensures.within, c.loop-done.invariant.0),
      more_written _ _ _ text done c.in_ok-n.n c.loop-done.invariant.1 c.in_ok-n.ensures.bytes,
    )

pub returns-clause-whole : goal.returns-clause-whole
returns-clause-whole g c = all_text _ _ c.args.text.now c.loop-done.done (omega arith) c.loop-done.invariant.1

pub returns-in_err-n-clause-cut_off : goal.returns-in_err-n-clause-cut_off
returns-in_err-n-clause-cut_off g c = on_err _ (front_at _ _ c.args.text.now c.loop-done.done (appends_kept _ _ _ _ c.loop-done.invariant.1 c.in_err-n.ensures.bytes))

pub returns-then-n-eq0-clause-cut_off : goal.returns-then-n-eq0-clause-cut_off
returns-then-n-eq0-clause-cut_off g c = front_at _ _ c.args.text.now _ (more_written _ _ _ c.args.text.now c.loop-done.done c.in_ok-n.n c.loop-done.invariant.1 c.in_ok-n.ensures.bytes)
