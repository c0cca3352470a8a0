use Rattle.std.proofs.Common.{◌+◌, length, ap, ◌∙◌, arith}
use Rattle.modes.specs.Sealing.{previous}
use Rattle.modes.proofs.Rows.{length_previous}
use Rattle.modes.proofs.MaskRows.{written, mask_turn, turn_fits, length_turn, masks_all}
use Rattle.modes.proofs.masks.write_masks.Goals as goal

pub loop-i-preserved : goal.loop-i-preserved
loop-i-preserved g c =
    let v = c.args.start.now in
    let b = length v in
    let i = c.loop-i.i in
    let w = c.args.before.now in
    let n = c.args.n in
    let xs = c.args.row.now in
    let index = c.args.index in
    let f = g.M.Mode.first_mask c.args.mode.now in
    let l = g.M.Mode.last_mask c.args.mode.now in
    let now_first = c.loop-i.first in
    let now_last = c.loop-i.last in
    let lt = c.loop-i-test.true in
    let is = c.previous_block-previous.ensures in
    let lp = ap length {y = previous b w i xs} is ∙ length_previous b w i n xs c.requires.before (omega arith) (omega (arith, c.requires.row)) in
    let fit_first = turn_fits b i n now_first lt (omega (arith, c.requires.first, c.loop-i.auto.first)) in
    let fit_last = turn_fits b i n now_last lt (omega (arith, c.requires.last, c.loop-i.auto.last)) in
    let both = written f l v (index + i) _ _ _ c.masks.new.first c.masks.new.last _ c.requires.start lp (length_turn b i now_first fit_first) (length_turn b i now_last fit_last) c.masks.ensures in (
      mask_turn f v index w b i _ xs now_first c.masks.new.first (omega arith) (omega (arith, length_turn b i now_first fit_first, c.masks.auto.first)) fit_first c.loop-i.invariant.0 (both.0 ∙ ap (f v (index + i)) is),
      mask_turn l v index w b i _ xs now_last c.masks.new.last (omega arith) (omega (arith, length_turn b i now_last fit_last, c.masks.auto.last)) fit_last c.loop-i.invariant.1 (both.1 ∙ ap (l v (index + i)) is),
    )

pub returns : goal.returns
returns g c =
    let v = c.args.start.now in
    record {
      first = masks_all (g.M.Mode.first_mask c.args.mode.now) v c.args.index c.args.before.now (length v) c.loop-i.i c.args.n c.args.row.now c.loop-i.first c.loop-i.auto.i-end c.loop-i-test.false (c.loop-i.auto.first ∙ c.requires.first) c.loop-i.invariant.0;
      last = masks_all (g.M.Mode.last_mask c.args.mode.now) v c.args.index c.args.before.now (length v) c.loop-i.i c.args.n c.args.row.now c.loop-i.last c.loop-i.auto.i-end c.loop-i-test.false (c.loop-i.auto.last ∙ c.requires.last) c.loop-i.invariant.1;
    }
