use Rattle.std.proofs.Common.{◌≡◌, length, sym, ap, ◌∙◌, rules}
use Rattle.std.specs.Simd.Lanes.{pick_l}
use Rattle.std.specs.List.{range_with_len}
use Rattle.std.proofs.lemmas.Simd.{pick_l_whole}
use Rattle.vectors.specs.Vectors.{block_at}
use Rattle.packed.proofs.Arranged.{narrow_halves}
use Rattle.packed.proofs.arrangement.NarrowArrangement.words_of.Goals as goal

pub returns : goal.returns
returns c = λ i lt.
    let left = c.args.left in
    let right = c.args.right in
    let left_long : length left ≡ 4 = search rules in
    let right_long : length right ≡ 4 = search rules in
    sym (narrow_halves _ _ _ _ _ _ _ _ i lt)
    ∙ ap (λ ws. block_at 8 i ws (pick_l 0 right (range_with_len 0 4))) (pick_l_whole 0 left 4 left_long) ∙ ap (block_at 8 i left) (pick_l_whole 0 right 4 right_long)
