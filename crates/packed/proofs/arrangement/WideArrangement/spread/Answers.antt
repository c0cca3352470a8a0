use Rattle.std.proofs.Common.{◌≡◌, length, take, ap, ◌∙◌, rules}
use Rattle.std.proofs.lemmas.Simd.{pick_l_whole}
use Rattle.vectors.specs.Vectors.{vector_bytes}
use Rattle.packed.proofs.Arranged.{wide_spread}
use Rattle.packed.proofs.arrangement.WideArrangement.spread.Goals as goal

pub returns : goal.returns
returns c = λ i lt.
    let long : length c.args.w ≡ 4 = search rules in
    wide_spread _ _ _ _ i lt ∙ ap (λ ws. take 32 (vector_bytes ws)) (pick_l_whole 0 c.args.w 4 long)
