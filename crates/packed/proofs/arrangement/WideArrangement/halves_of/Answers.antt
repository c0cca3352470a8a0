use Rattle.std.proofs.Common.{◌≡◌, length, ap, ◌∙◌, rules}
use Rattle.std.proofs.lemmas.Simd.{pick_l_whole}
use Rattle.ublock.specs.Parts.{part}
use Rattle.vectors.specs.Vectors.{vector_bytes}
use Rattle.packed.proofs.Arranged.{wide_halves}
use Rattle.packed.proofs.arrangement.WideArrangement.halves_of.Goals as goal

pub returns : goal.returns
returns c = λ i lt.
    let long : length c.args.w ≡ 8 = search rules in
    wide_halves _ _ _ _ _ _ _ _ i lt ∙ ap (λ ws. part 32 i (vector_bytes ws)) (pick_l_whole 0 c.args.w 8 long)
