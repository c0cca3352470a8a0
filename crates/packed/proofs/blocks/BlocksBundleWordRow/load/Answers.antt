use Rattle.std.proofs.Common.{◌≤◌, length, ap, ◌∙◌, arith}
use Rattle.ublock.specs.Cipher.{block_length}
use Rattle.ublock.specs.Parts.{part}
use Rattle.vectors.specs.Vectors.{block_at}
use Rattle.packed.proofs.Parts.{part_of_padded, lane_of_block}
use Rattle.packed.proofs.blocks.BlocksBundleWordRow.load.Goals as goal

pub returns-clause-blocks : goal.returns-clause-blocks
returns-clause-blocks g c = λ i within.
    let l = g.H.Half.layout in
    let b = block_length l in
    let run = c.args.run.now in
    let few : length run ≤ 64 = omega arith in
    let lt = lane_of_block l g.H.Lanes.lane_count i (length run) g.met.H.Half.published g.met.H.Lanes.filled within few in
    ap (λ x. block_at l.half i x c.of.result.right) c.of.ensures.left ∙ ap (block_at l.half i c.halves_of.result.0) c.of.ensures.right
    ∙ c.halves_of.ensures i lt ∙ ap (part b i) c.words_of.ensures ∙ part_of_padded b i run _ within few c.padded.ensures
