use Rattle.std.proofs.Common.{length, take, ap, ◌∙◌}
use Rattle.ublock.specs.Cipher.{block_length}
use Rattle.ublock.specs.Parts.{part}
use Rattle.vectors.specs.Vectors.{block_at}
use Rattle.packed.proofs.Parts.{part-take, lane_of_block}
use Rattle.packed.proofs.blocks.BlocksBundleWordRow.store.Goals as goal

pub returns-then-len-le64-clause-blocks : goal.returns-then-len-le64-clause-blocks
returns-then-len-le64-clause-blocks g c = λ fine i within.
    let l = g.H.Half.layout in
    let b = block_length l in
    let n = length c.args.run.now in
    let lt = lane_of_block l g.H.Lanes.lane_count i n g.met.H.Half.published g.met.H.Lanes.filled within c.if-len-le64.true in
    ap (part b i) (c.write_front.ensures ∙ ap (take n) c.bytes_of-bytes.ensures) ∙ part-take b i n _ within ∙ c.words_of.ensures i lt
    ∙ ap (λ x. block_at l.half i x c.halves.result.1) c.halves.ensures.left ∙ ap (block_at l.half i c.args.self.left) c.halves.ensures.right
