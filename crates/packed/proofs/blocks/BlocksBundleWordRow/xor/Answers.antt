use Rattle.std.proofs.Common.{◌≡◌, length, rules}
use Rattle.ublock.specs.Cipher.{xor}
use Rattle.vectors.specs.Vectors.{vector_bytes}
use Rattle.vectors.proofs.Words.{length_in_parts}
use Rattle.packed.proofs.Parts.{xor_of_halves}
use Rattle.packed.proofs.blocks.BlocksBundleWordRow.xor.Goals as goal

pub returns : goal.returns
returns g c = λ i lt.
    let m = g.H.Half.layout.half in
    let count = g.H.Lanes.lane_count in
    let filled = g.met.H.Lanes.filled in
    let x = c.args.self in
    let y = c.args.other in
    let x_long : length x.left ≡ 4 = search rules in
    let y_long : length y.left ≡ 4 = search rules in
    let left : vector_bytes c.of.result.left ≡ xor (vector_bytes x.left) (vector_bytes y.left) = search rules in
    let right : vector_bytes c.of.result.right ≡ xor (vector_bytes x.right) (vector_bytes y.right) = search rules in
    xor_of_halves m i count _ _ _ _ _ _ lt (length_in_parts count m x.left filled x_long) (length_in_parts count m y.left filled y_long) left right
