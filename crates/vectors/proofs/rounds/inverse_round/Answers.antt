use Rattle.std.proofs.Common.{◌≡◌, length, arith}
use Rattle.vectors.proofs.Words.{length_in_parts}
use Rattle.vectors.proofs.Parts.{published_mixing, inverse_round_in_lanes}
use Rattle.vectors.proofs.rounds.inverse_round.Goals as goal

pub returns : goal.returns
returns g c =
    let l = g.H.Half.layout in
    let met = g.met.H in
    let long : length c.unmix.result.0 ≡ 4 = omega arith in
    inverse_round_in_lanes l g.H.Pieces.count g.H.Lanes.lane_count (published_mixing l met.Half.published) met.Half.sized
    _ _ _ _ _ _ _ _ _ _ _ _
    (length_in_parts _ _ c.args.left met.Lanes.filled c.fits-left.0) (length_in_parts _ _ c.unmix.result.0 met.Lanes.filled long)
    (length_in_parts _ _ c.args.key_left met.Lanes.filled c.fits-key_left.0)
    c.unpermute_left_lanes.ensures c.unpermute_right_lanes.ensures c.unmix.ensures c.unsubstitute.ensures.left c.unsubstitute.ensures.right c.xor.ensures c.xor-2.ensures
