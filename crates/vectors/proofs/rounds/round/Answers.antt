use Rattle.vectors.proofs.Words.{length_in_parts}
use Rattle.vectors.proofs.Parts.{published_mixing, round_in_lanes}
use Rattle.vectors.proofs.rounds.round.Goals as goal

pub returns : goal.returns
returns g c =
    let l = g.H.Half.layout in
    let met = g.met.H in
    round_in_lanes l g.H.Pieces.count g.H.Lanes.lane_count (published_mixing l met.Half.published) met.Half.sized
    _ _ _ _ _ _ _ _ _ _ _ _
    (length_in_parts _ _ c.args.left met.Lanes.filled c.fits-left.0) (length_in_parts _ _ c.args.key_left met.Lanes.filled c.fits-key_left.0)
    c.xor.ensures c.xor-2.ensures c.substitute.ensures.left c.substitute.ensures.right c.mix.ensures c.permute_left_lanes.ensures c.permute_right_lanes.ensures
