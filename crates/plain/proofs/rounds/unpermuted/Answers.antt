use Rattle.std.proofs.Common.{sym, ◌∙◌}
use Rattle.keyed.specs.Lawful.{invertible_of}
use Rattle.plain.proofs.Permuted.{unpermuted_of}
use Rattle.plain.proofs.rounds.unpermuted.Goals as goal

pub returns : goal.returns
returns g c =
    let whole = g.met.H.Pieces.whole in
    let sized = sym g.met.H.Half.sized in
    unpermuted_of _ (invertible_of _ g.met.H.Half.published) _ _ _ _ ((whole c.args.block.first).long ∙ sized) ((whole c.args.block.second).long ∙ sized)
    c.unpermute_left.ensures c.unpermute_right.ensures
