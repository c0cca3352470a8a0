use Rattle.std.proofs.Common.{sym, ◌∙◌}
use Rattle.plain.proofs.Permuted.{xor_of}
use Rattle.plain.proofs.rounds.xor.Goals as goal

pub returns : goal.returns
returns g c =
    let whole = g.met.H.Pieces.whole in
    xor_of g.H.Half.layout _ _ _ _ _ _ ((whole c.args.x.first).long ∙ sym (whole c.args.y.first).long) ((whole c.args.x.second).long ∙ sym (whole c.args.y.second).long)
    c.xor.ensures c.xor-2.ensures
