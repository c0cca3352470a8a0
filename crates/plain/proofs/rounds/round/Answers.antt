use Rattle.std.proofs.Common.{sym, ◌∙◌}
use Rattle.keyed.specs.Lawful.{invertible_of}
use Rattle.plain.proofs.Layouts.{mixing_of}
use Rattle.plain.proofs.Permuted.{round_of_halves}
use Rattle.plain.proofs.rounds.round.Goals as goal

pub returns : goal.returns
returns g c =
    let whole = g.met.H.Pieces.whole in
    let sized = sym g.met.H.Half.sized in
    let published = g.met.H.Half.published in
    let block = c.args.block in
    let key = c.args.key in
    round_of_halves _ (invertible_of _ published) (mixing_of _ published) _ _ _ _
    ((whole block.first).long ∙ sized) ((whole block.second).long ∙ sized) ((whole key.first).long ∙ sized) ((whole key.second).long ∙ sized)
    _ _ _ _ _ _ c.xor.ensures c.xor-2.ensures c.look_up_left-left.ensures c.look_up_right-right.ensures c.mix.ensures
