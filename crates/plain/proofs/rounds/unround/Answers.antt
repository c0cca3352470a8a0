use Rattle.std.proofs.Common.{refl, sym, ◌∙◌}
use Rattle.keyed.specs.Lawful.{invertible_of}
use Rattle.plain.proofs.Layouts.{mixing_of}
use Rattle.plain.proofs.Permuted.{inverse_round_of_halves, looked_up_back}
use Rattle.plain.proofs.rounds.unround.Goals as goal

pub returns : goal.returns
returns g c =
    let whole = g.met.H.Pieces.whole in
    let sized = sym g.met.H.Half.sized in
    let published = g.met.H.Half.published in
    let block = c.args.block in
    let key = c.args.key in
    let before = c.unmix-before.result in
    let looked_up = looked_up_back g.H.Half.layout (invertible_of _ published) _ _ _ _ ((whole before.first).long ∙ sized) ((whole before.second).long ∙ sized)
    c.look_up_left_back.ensures c.look_up_right_back.ensures in
    inverse_round_of_halves _ (invertible_of _ published) (mixing_of _ published) _ _ _ _
    ((whole block.first).long ∙ sized) ((whole block.second).long ∙ sized) ((whole key.first).long ∙ sized) ((whole key.second).long ∙ sized)
    _ _ _ _ _ c.unmix-before.ensures refl looked_up c.xor.ensures
