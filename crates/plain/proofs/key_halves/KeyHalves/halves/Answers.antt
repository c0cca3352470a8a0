use Rattle.std.proofs.Common.{sym, ◌∙◌}
use Rattle.words.specs.Words.{words}
use Rattle.keyed.specs.Lawful.{invertible_of}
use Rattle.plain.proofs.Permuted.{front_block}
use Rattle.plain.proofs.key_halves.KeyHalves.halves.Goals as goal

pub returns : goal.returns
returns g c =
    front_block g.H.Half.layout (invertible_of _ g.met.H.Half.published) _ _ (words c.args.self.now.numbers) (words c.args.self.now.numbers)
    ((g.met.H.Pieces.whole c.first.result.first).long ∙ sym g.met.H.Half.sized) c.first.ensures
