use Rattle.std.proofs.Common.{sym, ◌∙◌, refl}
use Rattle.plain.proofs.Permuted.{row_kept_whole}
use Rattle.plain.proofs.key_halves.KeyHalvesKeyRow.of.Goals as goal

pub returns : goal.returns
returns g c =
    row_kept_whole g.H.Half.layout _ _ _ _ c.args.row.now.bytes ((g.met.H.Pieces.whole c.unpermuted_front.result.first).long ∙ sym g.met.H.Half.sized)
    refl c.numbers_of.ensures.front c.unpermuted_front.ensures c.numbers_of.ensures.rest
