use Rattle.std.proofs.Common.{◌++◌, sym, ap, ◌∙◌}
use Rattle.ublock.specs.Cipher.{xor}
use Rattle.ublock.proofs.Bytes.{xor-append}
use Rattle.words.proofs.pair.PairPieces.xor.Goals as goal

pub returns : goal.returns
returns g c =
    let bytes = g.P.Pieces.bytes in
    let whole = g.met.P.Pieces.whole in
    let a = c.args.self in
    let b = c.args.other in
    ap (λ x. x ++ bytes c.xor-2.result) c.xor.ensures ∙ ap (λ y. xor (bytes a.first) (bytes b.first) ++ y) c.xor-2.ensures
    ∙ sym (xor-append (bytes a.first) (bytes b.first) (bytes a.second) (bytes b.second) ((whole a.first).long ∙ sym (whole b.first).long))
