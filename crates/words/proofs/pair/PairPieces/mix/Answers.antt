use Rattle.std.proofs.Common.{◌++◌, ap, ◌∙◌}
use Rattle.ublock.specs.Cipher.{mixing, mixed}
use Rattle.ublock.proofs.Mixing.{mixed_beside}
use Rattle.words.specs.Words.{halves}
use Rattle.words.specs.declared.pair.Pair.{Pair}
use Rattle.words.proofs.WordFacts.{piece_by_piece}
use Rattle.words.proofs.pair.PairPieces.mix.Goals as goal

pub returns : goal.returns
returns g c =
    let bytes = g.P.Pieces.bytes in
    let whole = g.met.P.Pieces.whole in
    ap (λ (r : Pair (Pair _)). halves (bytes r.first.first ++ bytes r.first.second) (bytes r.second.first ++ bytes r.second.second)) c.halves_of.ensures
    ∙ piece_by_piece (mixed mixing) _ _ _ _ _ _ _ _
    (mixed_beside g.P.Pieces.count mixing _ _ (record { left = (whole c.args.self.first).long; right = (whole c.args.right.first).long })) c.mix.ensures c.mix-2.ensures
