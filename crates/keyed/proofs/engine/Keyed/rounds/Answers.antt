use Rattle.std.proofs.Common.{◌≡◌, ◌≤◌, length, take, sym, ap, ◌∙◌, add-one, arith, rules}
use Rattle.std.proofs.lemmas.List.{length-take-le}
use Rattle.ublock.specs.Cipher.{round, rounds, block_length}
use Rattle.keyed.specs.RoundKeys.{row_key}
use Rattle.keyed.proofs.RowFacts.{row_from_front}
use Rattle.keyed.proofs.engine.Keyed.rounds.Goals as goal

pub loop-row-preserved : goal.loop-row-preserved
loop-row-preserved g c = λ i lt.
    let B = g.B.Bundle in
    let rows = c.args.self.now.rows in
    let bytes = g.R.KeyRow.key_bytes in
    let rk = row_key bytes B.layout rows in
    let j = c.loop-row.row-index in
    let long : length rows ≡ 25 = search rules in
    let fits : c.args.n ≤ length rows = omega arith in
    let row = row_from_front bytes rows c.args.n j c.row-item.result fits (omega (arith, length-take-le c.args.n rows fits)) c.row-item.is in
    let key = c.key.ensures i lt ∙ ap (take (block_length B.layout)) row in
    c.round-bundle.ensures i lt ∙ ap (λ k. round B.layout k (B.lane c.loop-row.bundle i)) key ∙ ap (round B.layout (rk j)) (c.loop-row.invariant i lt)
    ∙ ap (λ n. rounds B.layout rk n (B.lane c.args.bundle i)) (sym (add-one j))
