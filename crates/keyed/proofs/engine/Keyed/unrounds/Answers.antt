use Rattle.std.proofs.Common.{◌≡◌, ℕ, ◌-◌, ◌<◌, ◌≤◌, List, length, take, ap, ◌∙◌, arith, rules}
use Rattle.std.proofs.lemmas.Iterator.Adapters.{YieldsList-from_rev_slice}
use Rattle.std.proofs.lemmas.Iterator.Consumers.{YieldsList-turn}
use Rattle.std.proofs.lemmas.List.{length_push, length-reverse, length-take-le}
use Rattle.ublock.specs.Cipher.{inverse_round, inverse_rounds, block_length}
use Rattle.keyed.specs.RoundKeys.{row_key}
use Rattle.keyed.proofs.RoundFacts.{undone_more}
use Rattle.keyed.proofs.RowFacts.{row_from_back}
use Rattle.keyed.proofs.engine.Keyed.unrounds.Goals as goal

pub loop-row-preserved : goal.loop-row-preserved
loop-row-preserved g c = λ i lt.
    let B = g.B.Bundle in
    let rows = c.args.self.now.rows in
    let bytes = g.R.KeyRow.key_bytes in
    let rk = row_key bytes B.layout rows in
    let n = c.args.n in
    let k = length c.loop-row.yielded in
    let long : length rows ≡ 25 = search rules in
    let fits : n ≤ length rows = omega arith in
    let undone : ℕ → List ℕ = λ m. inverse_rounds B.layout rk m (B.lane c.unround-bundle.result i) in
    let turn = YieldsList-turn (YieldsList-from_rev_slice (take n rows) (search rules)) c.loop-row.yielded _ c.loop-row.yielded_by _ _ c.in-Some.row c.in-Some.is c.next.ensures.steps in
    let left : k < n = omega (arith, turn.0, length-reverse (take n rows), length-take-le n rows fits) in
    let row = row_from_back bytes rows n k c.in-Some.row.now fits left turn.1 in
    let key = c.key.ensures i lt ∙ ap (take (block_length B.layout)) row in
    ap (λ m. undone (n - m)) (length_push c.loop-row.yielded c.in-Some.row)
    ∙ undone_more B.layout rk n k _ _ _ left (c.unround-bundle.ensures i lt ∙ ap (λ x. inverse_round B.layout x (B.lane c.loop-row.bundle i)) key) (c.loop-row.invariant i lt)
