use Rattle.std.proofs.Common.{◌≡◌, false, length, min, ap, ◌∙◌, rules}
use Rattle.ublock.specs.Cipher.{block_length, rounds}
use Rattle.ublock.specs.Variants.{parameters}
use Rattle.cipher.specs.Engines.{refused}
use Rattle.keyed.specs.RoundKeys.{row_key}
use Rattle.keyed.proofs.Runs.{ran_none, ran_lanes}
use Rattle.keyed.proofs.engine.Keyed.state_after.Goals as goal

pub returns-then-is_empty : goal.returns-then-is_empty
returns-then-is_empty g c =
    let none : length c.args.run.now ≡ 0 = search rules in
    ran_none _ _ _ c.args.run.now none

pub returns : goal.returns
returns g c =
    let B = g.B.Bundle in
    let engine = c.args.self.now in
    let b = block_length B.layout in
    let run = c.args.run.now in
    let fine : refused b B.lane_count (length run) ≡ false = search rules in
    let loaded = rw c.in_ok-bundle.ensures.ok_part at c.load.ensures.blocks in
    let after = rounds B.layout (row_key g.R.KeyRow.key_bytes B.layout engine.rows) in
    let count = c.min.ensures ∙ ap (min c.args.count) c.rounds.ensures in
    ran_lanes b B.lane_count (after (min c.args.count (parameters engine.variant).round_count)) run _
    (B.lane c.in_ok-bundle.bundle) (B.lane c.rounds-2.result) g.met.B.Bundle.shaped fine loaded (λ i lt. c.rounds-2.ensures i lt ∙ ap (λ n. after n (B.lane c.in_ok-bundle.bundle i)) count) c.store.ensures.length (c.store.ensures.blocks fine)
