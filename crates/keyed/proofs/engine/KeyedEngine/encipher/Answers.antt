use Rattle.std.proofs.Common.{◌≡◌, false, length, rules}
use Rattle.ublock.specs.Cipher.{block_length}
use Rattle.cipher.specs.Engines.{refused}
use Rattle.keyed.specs.RoundKeys.{keyed_E}
use Rattle.keyed.proofs.Runs.{ran_none, ran_lanes}
use Rattle.keyed.proofs.engine.KeyedEngine.encipher.Goals as goal

pub returns-then-is_empty : goal.returns-then-is_empty
returns-then-is_empty g c =
    let none : length c.args.run.now ≡ 0 = search rules in
    ran_none _ _ _ c.args.run.now none

pub returns : goal.returns
returns g c =
    let B = g.B.Bundle in
    let engine = c.args.self.now in
    let b = block_length B.layout in
    let run = c.args.run.now in
    let fine : refused b B.lane_count (length run) ≡ false = search rules in
    let loaded = rw c.in_ok-bundle.ensures.ok_part at c.load.ensures.blocks in
    ran_lanes b B.lane_count (keyed_E g.R.KeyRow.key_bytes B.layout engine.rows engine.variant) run _
    (B.lane c.in_ok-bundle.bundle) (B.lane c.enciphered.result) g.met.B.Bundle.shaped fine loaded c.enciphered.ensures c.store.ensures.length (c.store.ensures.blocks fine)
