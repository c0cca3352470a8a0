use Rattle.std.proofs.Common.{◌≡◌, ℕ, List, [], map, slice_index_or, sym, ◌∙◌, arith, rules}
use Rattle.ublock.specs.Cipher.{block_length}
use Rattle.ublock.specs.Variants.{parameters}
use Rattle.keyed.proofs.KeyRows.{filled_number, filled_means, filled_keys}
use Rattle.keyed.proofs.Layouts.{layout_by_length}
use Rattle.keyed.proofs.engine.Keyed.fill.Goals as goal

pub key_rows-requires : goal.key_rows-requires
key_rows-requires g c = (search rules, λ j past h. c.rows.ensures.later j (omega (arith, c.rounds.ensures)) h ∙ sym (c.rows.ensures.steps 0 (omega arith)))

pub returns : goal.returns
returns g c =
    let l = g.B.Bundle.layout in
    let v = c.in_ok-variant.variant in
    let key = c.args.key.now in
    let start = c.in_ok-start.start in
    let row : ℕ → List ℕ = λ j. slice_index_or (map g.R.KeyRow.key_bytes c.key_rows.result) j [] in
    let is_v = c.in_ok-variant.ensures in
    let block : block_length (parameters v).layout ≡ block_length l = omega arith in
    let layout = layout_by_length v l g.met.B.Bundle.published block in
    let loaded = rw c.in_ok-start.ensures.ok_part at c.load.ensures in
    record {
      cipher = record {
        number = filled_number (block_length l) c.args.variant v key is_v block loaded.0;
        cipher = filled_means l c.args.variant v start.variant key start.bytes c.rows.result row is_v layout loaded.0 loaded.1 loaded.2 c.rows.ensures c.key_rows.ensures;
      };
      round_keys = filled_keys l c.args.variant v start.variant key start.bytes c.rows.result row is_v layout loaded.0 loaded.1 loaded.2 c.rows.ensures c.key_rows.ensures;
    }
