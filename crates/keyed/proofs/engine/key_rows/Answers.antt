use Rattle.std.proofs.Common.{◌≡◌, ◌≢◌, ◌<◌, length, sym, ◌∙◌, arith, rules}
use Rattle.std.proofs.lemmas.List.{get_or-map}
use Rattle.schedule.specs.Rows.{row_at}
use Rattle.schedule.specs.declared.row.Row.{Row}
use Rattle.keyed.proofs.KeyRows.{kept_more, kept_other}
use Rattle.keyed.proofs.engine.key_rows.Goals as goal
use Rattle.keyed.proofs.engine.key_rows.Goals.{then-j-last, else-j-last}

pub loop-j-preserved : goal.loop-j-preserved
loop-j-preserved g c =
    let bytes = g.R.KeyRow.key_bytes in
    let rows = c.args.rows.now in
    let items = c.loop-j.row-items in
    let j = c.loop-j.j in
    let long : length rows ≡ 25 = search rules in
    let room : length items ≡ 25 = search rules in
    let old = c.loop-j.invariant in
    elim c.if-j-last.branch [
      | then-j-last w ↦ record {
        so_far = λ k h. rw w.row-items-is (kept_more bytes (row_at rows) items j _ (omega (arith, room))
            (w.of.ensures ∙ sym (get_or-map (λ (r : Row). r.bytes) rows j w.index-rows-j.result _ (omega (arith, long)))) old.so_far k h);
        left = λ k past h.
            let other : k ≢ j = omega arith in
            rw w.row-items-is (kept_other bytes items j k _ other ∙ old.left k (omega arith) h);
      }
      | else-j-last w ↦
          let here : j < 25 = search rules in
          let past : c.args.last < j = search rules in
          let stays = sym (get_or-map bytes items j c.row-item.result _ (omega (arith, room))) ∙ old.left j (omega arith) here ∙ sym (c.requires j past here) in
          record {
            so_far = λ k h. rw w.row-items-is (kept_more bytes (row_at rows) items j _ (omega (arith, room)) stays old.so_far k h);
            left = λ k past h.
                let other : k ≢ j = omega arith in
                rw w.row-items-is (kept_other bytes items j k _ other ∙ old.left k (omega arith) h);
          }
    ]
