use Rattle.std.proofs.Common.{◌≡◌, suc, ◌+◌, ◌-◌, List, ◌∷◌, ◌++◌, length, sym, ap, ◌∙◌, add-one, arith, rules}
use Rattle.std.proofs.lemmas.List.{drop-replicate}
use Rattle.ublock.specs.Variants.{parameters}
use Rattle.ublock.proofs.VariantFacts.{bounded}
use Rattle.schedule.specs.Rows.{row_at, register_bytes}
use Rattle.schedule.specs.declared.row.Row.{Row}
use Rattle.schedule.proofs.KeyRows.{stepped, rows_more, rows_all, rows_past}
use Rattle.schedule.proofs.register.Register.rows.Goals as goal

pub loop-taken-preserved : goal.loop-taken-preserved
loop-taken-preserved c =
    let v = c.args.self.variant in
    let bytes = register_bytes (parameters v) c.args.self.bytes in
    let i = c.loop-taken.taken in
    let whole : length c.args.self.bytes ≡ 32 = search rules in
    let next = stepped v c.loop-taken.state.variant c.args.self.bytes c.loop-taken.state.bytes c.step-state.result.bytes i c.loop-taken.invariant.variant whole c.loop-taken.invariant.state c.step-state.ensures.bytes in
    record {
      variant = c.step-state.ensures.variant ∙ c.loop-taken.invariant.variant;
      state = next ∙ ap bytes (sym (add-one i));
      rows = rows_more (λ j. bytes (suc j)) c.loop-taken.row-items i _ (omega arith) (c.row.ensures ∙ next) c.loop-taken.invariant.rows;
    }

pub returns : goal.returns
returns c =
    let p = parameters c.args.self.variant in
    let rows = c.loop-taken.row-items in
    let first = c.row-rows.result in
    let written : length rows ≡ p.round_count = omega arith in
    record {
      steps = rows_all (register_bytes p c.args.self.bytes) first rows _ p.round_count c.row-rows.ensures (omega arith) (λ j h. c.loop-taken.invariant.rows j (omega arith));
      later = λ j past h.
          ap (λ (later : List Row). row_at (first ∷ (rows ++ later)) j) (drop-replicate (c.rounds.result + 1 - 1) 24 first)
          ∙ rows_past first rows (24 - (c.rounds.result + 1 - 1)) j (omega (arith, written)) (omega (arith, written, (bounded c.args.self.variant).few_rounds)) ∙ c.row-rows.ensures;
    }
