use Rattle.std.proofs.Common.{◌≡◌, ℕ, suc, ◌<◌}
use Rattle.ublock.specs.Variants.{parameters}
use Rattle.schedule.specs.Rows.{row_at, register_bytes}
use Rattle.schedule.proofs.register.Register.rows.Given as goal

-- the state is the register after the steps that were taken, and so is each row's after its own
abbrev pub invariant-loop-taken : goal.invariant-loop-taken
invariant-loop-taken l =
    let bytes = register_bytes (parameters l.fn.self.variant) l.fn.self.bytes in
    record {
      variant : l.state.variant ≡ l.fn.self.variant;
      state : l.state.bytes ≡ bytes l.taken;
      rows : (j : ℕ) → j < l.taken → row_at l.row-items j ≡ bytes (suc j);
    }
