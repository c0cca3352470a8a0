use Rattle.std.proofs.Common.{◌≤◌, ◌/◌, length, arith}
use Rattle.cipher.specs.Rows.{in_direction}
use Rattle.cipher.proofs.EngineRuns.{begun, direction_keeps, row_done, run_turn, whole_blocks}
use Rattle.cipher.proofs.rows.whole_row.Goals as goal

pub loop-i-init : goal.loop-i-init
loop-i-init g c = (omega arith, begun _ _ _)

pub loop-i-preserved : goal.loop-i-preserved
loop-i-preserved g c =
    let engine = g.E.Engine in
    let b = c.block_len-b.result in
    let n = length c.args.row.now / b in
    let enc = engine.enc c.args.engine.now in
    let dec = engine.dec c.args.engine.now in
    let long = whole_blocks b (length c.args.row.now) c.if-row-b-ne0.false in
    let few : c.min-m.result ≤ engine.lane_count = omega (arith, c.min-m.ensures, c.lanes-width.ensures) in
    let turn = run_turn b engine.block_length engine.lane_count (in_direction c.args.direction enc dec) c.loop-i.i c.min-m.result n c.args.row.now c.loop-i.row c.one_run.new.run _
    c.block_len-b.ensures g.met.E.Engine.shape (direction_keeps c.args.direction engine.block_length enc dec (g.met.E.Engine.permutes c.args.engine.now)) (omega (arith, c.min-m.ensures, c.loop-i.invariant.0)) few long (omega (arith, long, c.loop-i.auto.row)) c.loop-i.invariant.1 c.one_run.ensures in
    (omega (arith, c.min-m.ensures, c.loop-i.invariant.0), turn.1)

pub returns : goal.returns
returns g c = row_done _ _ _ c.loop-i.i _ _ c.block_len-b.ensures c.if-row-b-ne0.false c.loop-i.invariant.0 (omega (arith, c.loop-i-test.false)) c.loop-i.invariant.1
