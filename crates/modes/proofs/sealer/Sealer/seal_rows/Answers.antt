use Rattle.std.proofs.Common.{◌≡◌, length, take, arith, rules}
use Rattle.modes.specs.Sealing.{scheme_of}
use Rattle.modes.proofs.Rows.{previous_kept, lawful_scheme, length_start}
use Rattle.modes.proofs.Groups.{seal_turn}
use Rattle.modes.proofs.sealer.Sealer.seal_rows.Goals as goal

pub loop-i-preserved : goal.loop-i-preserved
loop-i-preserved g c =
    let s = c.args.self.now in
    let b = c.args.b in
    let i = c.loop-i.i in
    let n = c.args.n in
    let w = take b c.args.at.before.bytes in
    let row = c.loop-i.row in
    let long : length w ≡ b = search rules in
    let ok = lawful_scheme g.E.Engine g.M.Mode s g.met.E.Engine.shape g.met.E.Engine.permutes g.met.M.Mode.rule (length_start _ _ s.start.bytes g.met.E.Engine.shape (search rules)) in
    let before = previous_kept b i n w row _ c.of-before.result.bytes long (omega arith) (omega (arith, c.requires.row, c.loop-i.auto.row)) c.previous_block.ensures c.of-before.ensures in (
      omega arith,
      seal_turn (scheme_of g.E.Engine g.M.Mode s) ok b c.args.at.index i c.min-m.result n w c.args.readings.now c.args.row.now row _ c.seal_group.new.row c.requires.length (omega arith) c.requires.readings
          c.loop-i.invariant.1 before c.seal_group.ensures,
    )
