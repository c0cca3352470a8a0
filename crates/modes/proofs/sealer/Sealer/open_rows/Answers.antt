use Rattle.std.proofs.Common.{◌≡◌, length, take, ap, ◌∙◌, arith, rules}
use Rattle.modes.specs.Sealing.{previous, scheme_of}
use Rattle.modes.proofs.Rows.{length_previous, lawful_scheme, length_start}
use Rattle.modes.proofs.Groups.{open_turn}
use Rattle.modes.proofs.sealer.Sealer.open_rows.Goals as goal

pub open_group-requires-clause-before : goal.open_group-requires-clause-before
open_group-requires-clause-before g c =
    let b = c.args.b in
    let w = take b c.args.at.before.bytes in
    let long : length w ≡ b = search rules in
    ap length {y = previous b w c.loop-i.i c.args.row.now} c.previous_block-before.ensures ∙ length_previous b w c.loop-i.i c.args.n c.args.row.now long (omega arith) c.requires.row

pub loop-i-preserved : goal.loop-i-preserved
loop-i-preserved g c =
    let s = c.args.self.now in
    let b = c.args.b in
    let ok = lawful_scheme g.E.Engine g.M.Mode s g.met.E.Engine.shape g.met.E.Engine.permutes g.met.M.Mode.rule (length_start _ _ s.start.bytes g.met.E.Engine.shape (search rules)) in (
      omega arith,
      open_turn (scheme_of g.E.Engine g.M.Mode s) ok b c.args.at.index c.loop-i.i c.min-m.result c.args.n (take b c.args.at.before.bytes) c.args.row.now c.args.readings.now c.loop-i.readings
          _ c.open_group.new.readings c.requires.length (omega arith) c.requires.row c.loop-i.invariant.1 c.previous_block-before.ensures c.open_group.ensures,
    )
