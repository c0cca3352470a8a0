use Rattle.std.proofs.Common.{take, ap, rules}
use Rattle.modes.specs.Sealing.{scheme_of}
use Rattle.modes.proofs.Rows.{lawful_scheme, turned_round, turned_round_lawful, length_start}
use Rattle.modes.proofs.Groups.{group_masked}
use Rattle.modes.proofs.sealer.Sealer.open_group.Goals as goal

pub returns : goal.returns
returns g c =
    let s = c.args.self.now in
    let ok = lawful_scheme g.E.Engine g.M.Mode s g.met.E.Engine.shape g.met.E.Engine.permutes g.met.M.Mode.rule (length_start _ _ s.start.bytes g.met.E.Engine.shape (search rules)) in
    group_masked (turned_round (scheme_of g.E.Engine g.M.Mode s)) (turned_round_lawful _ ok) c.args.b c.args.n c.args.index _ c.args.before.now c.args.row.now _ _ _ _ _ _ _
    c.requires.length (ap (λ k. take k s.start.bytes) c.requires.length) c.requires.before c.requires.row
    c.write_masks.ensures.last c.write_masks.ensures.first c.copy_from_slice.ensures.after c.add.ensures c.whole_row.ensures c.add-2.ensures
