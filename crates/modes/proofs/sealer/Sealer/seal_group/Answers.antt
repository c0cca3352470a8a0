use Rattle.std.proofs.Common.{take, ap, ◌∙◌, rules, arith}
use Rattle.ublock.proofs.Bytes.{bytes_from}
use Rattle.modes.specs.Sealing.{joined, scheme_of}
use Rattle.modes.proofs.Rows.{lawful_scheme, length_start}
use Rattle.modes.proofs.Groups.{group_masked, sealed_at_once}
use Rattle.modes.proofs.sealer.Sealer.seal_group.Goals as goal

pub returns : goal.returns
returns g c =
    let s = c.args.self.now in
    let b = c.args.b in
    let n = c.args.n in
    let i = c.args.index in
    let w = c.args.before.now in
    let xs = c.args.readings.now in
    let meant = scheme_of g.E.Engine g.M.Mode s in
    let ok = lawful_scheme g.E.Engine g.M.Mode s g.met.E.Engine.shape g.met.E.Engine.permutes g.met.M.Mode.rule (length_start _ _ s.start.bytes g.met.E.Engine.shape (search rules)) in
    group_masked meant ok b n i _ w xs _ _ _ _ _ _ _
    c.requires.length (ap (λ k. take k s.start.bytes) c.requires.length) c.requires.before c.requires.readings
    c.write_masks.ensures.first c.write_masks.ensures.last c.copy_from_slice.ensures.after c.add.ensures c.whole_row.ensures c.add-2.ensures
    ∙ ap joined (sealed_at_once meant ok b n i w xs c.requires.length c.requires.one (bytes_from w (λ k. omega (arith, c.type_inv.before k)))
    (bytes_from xs (λ k. omega (arith, c.type_inv.readings k))) c.requires.before c.requires.readings)
