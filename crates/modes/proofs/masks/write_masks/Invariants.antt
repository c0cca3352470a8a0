use Rattle.std.proofs.Common.{◌≡◌, ◌*◌, take}
use Rattle.modes.specs.Sealing.{blocks, masks_along}
use Rattle.modes.proofs.masks.write_masks.Given as goal

-- the masks of the blocks so far
abbrev pub invariant-loop-i : goal.invariant-loop-i
invariant-loop-i g l =
    (take (l.i * l.b) l.first ≡ masks_along (g.M.Mode.first_mask l.mode) l.start l.index l.before (blocks l.b l.i l.row))
    × (take (l.i * l.b) l.last ≡ masks_along (g.M.Mode.last_mask l.mode) l.start l.index l.before (blocks l.b l.i l.row))
