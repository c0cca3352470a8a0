use Rattle.std.proofs.Common.{refl}
use Rattle.ublock.specs.Cipher.{layout128}
use Rattle.vectors.specs.declared.lanes.TheConstants.{NARROW_LEFT}
use Rattle.vectors.proofs.Swizzle.{swizzled_in_lanes}
use Rattle.vectors.proofs.lanes.NarrowLanes.permute_left_lanes.Goals as goal

pub returns : goal.returns
returns c = swizzled_in_lanes 8 4 layout128.PL NARROW_LEFT c.args.w c.fits-w refl tt tt tt
