use Rattle.std.proofs.Common.{refl}
use Rattle.ublock.specs.Cipher.{layout256}
use Rattle.vectors.specs.declared.lanes.TheConstants.{WIDE_RIGHT}
use Rattle.vectors.proofs.Swizzle.{swizzled_in_lanes}
use Rattle.vectors.proofs.lanes.WideLanes.permute_right_lanes.Goals as goal

pub returns : goal.returns
returns c = swizzled_in_lanes 16 2 layout256.PR WIDE_RIGHT c.args.w c.fits-w refl tt tt tt
