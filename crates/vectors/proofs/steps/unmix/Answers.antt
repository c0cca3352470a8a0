use Rattle.vectors.proofs.MixSteps.{unmixed_is}
use Rattle.vectors.proofs.steps.unmix.Goals as goal

pub returns : goal.returns
returns c =
    unmixed_is _ _ _ _ _ _ _ _ c.xor-y0.ensures c.add_rotated-y1.ensures c.add_rotated-y0.ensures
    c.add_rotated-y1-2.ensures c.add_rotated-y0-2.ensures c.xor-y1.ensures
