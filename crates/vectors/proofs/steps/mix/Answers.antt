use Rattle.vectors.proofs.MixSteps.{mixed_is}
use Rattle.vectors.proofs.steps.mix.Goals as goal

pub returns : goal.returns
returns c =
    mixed_is _ _ _ _ _ _ _ _ c.xor-x1.ensures c.add_rotated-x0.ensures c.add_rotated-x1.ensures
    c.add_rotated-x0-2.ensures c.add_rotated-x1-2.ensures c.xor-x0.ensures
