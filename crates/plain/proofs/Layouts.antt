-- What holds of both layouts.
use Rattle.std.specs.Prelude.{◌≡◌}
use Rattle.std.proofs.Common.{ap, ⊎_elim}
use Rattle.ublock.specs.Cipher.{Layout, mixing}
use Rattle.halves.specs.Halves.{IsUblockLayout}

pub mixing_of : (l : Layout) → IsUblockLayout l → l.mixing ≡ mixing
mixing_of l = ⊎_elim (ap (λ (k : Layout). k.mixing)) (ap (λ (k : Layout). k.mixing))
