-- The worked examples hold: one test over the whole list, which the checker computes.
use Rattle.std.proofs.Common.{◌≡◌, Bool, true, ◌&&◌, T, List, [], ◌∷◌}
use lib.Lanes.{Each1}
use Rattle.ublock.specs.Examples.{Example, examples, ExamplesHold}
use Rattle.ublock.proofs.Check.{both}
use Rattle.ublock.proofs.TableRules.{same, same_equal}

abbrev test : List Example → Bool
test [] = true
test (e ∷ es) = same e.computed e.published && test es

all_hold : (es : List Example) → T (test es) → Each1 (λ (e : Example). e.computed ≡ e.published) es
all_hold [] t = tt
all_hold (e ∷ es) t =
    let ts = both (same e.computed e.published) (test es) t in
    (same_equal e.computed e.published ts.0, all_hold es ts.1)

pub examples_hold : ExamplesHold
examples_hold = all_hold examples tt
