-- A worked example of a session, with key and start block of the first published example of uBlock. A reading of zeros is then
-- sealed as the published ciphertext.
use Rattle.std.specs.Prelude.{◌≡◌, ℕ, List, [], ◌∷◌, codes}
use Rattle.session.specs.Session.{beginning, texts}

abbrev pub lines : List (List ℕ)
lines =
    codes "N\t1\tP\tC\t2\t0123456789abcdeffedcba9876543210\t0123456789abcdeffedcba9876543210"
    ∷ codes "A\t00000000000000000000000000000000"
    ∷ codes "S\t0"
    ∷ codes "A\t0123"
    ∷ []

abbrev pub answers : List (List ℕ)
answers =
    codes "ok\t0\n"
    ∷ codes "ok\t1\n"
    ∷ codes "ok\t32122bedd023c429023470e1158c147d\n"
    ∷ codes "no\t4\tlog\t5\n"
    ∷ []

abbrev pub SessionAsWorked : Type 0
SessionAsWorked = texts beginning lines ≡ answers
