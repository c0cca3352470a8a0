-- The readings that stand after a list of calls, and how many changes it made: from the block length, the page's length and the
-- calls' arguments alone.
use Rattle.std.specs.Prelude.{ℕ, ◌+◌, ◌/◌, Bool, List, [], ◌∷◌, ◌++◌, length, take, set, if◌then◌else◌, ◌==◌}
use Rattle.beatlog.specs.Refusals.{Call, append, amend, cut, read, refusal}

-- what calls leave: the readings that stand, and how many changes were accepted
pub record Account : Type 0 where
  pub readings : List (List ℕ)
  pub changes : ℕ

-- that of no calls
abbrev pub opening : Account
opening = record { readings = []; changes = 0 }

-- by a call that is accepted
abbrev pub entered : Account → Call → Account
entered a (append reading) = record { readings = a.readings ++ reading ∷ []; changes = a.changes + 1 }
entered a (amend j reading work) = record { readings = set a.readings j reading; changes = a.changes + 1 }
entered a (cut m) = record { readings = take m a.readings; changes = a.changes + 1 }
entered a (read j place) = a

-- a call is accepted where no row of the table of refusals applies: on a page of so many bytes, in blocks of b bytes, with as
-- many blocks sealed as readings stand
abbrev pub accepts : ℕ → ℕ → Account → Call → Bool
accepts b page a call = refusal b (page / b) (length a.readings) page call == 0

abbrev pub accounted : ℕ → ℕ → Account → Call → Account
accounted b page a call = if accepts b page a call then entered a call else a

abbrev pub account : ℕ → ℕ → Account → List Call → Account
account b page a [] = a
account b page a (call ∷ calls) = account b page (accounted b page a call) calls

-- the readings that stand after the calls on a new log
abbrev pub standing : ℕ → ℕ → List Call → List (List ℕ)
standing b page calls = (account b page opening calls).readings

-- the accepted appends, amendments and cuts among them
abbrev pub accepted_changes : ℕ → ℕ → List Call → ℕ
accepted_changes b page calls = (account b page opening calls).changes
