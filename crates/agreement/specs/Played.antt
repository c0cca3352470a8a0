-- Calls that a program plays, and what recorder and bench do with the log that they leave.
use Rattle.std.specs.Prelude.{◌≡◌, ℕ, ◌*◌, ◌≤◌, min, List, [], length, take, drop, vec_items}
use Rattle.cipher.specs.Engines.{Answer}
use Rattle.modes.specs.Sealing.{Scheme, joined}
use Rattle.beatlog.specs.Calls.{Outcome}
use Rattle.beatlog.specs.Faults.{log_answer}
use Rattle.beatlog.specs.Pages.{Sealed, Opened, Counted}
use Rattle.beatlog.specs.Refusals as calls
use Rattle.agreement.specs.Agreements.{answered}
use Rattle.agreement.specs.declared.play.Call.{Call}
use Rattle.agreement.specs.declared.play.Call.TheVariants.{Append, Amend, Cut, Read}
use Rattle.agreement.specs.declared.play.Turn.{Turn}

-- a turn's call, with the buffer that it owns
abbrev pub call_of : Call → calls.Call
call_of (Append reading) = calls.append reading.now
call_of (Amend index reading work) = calls.amend index reading.now (vec_items work)
call_of (Cut m) = calls.cut m
call_of (Read index place) = calls.read index (vec_items place)

-- what its buffer holds
abbrev pub buffer : Call → List ℕ
buffer (Append reading) = []
buffer (Amend index reading work) = vec_items work
buffer (Cut m) = []
buffer (Read index place) = vec_items place

-- a call without what its buffer holds: what playing it leaves as it is
abbrev pub bare : Call → calls.Call
bare (Append reading) = calls.append reading.now
bare (Amend index reading work) = calls.amend index reading.now []
bare (Cut m) = calls.cut m
bare (Read index place) = calls.read index []

-- nothing else is in a call
abbrev pub CallIsBareAndBuffer : Type 0
CallIsBareAndBuffer = (c d : Call) → bare c ≡ bare d → buffer c ≡ buffer d → call_of c ≡ call_of d

abbrev pub outcome_of : Turn → Outcome
outcome_of turn = record { lent = buffer turn.call; answer = log_answer turn.answer }

-- ---- what recorder and bench then do
-- the front of a room, as much of it as n readings of b bytes take
abbrev pub front : ℕ → ℕ → List ℕ → List ℕ
front b n room = take (min (n * b) (length room)) room

-- what follows the front stays
abbrev pub RestStays : ℕ → ℕ → List ℕ → List ℕ → Type 0
RestStays b n room room_after = drop (min (n * b) (length room)) room_after ≡ drop (min (n * b) (length room)) room

-- the recorder's page, at which n readings stand, is opened on the bench into a room, and what was found there is sealed into the
-- bench's page; that is opened on the recorder into another room, and the pages are compared. Each by its own contract
pub record Crossed (recorder bench : Scheme) (n : ℕ) (page bench_page bench_page_after room room_after back back_after : List ℕ) (opened sealed opened_back alike : Answer ℕ) : Type 0 where
  pub bench_opened : Opened bench page n (front recorder.size n room) (front recorder.size n room_after) opened
  pub room_rest : RestStays recorder.size n room room_after
  pub bench_sealed : Sealed bench (front recorder.size n room_after) bench_page bench_page_after sealed
  pub recorder_opened : Opened recorder bench_page_after n (front recorder.size n back) (front recorder.size n back_after) opened_back
  pub back_rest : RestStays recorder.size n back back_after
  pub compared : Counted recorder.size page n bench_page_after n alike

-- room for these readings, and a page on the bench as long as the recorder's
pub record RoomFor (b : ℕ) (readings : List (List ℕ)) (page bench_page room back : List ℕ) : Type 0 where
  pub room_long : length readings * b ≤ length room
  pub back_long : length readings * b ≤ length back
  pub page_long : length bench_page ≡ length page

-- all four calls are accepted, both machines find these readings, and both pages are equal
pub record FoundEqual (b : ℕ) (readings : List (List ℕ)) (page bench_page_after room_after back_after : List ℕ) (opened sealed opened_back alike : Answer ℕ) : Type 0 where
  pub bench_opened : opened ≡ answered (length readings)
  pub bench_sealed : sealed ≡ answered (length readings)
  pub recorder_opened : opened_back ≡ answered (length readings)
  pub compared : alike ≡ answered (length readings)
  pub found : front b (length readings) room_after ≡ joined readings
  pub found_back : front b (length readings) back_after ≡ joined readings
  pub pages_equal : bench_page_after ≡ page
