-- Recorder and bench agree: what any list of calls on a new log leaves, for every engine and every mode.
use Rattle.std.specs.Prelude.{◌≡◌, ℕ, ◌-◌, ◌*◌, ◌/◌, ◌<◌, ◌≤◌, min, Bool, Some, None, List, [], ◌∷◌, length, drop, replicate, get_or, if◌then◌else◌, ◌==◌}
use Rattle.ublock.specs.Laws.{Block}
use Rattle.ublock.specs.Parts.{part}
use Rattle.cipher.specs.Engines.{Answer, OnePermutation}
use Rattle.modes.specs.Modes.{Mask}
use Rattle.modes.specs.Sealing.{Scheme, seal_block, joined, blocks, previous}
use Rattle.beatlog.specs.Refusals.{Call, append, amend, cut, read, refusal, common_refusal}
use Rattle.beatlog.specs.Calls.{View, State, Begun, Link, Outcome}
use Rattle.beatlog.specs.Pages.{Sealed, Opened, Leading, Counted}
use Rattle.agreement.specs.Standing.{Account, account, accounted, opening, standing, accepted_changes}

-- an accepted call's answer
abbrev pub answered : {T : Type 0} → T → Answer T
answered x = record { value = Some x; number = 0 }

-- ---- a log that is kept by its own calls alone
-- the calls are made one after the other, all on the one page: each finds what the one before left, and gives back an outcome
pub data Run (s : Scheme) (capacity : ℕ) : State → List Call → List Outcome → State → Type 0 where
  none : {at : State} → Run s capacity at [] [] at
  next : {before after last : State} {call : Call} {calls : List Call} {outcome : Outcome} {outcomes : List Outcome}
      → Link s capacity before call after outcome → Run s capacity after calls outcomes last → Run s capacity before (call ∷ calls) (outcome ∷ outcomes) last

-- a log is begun on some page of L bytes, whatever they were, and the calls are made on it
pub record Kept (s : Scheme) (L : ℕ) (calls : List Call) (outcomes : List Outcome) (last : State) : Type 0 where
  pub page : List ℕ
  pub zeroed : List ℕ
  pub log : View
  pub long : length page ≡ L
  pub begun : Begun s page zeroed (answered log)
  pub run : Run log.scheme log.capacity (record { count = log.count; changes = log.changes; page = zeroed }) calls outcomes last

-- ---- what they agree on
-- equal block length, permutation and mode rule over blocks, and equal start block
pub record SameMeaning (s t : Scheme) : Type 0 where
  pub size : s.size ≡ t.size
  pub enc : (x : List ℕ) → Block s.size x → s.enc x ≡ t.enc x
  pub first : (v : List ℕ) (i : ℕ) (before : List ℕ) → Block s.size v → Block s.size before → s.first v i before ≡ t.first v i before
  pub last : (v : List ℕ) (i : ℕ) (before : List ℕ) → Block s.size v → Block s.size before → s.last v i before ≡ t.last v i before
  pub start : s.start ≡ t.start

-- over blocks of b bytes both rules give equal masks, for every start block, index and block before
pub record EqualRules (b : ℕ) (f l f' l' : Mask) : Type 0 where
  pub first : (v : List ℕ) (i : ℕ) (before : List ℕ) → Block b v → Block b before → f v i before ≡ f' v i before
  pub last : (v : List ℕ) (i : ℕ) (before : List ℕ) → Block b v → Block b before → l v i before ≡ l' v i before

-- so engines that mean one permutation, as those filled for one variant and key do, and modes of equal rules have one meaning
abbrev pub MeaningByParts : Scheme → Scheme → Type 0
MeaningByParts s t = s.size ≡ t.size → OnePermutation s.size s.enc s.dec t.enc t.dec → EqualRules s.size s.first s.last t.first t.last → s.start ≡ t.start → SameMeaning s t

-- a page of L bytes is these readings sealed, each by the rule after the sealed block before it, and then zeros
pub record HoldsSealed (s : Scheme) (L : ℕ) (readings : List (List ℕ)) (page : List ℕ) : Type 0 where
  pub long : length page ≡ L
  pub fits : length readings * s.size ≤ L
  pub blocks : (i : ℕ) → i < length readings → part s.size i page ≡ seal_block s i (previous s.size s.start i page) (get_or readings i [])
  pub zeros : drop (length readings * s.size) page ≡ replicate (L - length readings * s.size) 0

-- sealing the readings in one call, on any page of this length, is accepted and leaves this very page
abbrev pub SealTo : Scheme → List (List ℕ) → List ℕ → Type 0
SealTo s readings page =
    (before after : List ℕ) (answer : Answer ℕ) → length before ≡ length page → Sealed s (joined readings) before after answer
    → (answer ≡ answered (length readings)) × (after ≡ page)

-- opening the page into any place of as many bytes as the readings have is accepted and writes exactly them, in order
abbrev pub OpenTo : Scheme → List ℕ → List (List ℕ) → Type 0
OpenTo s page readings =
    (place after : List ℕ) (answer : Answer ℕ) → length place ≡ length readings * s.size → Opened s page (length readings) place after answer
    → (answer ≡ answered (length readings)) × (after ≡ joined readings)

-- the recorder's page, at which these readings stand, and the bench
pub record PagesAgree (recorder bench : Scheme) (L : ℕ) (readings : List (List ℕ)) (page : List ℕ) : Type 0 where
  pub sealed_by_rule : HoldsSealed recorder L readings page
  pub bench_seals : SealTo bench readings page
  pub bench_opens : OpenTo bench page readings
  -- the page that the bench sealed, opened on the recorder
  pub recorder_opens : (before after : List ℕ) (answer : Answer ℕ) → length before ≡ L → Sealed bench (joined readings) before after answer → OpenTo recorder after readings

-- of two pages, each sealed from its readings: as many leading sealed blocks are alike as leading readings, and common answers that
pub record CountAlike (b : ℕ) (page : List ℕ) (readings : List (List ℕ)) (page' : List ℕ) (readings' : List (List ℕ)) : Type 0 where
  pub count : ℕ
  pub of_readings : Leading readings readings' count
  pub of_blocks : Leading (blocks b (length readings) page) (blocks b (length readings') page') count
  pub common : (answer : Answer ℕ) → Counted b page (length readings) page' (length readings') answer → answer ≡ answered count
  -- of any counts, it is refused by the table of refusals
  pub number : (n m : ℕ) (answer : Answer ℕ) → Counted b page n page' m answer → answer.number ≡ common_refusal b (length page) n (length page') m

-- what a buffer lent to a call holds afterwards: a work buffer zeros, always; a place the reading of its index, if the call is accepted
abbrev pub given_back : Bool → List (List ℕ) → Call → List ℕ
given_back accepted readings (append _) = []
given_back accepted readings (amend j _ work) = replicate (length work) 0
given_back accepted readings (cut m) = []
given_back accepted readings (read j place) = if accepted then get_or readings j [] else place

-- the outcome of one call more, where these readings stand: by the table of refusals and these readings
pub record ByAccount (b L : ℕ) (a : Account) (call : Call) (outcome : Outcome) : Type 0 where
  pub number : outcome.answer.number ≡ refusal b (L / b) (length a.readings) L call
  pub value : outcome.answer.value ≡ (if outcome.answer.number == 0 then Some (length (accounted b L a call).readings) else None)
  pub lent : outcome.lent ≡ given_back (outcome.answer.number == 0) a.readings call

-- each outcome of the calls is told by the account of those before it
pub data Told (b L : ℕ) : Account → List Call → List Outcome → Type 0 where
  nothing : {a : Account} → Told b L a [] []
  more : {a : Account} {call : Call} {calls : List Call} {outcome : Outcome} {outcomes : List Outcome}
      → ByAccount b L a call outcome → Told b L (accounted b L a call) calls outcomes → Told b L a (call ∷ calls) (outcome ∷ outcomes)

-- what a log counts and answers
pub record LogTells (s : Scheme) (L : ℕ) (calls : List Call) (outcomes : List Outcome) (at : State) : Type 0 where
  pub told : Told s.size L opening calls outcomes
  pub count : at.count ≡ length (standing s.size L calls)
  pub changes : at.changes ≡ min (accepted_changes s.size L calls) 4294967295
  pub next : (call : Call) (after : State) (outcome : Outcome) → Link s (L / s.size) at call after outcome → ByAccount s.size L (account s.size L opening calls) call outcome

-- for every list of calls, and so before the first call and after each
pub record Agreement (recorder bench : Scheme) : Type 0 where
  pub pages_agree :
      (L : ℕ) (calls : List Call) (outcomes : List Outcome) (last : State) → Kept recorder L calls outcomes last
      → PagesAgree recorder bench L (standing recorder.size L calls) last.page
  -- with a log that is kept on the bench
  pub counts_agree :
      (L L' : ℕ) (calls calls' : List Call) (outcomes outcomes' : List Outcome) (last last' : State) → Kept recorder L calls outcomes last → Kept bench L' calls' outcomes' last'
      → CountAlike recorder.size last.page (standing recorder.size L calls) last'.page (standing recorder.size L' calls')
  -- with another log that is kept on the recorder
  pub counts_agree_at_home :
      (L L' : ℕ) (calls calls' : List Call) (outcomes outcomes' : List Outcome) (last last' : State) → Kept recorder L calls outcomes last → Kept recorder L' calls' outcomes' last'
      → CountAlike recorder.size last.page (standing recorder.size L calls) last'.page (standing recorder.size L' calls')
  pub log_tells : (L : ℕ) (calls : List Call) (outcomes : List Outcome) (last : State) → Kept recorder L calls outcomes last → LogTells recorder L calls outcomes last

-- for engines and modes of one meaning and a start block that both take
abbrev pub Agree : Scheme → Scheme → Type 0
Agree recorder bench = SameMeaning recorder bench → Agreement recorder bench
