-- A log that is kept by its own calls stands at the readings of their arguments, and tells of them.
use Rattle.std.proofs.Common.{◌≡◌, ℕ, ◌*◌, ◌/◌, ◌%◌, ◌<◌, ◌≤◌, true, false, Some, None, List, length, replicate, if◌then◌else◌, ◌==◌, refl, sym, ap, subst, ◌∙◌, ⊎_elim, zero-mul, arith}
use Rattle.std.proofs.lemmas.Bool.{cases_eq, eq-eqb, ne_eqb}
use Rattle.std.proofs.lemmas.Bool.Decides.{nat_tests}
use Rattle.modes.specs.Sealing.{Scheme, Lawful}
use Rattle.beatlog.specs.Refusals.{Call, append, amend, cut, read, begin_refusal}
use Rattle.beatlog.specs.Calls.{View, State, Link, Outcome, reading_of}
use Rattle.agreement.specs.Standing.{Account, account, accounted, opening, standing}
use Rattle.agreement.specs.Agreements.{Run, none, next, Kept, LogTells, ByAccount, Told, nothing, more, given_back}
use Rattle.agreement.proofs.Laws.{LawfulMeaning}
use Rattle.agreement.proofs.Holds.{Holds, numbered, stepped, ran, read_had}
use Rattle.agreement.proofs.Pages.{Room, reading_of_page}

-- an accepted begin
pub record Started (b start page : ℕ) : Type 0 where
  pub long : start ≡ b
  pub whole : page % b ≡ 0
  pub few : page ≤ 2048 * b

pub started : (b start page : ℕ) → 0 ≡ begin_refusal b start page → Started b start page
started b start page e = record { long = grind (arith, nat_tests); whole = grind (arith, nat_tests); few = grind (arith, nat_tests) }

-- a log that stands at the readings of these calls
pub record Stands (s : Scheme) (L : ℕ) (calls : List Call) (outcomes : List Outcome) (last : State) : Type 0 where
  pub lawful : Lawful s
  pub holds : Holds s L last (account s.size L opening calls)
  pub room : Room s.size L (standing s.size L calls)
  pub told : Told s.size L opening calls outcomes

-- what the next call gives back
lent_is : (s : Scheme) (ok : Lawful s) (L : ℕ) (a : Account) (at after : State) (call : Call) (outcome : Outcome) → Holds s L at a → Room s.size L a.readings
    → Link s (L / s.size) at call after outcome → outcome.lent ≡ given_back (outcome.answer.number == 0) a.readings call
lent_is s ok L a at after (append x) outcome h room link = link.lent
lent_is s ok L a at after (amend j x work) outcome h room link = link.lent
lent_is s ok L a at after (cut m) outcome h room link = link.lent
lent_is s ok L a at after (read j place) outcome h room link =
    let e = numbered s ok L at after a (read j place) outcome h link in
    ⊎_elim
    (λ z.
    let t : (outcome.answer.number == 0) ≡ true = eq-eqb outcome.answer.number 0 z in
    let lt : j < length a.readings = read_had s.size (L / s.size) (length a.readings) L j place (sym e ∙ z) in
    link.lent ∙ rw t (ap (reading_of s j) h.page ∙ reading_of_page s ok L a.readings room j lt))
    (λ z.
    let t : (outcome.answer.number == 0) ≡ false = ne_eqb outcome.answer.number 0 z in
    link.lent ∙ rw t refl)
    (cases_eq outcome.answer.number 0)

by_account : (s : Scheme) (ok : Lawful s) (L : ℕ) (a : Account) (at after : State) (call : Call) (outcome : Outcome) → Holds s L at a → Room s.size L a.readings
    → Link s (L / s.size) at call after outcome → ByAccount s.size L a call outcome
by_account s ok L a at after call outcome h room link = record {
  number = numbered s ok L at after a call outcome h link;
  value = link.value ∙ ap (λ n. if outcome.answer.number == 0 then Some n else None) (stepped s ok L at after a call outcome h link).count;
  lent = lent_is s ok L a at after call outcome h room link;
}

told : (s : Scheme) (ok : Lawful s) (L : ℕ) → L % s.size ≡ 0 → L ≤ 2048 * s.size → (a : Account) (at last : State) (calls : List Call) (outcomes : List Outcome)
    → Holds s L at a → Run s (L / s.size) at calls outcomes last → Told s.size L a calls outcomes
told s ok L whole few a at last calls outcomes h none = nothing
told s ok L whole few a at last calls outcomes h (next {after = after} {call = call} {calls = rest} {outcome = outcome} {outcomes = others} link run) =
    more
    (by_account s ok L a at after call outcome h (record { whole = whole; few = few; fits = h.fits; blocks = h.blocks }) link)
    (told s ok L whole few (accounted s.size L a call) after last rest others (stepped s ok L at after a call outcome h link) run)

module _ (s : Scheme) (laws : LawfulMeaning s) (L : ℕ) (calls : List Call) (outcomes : List Outcome) (last : State) (k : Kept s L calls outcomes last) where
  begun : Started s.size (length s.start) L
  begun = subst (Started s.size (length s.start)) k.long (started s.size (length s.start) (length k.page) k.begun.number)

  abbrev fresh : State
  fresh = record { count = 0; changes = 0; page = k.zeroed }

  log_is : k.log ≡ record { scheme = s; capacity = length k.page / s.size; count = 0; changes = 0 }
  log_is = let e = k.begun.value in (cc)

  run : Run s (L / s.size) fresh calls outcomes last
  run =
      subst (λ n. Run s (n / s.size) fresh calls outcomes last) k.long
      (subst (λ (v : View). Run v.scheme v.capacity (record { count = v.count; changes = v.changes; page = k.zeroed }) calls outcomes last) log_is k.run)

  first : Holds s L fresh opening
  first = record {
    count = refl;
    changes = refl;
    page = k.begun.leaves ∙ ap (λ n. replicate n 0) (k.long ∙ omega (arith, zero-mul s.size));
    fits = omega (arith, zero-mul s.size);
    blocks = tt;
  }

  pub stands : Stands s L calls outcomes last
  stands =
      let ok = laws.with_start s.start (record { long = begun.long; bytes = k.begun.start }) in
      let h = ran s ok L fresh last opening calls outcomes first run in
      record { lawful = ok; holds = h; room = record { whole = begun.whole; few = begun.few; fits = h.fits; blocks = h.blocks }; told = told s ok L begun.whole begun.few opening fresh last calls outcomes first run }

pub log_tells : (s : Scheme) → LawfulMeaning s → (L : ℕ) (calls : List Call) (outcomes : List Outcome) (last : State) → Kept s L calls outcomes last → LogTells s L calls outcomes last
log_tells s laws L calls outcomes last k =
    let at = stands s laws L calls outcomes last k in
    let a = account s.size L opening calls in
    record {
      count = at.holds.count;
      changes = at.holds.changes;
      next = λ call after outcome link. by_account s at.lawful L a last after call outcome at.holds at.room link;
      told = at.told;
    }
