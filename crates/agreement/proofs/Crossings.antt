-- What recorder and bench find in each other's pages.
use Rattle.std.proofs.Common.{◌≡◌, ℕ, ◌*◌, ◌≤◌, min, List, ◌++◌, length, take, drop, refl, sym, ap, subst, ◌∙◌, arith, length-append, length-drop}
use Rattle.std.proofs.lemmas.List.{take_at, drop_at, length-take-le}
use Rattle.cipher.specs.Engines.{Answer}
use Rattle.modes.specs.Sealing.{Scheme}
use Rattle.beatlog.specs.Calls.{State, Outcome}
use Rattle.beatlog.specs.Pages.{Sealed, Opened, Counted}
use Rattle.beatlog.specs.Refusals.{Call}
use Rattle.agreement.specs.Agreements.{Agreement, Kept, answered}
use Rattle.agreement.specs.Played.{Crossed, FoundEqual, RoomFor, RestStays, front}
use Rattle.agreement.specs.Standing.{standing}

-- ---- a room whose first m bytes are a place
module _ (b n m : ℕ) (room place : List ℕ) (e : m ≡ min (n * b) (length room)) (long : length place ≡ length (take m room)) where
  short : m ≤ length room
  short = omega arith

  exact : length place ≡ m
  exact = long ∙ length-take-le m room short

  same_length : length (place ++ drop m room) ≡ length room
  same_length = omega (arith, length-append place (drop m room), length-drop m room, exact)

  pub front_before : take m room ≡ front b n room
  front_before = ap (λ k. take k room) e

  pub front_after : place ≡ front b n (place ++ drop m room)
  front_after = sym (take_at place (drop m room) (min (n * b) (length (place ++ drop m room))) (omega (arith, exact, same_length)))

  pub front_kept : take m (place ++ drop m room) ≡ front b n (place ++ drop m room)
  front_kept = take_at place (drop m room) m exact ∙ front_after

  pub rest_stays : RestStays b n room (place ++ drop m room)
  rest_stays = ap (λ k. drop k (place ++ drop m room)) (sym e) ∙ drop_at place (drop m room) m exact ∙ ap (λ k. drop k room) e

pub crossed : (recorder bench : Scheme) (n m k : ℕ) (page bench_page bench_page_after room place back place_back : List ℕ) (opened sealed opened_back alike : Answer ℕ)
    → m ≡ min (n * recorder.size) (length room) → k ≡ min (n * recorder.size) (length back) → length place ≡ length (take m room) → length place_back ≡ length (take k back)
    → Opened bench page n (take m room) place opened → Sealed bench (take m (place ++ drop m room)) bench_page bench_page_after sealed
    → Opened recorder bench_page_after n (take k back) place_back opened_back → Counted recorder.size page n bench_page_after n alike
    → Crossed recorder bench n page bench_page bench_page_after room (place ++ drop m room) back (place_back ++ drop k back) opened sealed opened_back alike
crossed recorder bench n m k page bench_page bench_page_after room place back place_back opened sealed opened_back alike em ek lp lb o s ob c =
    let z = recorder.size in record {
      bench_opened = subst (λ xs. Opened bench page n xs (front z n (place ++ drop m room)) opened) (front_before z n m room place em lp) (subst (λ ys. Opened bench page n (take m room) ys opened) (front_after z n m room place em lp) o);
      room_rest = rest_stays z n m room place em lp;
      bench_sealed = subst (λ xs. Sealed bench xs bench_page bench_page_after sealed) (front_kept z n m room place em lp) s;
      recorder_opened = subst (λ xs. Opened recorder bench_page_after n xs (front z n (place_back ++ drop k back)) opened_back) (front_before z n k back place_back ek lb) (subst (λ ys. Opened recorder bench_page_after n (take k back) ys opened_back) (front_after z n k back place_back ek lb) ob);
      back_rest = rest_stays z n k back place_back ek lb;
      compared = c;
    }

-- ---- where recorder and bench agree and there is room
module _ (recorder bench : Scheme) (ag : Agreement recorder bench) (sizes : recorder.size ≡ bench.size) (L : ℕ) (calls : List Call) (outcomes : List Outcome) (last : State) (kept : Kept recorder L calls outcomes last)
    (page bench_page bench_page_after room room_after back back_after : List ℕ) (opened sealed opened_back alike : Answer ℕ) (is_long : length page ≡ L) where
  abbrev z : ℕ
  z = recorder.size

  abbrev R : List (List ℕ)
  R = standing z L calls

  abbrev r : ℕ
  r = length R

  -- as many blocks as readings stand are alike, in one page and the same
  same_page : (answer : Answer ℕ) → Counted z last.page r last.page r answer → answer ≡ answered r
  same_page answer c =
      let alike = ag.counts_agree_at_home L L calls calls outcomes outcomes last last kept kept in
      let all : alike.count ≡ r = omega (arith, alike.of_readings.in_first, alike.of_readings.largest r (omega arith) (omega arith) refl) in
      alike.common answer c ∙ ap answered all

  long_front : (xs : List ℕ) → r * z ≤ length xs → length (front z r xs) ≡ r * z
  long_front xs h = length-take-le (min (r * z) (length xs)) xs (omega arith) ∙ omega arith

  pub found_equal : Crossed recorder bench last.count last.page bench_page bench_page_after room room_after back back_after opened sealed opened_back alike → RoomFor z R page bench_page room back
      → FoundEqual z R last.page bench_page_after room_after back_after opened sealed opened_back alike
  found_equal did fits =
      let pages = ag.pages_agree L calls outcomes last kept in
      let n_is = (ag.log_tells L calls outcomes last kept).count in
      let it = subst (λ n. Crossed recorder bench n last.page bench_page bench_page_after room room_after back back_after opened sealed opened_back alike) n_is did in
      let lp : length bench_page ≡ L = fits.page_long ∙ is_long in
      let one = pages.bench_opens (front z r room) (front z r room_after) opened (long_front room fits.room_long ∙ ap (λ k. r * k) sizes) it.bench_opened in
      let s = subst (λ xs. Sealed bench xs bench_page bench_page_after sealed) one.1 it.bench_sealed in
      let two = pages.bench_seals bench_page bench_page_after sealed (lp ∙ sym pages.sealed_by_rule.long) s in
      let three = pages.recorder_opens bench_page bench_page_after sealed lp s (front z r back) (front z r back_after) opened_back (long_front back fits.back_long) it.recorder_opened in
      record {
        bench_opened = one.0;
        bench_sealed = two.0;
        recorder_opened = three.0;
        compared = same_page alike (subst (λ p. Counted z last.page r p r alike) two.1 it.compared);
        found = one.1;
        found_back = three.1;
        pages_equal = two.1;
      }
