-- Lists of calls that are played one after the other.
use Rattle.std.proofs.Common.{◌≡◌, ℕ, ◌+◌, ◌<◌, List, [], ◌∷◌, ◌++◌, map, length, get_or, take, drop, slice_index_or, slice_set, sym, ap, ◌∙◌, arith}
use Rattle.std.proofs.lemmas.List.{map-append, take_more, take_more_set, get_or-drop, drop-drop, drop-set-lt}
use Rattle.modes.specs.Sealing.{Scheme}
use Rattle.beatlog.specs.Calls.{State, Link, Outcome}
use Rattle.beatlog.specs.Refusals.{Call}
use Rattle.agreement.specs.Agreements.{Run, none, next}

-- one call more
pub run_more : {s : Scheme} {capacity : ℕ} {before at after : State} {calls : List Call} {outcomes : List Outcome} {call : Call} {outcome : Outcome}
    → Run s capacity before calls outcomes at → Link s capacity at call after outcome → Run s capacity before (calls ++ call ∷ []) (outcomes ++ outcome ∷ []) after
run_more none link = next link none
run_more (next first rest) link = next first (run_more rest link)

-- turns of a list of which those before i are played; turn i is y, and x once it is played
module _ {T : Type 0} (was now : List T) (i : ℕ) (x y : T) (lt : i < length now) (long : length now ≡ length was) (others : drop i now ≡ drop i was) (is : y ≡ slice_index_or now i y) where
  at : (xs : List T) → get_or xs i y ≡ get_or (drop i xs) 0 y
  at xs = ap (λ k. get_or xs k y) {x = i} {y = i + 0} (omega arith) ∙ sym (get_or-drop i xs 0 y)

  here : get_or was i y ≡ y
  here = at was ∙ ap (λ xs. get_or xs 0 y) (sym others) ∙ sym (at now) ∙ sym is

  pub turns_left : drop (i + 1) (slice_set now i x) ≡ drop (i + 1) was
  turns_left = drop-set-lt (i + 1) now i x (omega arith) ∙ sym (drop-drop 1 i now) ∙ ap (drop 1) others ∙ drop-drop 1 i was

  pub turns_now : {U : Type 0} (f : T → U) → map f (take (i + 1) (slice_set now i x)) ≡ map f (take i now) ++ f x ∷ []
  turns_now f = ap (map f) (take_more_set now i x lt) ∙ map-append f (take i now) (x ∷ [])

  pub turns_were : {U : Type 0} (f : T → U) → map f (take (i + 1) was) ≡ map f (take i was) ++ f y ∷ []
  turns_were f = ap (map f) (take_more was i y (omega arith) ∙ ap (λ z. take i was ++ z ∷ []) here) ∙ map-append f (take i was) (y ∷ [])
