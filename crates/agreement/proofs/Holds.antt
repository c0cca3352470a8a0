-- Any list of calls keeps log and page at the readings that stand by the calls' arguments.
use Rattle.std.proofs.Common.{◌≡◌, ℕ, suc, ◌+◌, ◌*◌, ◌/◌, ◌<◌, ◌≤◌, min, List, [], ◌∷◌, ◌++◌, length, get_or, take, drop, set, if◌then◌else◌, ◌==◌, refl, sym, ap, subst, ◌∙◌, ⊎_elim, div-mul-le_self, arith}
use Rattle.std.proofs.lemmas.List.{length_push, set_split, set-get_or, length-set, length-take-le, take-append-drop}
use Rattle.std.proofs.lemmas.Nat.{mul-le}
use Rattle.std.proofs.lemmas.Simd.{Each1-get_or}
use Rattle.std.proofs.lemmas.Bool.{cases_eq, eq-eqb, ne_eqb}
use Rattle.std.proofs.lemmas.Bool.Decides.{nat_tests}
use Rattle.ublock.specs.Laws.{Block}
use Rattle.modes.specs.Sealing.{Scheme, Lawful, AllBlocks}
use Rattle.beatlog.specs.Refusals.{Call, append, amend, cut, read, refusal}
use Rattle.beatlog.specs.Calls.{State, Link, Outcome, OfBytes, count_after, changes_after, page_after}
use Rattle.agreement.specs.Standing.{Account, account, accounted, entered}
use Rattle.agreement.specs.Agreements.{Run, none, next}
use Rattle.agreement.proofs.Rows.{each_append, each_take, each_drop}
use Rattle.agreement.proofs.Images.{image, length_image}
use Rattle.agreement.proofs.Edits.{image_append, image_amend, image_cut}

-- a log and its page of L bytes stand as the account says
pub record Holds (s : Scheme) (L : ℕ) (at : State) (a : Account) : Type 0 where
  pub count : at.count ≡ length a.readings
  pub changes : at.changes ≡ min a.changes 4294967295
  pub page : at.page ≡ image s L a.readings
  pub fits : length a.readings * s.size ≤ L
  pub blocks : AllBlocks s.size a.readings

-- ---- what an accepted call had
append_had : (b capacity n page : ℕ) (x : List ℕ) → refusal b capacity n page (append x) ≡ 0 → (length x ≡ b) × (n < capacity)
append_had b capacity n page x e = (grind (arith, nat_tests), grind (arith, nat_tests))

amend_had : (b capacity n page j : ℕ) (x work : List ℕ) → refusal b capacity n page (amend j x work) ≡ 0 → (length x ≡ b) × (j < n)
amend_had b capacity n page j x work e = (grind (arith, nat_tests), grind (arith, nat_tests))

cut_had : (b capacity n page m : ℕ) → refusal b capacity n page (cut m) ≡ 0 → m ≤ n
cut_had b capacity n page m e = grind (arith, nat_tests)

pub read_had : (b capacity n page j : ℕ) (place : List ℕ) → refusal b capacity n page (read j place) ≡ 0 → j < n
read_had b capacity n page j place e = grind (arith, nat_tests)

-- what an accepted call leaves
abbrev left : Scheme → State → Call → State
left s at call = record { count = count_after at.count call; changes = changes_after at.changes call; page = page_after s at.count at.page call }

module _ (s : Scheme) (ok : Lawful s) (L : ℕ) where
  -- the number that the account gives
  abbrev number : Account → Call → ℕ
  number a call = refusal s.size (L / s.size) (length a.readings) L call

  pub accepted : (at : State) (a : Account) (call : Call) → Holds s L at a → OfBytes call → number a call ≡ 0 → Holds s L (left s at call) (entered a call)
  accepted at a (append x) h bytes e =
      let b = s.size in
      let rs = a.readings in
      let had = append_had b (L / b) (length rs) L x e in
      let block : Block b x = record { long = had.0; bytes = bytes } in
      let le : suc (length rs) * b ≤ L = omega (arith, mul-le (suc (length rs)) b (L / b) b had.1 (omega arith), div-mul-le_self L b) in
      record {
        count = ap (λ n. n + 1) h.count ∙ sym (length_push rs x);
        changes = omega (arith, h.changes);
        page = ap (λ n. page_after s n at.page (append x)) h.count ∙ ap (λ p. page_after s (length rs) p (append x)) h.page ∙ image_append s ok L rs x h.blocks;
        fits = omega (arith, le, ap (λ n. n * b) {x = length (rs ++ x ∷ [])} {y = suc (length rs)} (omega (arith, length_push rs x)));
        blocks = each_append (Block b) rs (x ∷ []) h.blocks (block, tt);
      }
  accepted at a (amend j x work) h bytes e =
      let b = s.size in
      let rs = a.readings in
      let had = amend_had b (L / b) (length rs) L j x work e in
      let block : Block b x = record { long = had.0; bytes = bytes } in
      let ps = take j rs in
      let q = get_or rs j [] in
      let qs = drop (suc j) rs in
      let hp = each_take (Block b) j rs h.blocks in
      let hq : Block b q = Each1-get_or (Block b) rs j [] had.1 h.blocks in
      let hqs = each_drop (Block b) (suc j) rs h.blocks in
      let whole : ps ++ q ∷ qs ≡ rs = sym (set_split rs j q had.1) ∙ set-get_or rs j [] in
      let put : set rs j x ≡ ps ++ x ∷ qs = set_split rs j x had.1 in
      let at_j : length ps ≡ j = length-take-le j rs (omega (arith, had.1)) in
      record {
        count = h.count ∙ sym (length-set rs j x);
        changes = omega (arith, h.changes);
        page = ap (λ n. page_after s n at.page (amend j x work)) (h.count ∙ ap length (sym whole))
            ∙ ap (λ p. page_after s (length (ps ++ q ∷ qs)) p (amend j x work)) (h.page ∙ ap (image s L) (sym whole))
            ∙ ap (λ k. page_after s (length (ps ++ q ∷ qs)) (image s L (ps ++ q ∷ qs)) (amend k x work)) (sym at_j)
            ∙ image_amend s ok L ps q x qs work hp (hq, hqs) ∙ ap (image s L) (sym put);
        fits = rw (length-set rs j x) h.fits;
        blocks = rw put (each_append (Block b) ps (x ∷ qs) hp (block, hqs));
      }
  accepted at a (cut m) h bytes e =
      let b = s.size in
      let rs = a.readings in
      let le : m ≤ length rs = cut_had b (L / b) (length rs) L m e in
      let ps = take m rs in
      let qs = drop m rs in
      let hp = each_take (Block b) m rs h.blocks in
      let hq = each_drop (Block b) m rs h.blocks in
      let whole : ps ++ qs ≡ rs = take-append-drop m rs in
      let at_m : length ps ≡ m = length-take-le m rs le in
      record {
        count = sym at_m;
        changes = omega (arith, h.changes);
        page = ap (λ p. page_after s at.count p (cut m)) (h.page ∙ ap (image s L) (sym whole))
            ∙ ap (λ k. page_after s at.count (image s L (ps ++ qs)) (cut k)) (sym at_m)
            ∙ image_cut s ok L ps qs at.count hp hq (rw whole h.fits);
        fits = omega (arith, h.fits, ap (λ n. n * b) at_m, mul-le m b (length rs) b le (omega arith));
        blocks = hp;
      }
  accepted at a (read j place) h bytes e = h

  pub numbered : (at after : State) (a : Account) (call : Call) (outcome : Outcome) → Holds s L at a → Link s (L / s.size) at call after outcome
      → outcome.answer.number ≡ number a call
  numbered at after a call outcome h link =
      link.number ∙ ap (λ n. refusal s.size (L / s.size) n (length at.page) call) h.count
      ∙ ap (λ m. refusal s.size (L / s.size) (length a.readings) m call) (ap length h.page ∙ length_image s ok L a.readings h.blocks h.fits)

  pub stepped : (at after : State) (a : Account) (call : Call) (outcome : Outcome) → Holds s L at a → Link s (L / s.size) at call after outcome
      → Holds s L after (accounted s.size L a call)
  stepped at after a call outcome h link =
      let e = numbered at after a call outcome h link in
      let leaves : after ≡ (record {
        count = if outcome.answer.number == 0 then count_after at.count call else at.count;
        changes = if outcome.answer.number == 0 then changes_after at.changes call else at.changes;
        page = if outcome.answer.number == 0 then page_after s at.count at.page call else at.page;
      }) = λ i. record { count = link.count i; changes = link.changes i; page = link.page i } in
      ⊎_elim
      (λ z.
      rw (eq-eqb (number a call) 0 z) (subst (λ now. Holds s L now (entered a call)) (sym (leaves ∙ rw (eq-eqb outcome.answer.number 0 (e ∙ z)) refl)) (accepted at a call h link.of_bytes z)))
      (λ z.
      rw (ne_eqb (number a call) 0 z) (subst (λ now. Holds s L now a) (sym (leaves ∙ rw (ne_eqb outcome.answer.number 0 (λ k. z (sym e ∙ k))) refl)) h))
      (cases_eq (number a call) 0)

  pub ran : (at last : State) (a : Account) (calls : List Call) (outcomes : List Outcome) → Holds s L at a → Run s (L / s.size) at calls outcomes last
      → Holds s L last (account s.size L a calls)
  ran at last a calls outcomes h none = h
  ran at last a calls outcomes h (next {after = after} {call = call} {calls = more} {outcome = outcome} {outcomes = others} link run) =
      ran after last (accounted s.size L a call) more others (stepped at after a call outcome h link) run
