-- After any lines the page holds what stands, and so what is read, shown and counted is what the accepted lines say.
use Rattle.std.proofs.Common.{◌≡◌, ℕ, ◌+◌, ◌*◌, ◌<◌, ◌≤◌, Bool, true, false, List, [], ◌∷◌, ◌++◌, length, nat_le, Option, Some, None, if◌then◌else◌, refl, sym, ap, subst, ◌∙◌, ⊎_elim, arith}
use Rattle.std.specs.Prelude.{IfSome}
use Rattle.std.proofs.lemmas.Bool.{cases_lt}
use Rattle.std.proofs.lemmas.Bool.Decides.{nat_tests}
use Rattle.agreement.specs.Agreements.{HoldsSealed}
use Rattle.agreement.proofs.Pages.{holds_sealed}
use Rattle.protocol.specs.Lines.{command_of}
use Rattle.beatlog.specs.Calls.{View}
use Rattle.session.specs.Session.{SessionState, Step, beginning, answer, written, texts, state_after, done}
use Rattle.session.specs.Transcripts.{Standing, is_accepted, said, standing_from, standing_after, text_after, count_text, Counts, PageHolds, ReadingsShown, RefusalsTold, line_refusal}
use Rattle.session.proofs.Brings.{line_brings}
use Rattle.session.proofs.Kept.{Kept, room, sized}
use Rattle.session.proofs.Lines.{Well, text, done_well}
use Rattle.session.proofs.Asked.{read_is, shown_is}
use Rattle.session.proofs.Refused.{Told, done_told}

either : (P : Step → Type 0) (test : Bool) (x y : Step) → P x → P y → P (if test then x else y)
either P true x y hx hy = hx
either P false x y hx hy = hy

-- what stands after a line and its text
abbrev next : Option Standing → List ℕ → List ℕ → Option Standing
next t line told = if is_accepted told then said t (command_of line) else t

-- ---- one line
module _ (s : SessionState) (t : Option Standing) (line : List ℕ) (h : Kept s.log s.page t) where
  well : Well (s.lines + 1) t (said t (command_of line)) (IfSome (command_of line) Counts) (done s.log s.page (command_of line))
  well = done_well (s.lines + 1) s.log s.page t (command_of line) h (λ b. line_brings b (length s.page) line)

  line_kept : let a = answer s line in Kept a.state.log a.state.page (next t line a.text)
  line_kept =
      either (λ a. Kept a.state.log a.state.page (next t line a.text)) (nat_le 999999 s.lines)
      (record { text = []; state = s }) (written (s.lines + 1) (done s.log s.page (command_of line))) h well.kept

  line_counted : IfSome (command_of line) Counts → is_accepted (answer s line).text ≡ true → (answer s line).text ≡ count_text (said t (command_of line))
  line_counted =
      either (λ a. IfSome (command_of line) Counts → is_accepted a.text ≡ true → a.text ≡ count_text (said t (command_of line))) (nat_le 999999 s.lines)
      (record { text = []; state = s }) (written (s.lines + 1) (done s.log s.page (command_of line))) (λ c e. (cc)) well.counted

line_answered : (s : SessionState) (line : List ℕ) → s.lines < 999999 → answer s line ≡ written (s.lines + 1) (done s.log s.page (command_of line))
line_answered s line lt = let e : nat_le 999999 s.lines ≡ false = grind (arith, nat_tests) in rw e refl

line_past : (s : SessionState) (line : List ℕ) → 999999 ≤ s.lines → answer s line ≡ record { text = []; state = s }
line_past s line le = let e : nat_le 999999 s.lines ≡ true = grind (arith, nat_tests) in rw e refl

-- ---- lines one after the other
lines_kept : (s : SessionState) (t : Option Standing) (lines : List (List ℕ)) → Kept s.log s.page t
    → let after = state_after s lines in Kept after.log after.page (standing_from t lines (texts s lines))
lines_kept s t [] h = h
lines_kept s t (line ∷ lines) h = let a = answer s line in lines_kept a.state (next t line a.text) lines (line_kept s t line h)

lines_counted : (s : SessionState) (lines : List (List ℕ)) → s.lines + length lines ≤ 999999 → (state_after s lines).lines ≡ s.lines + length lines
lines_counted s [] le = omega arith
lines_counted s (line ∷ lines) le =
    let a = answer s line in
    let one : a.state.lines ≡ s.lines + 1 = ap (λ x. x.state.lines) (line_answered s line (omega arith)) in
    lines_counted a.state lines (omega arith) ∙ omega arith

lines_full : (s : SessionState) (lines : List (List ℕ)) → s.lines ≤ 999999 → 999999 ≤ s.lines + length lines → (state_after s lines).lines ≡ 999999
lines_full s [] le all = omega arith
lines_full s (line ∷ lines) le all =
    let a = answer s line in
    ⊎_elim
    (λ lt.
    let one : a.state.lines ≡ s.lines + 1 = ap (λ x. x.state.lines) (line_answered s line lt) in
    lines_full a.state lines (omega arith) (omega arith))
    (λ full.
    let same : a.state.lines ≡ s.lines = ap (λ x. x.state.lines) (line_past s line full) in
    lines_full a.state lines (omega arith) (omega arith))
    (cases_lt s.lines 999999)

one_more : (s : SessionState) (t : Option Standing) (lines : List (List ℕ)) (line : List ℕ)
    → standing_from t (lines ++ line ∷ []) (texts s (lines ++ line ∷ [])) ≡ next (standing_from t lines (texts s lines)) line (answer (state_after s lines) line).text
one_more s t [] line = refl
one_more s t (first ∷ lines) line = let a = answer s first in one_more a.state (next t first a.text) lines line

-- ---- from the beginning
module _ (lines : List (List ℕ)) where
  abbrev now : SessionState
  now = state_after beginning lines

  kept : Kept now.log now.page (standing_after lines)
  kept = lines_kept beginning None lines refl

  text_is : (line : List ℕ) → length lines < 999999 → text_after lines line ≡ text (length lines + 1) (done now.log now.page (command_of line))
  text_is line lt =
      let count : now.lines ≡ length lines = lines_counted beginning lines (omega arith) ∙ omega arith in
      ap (λ a. a.text) (line_answered now line (omega arith)) ∙ ap (λ k. text (k + 1) (done now.log now.page (command_of line))) count

  told : (line : List ℕ) → Told (length lines + 1) (line_refusal (standing_after lines) (command_of line)) (done now.log now.page (command_of line))
  told line = done_told (length lines + 1) now.log now.page (standing_after lines) (command_of line) kept

  full : 999999 ≤ length lines → now.lines ≡ 999999
  full le = lines_full beginning lines (omega arith) (omega arith)

page_holds : (log : Option View) (page : List ℕ) (t : Option Standing) → Kept log page t → PageHolds t page
page_holds None page None h = h
page_holds None page (Some t) h = absurd h
page_holds (Some v) page None h = absurd h
page_holds (Some v) page (Some t) h =
    let L = h.L in
    let holds = holds_sealed v.scheme h.lawful L t.readings (room v page t h) in
    subst (λ s. HoldsSealed s (t.blocks * s.size) t.readings page) (sym h.scheme)
    (subst (λ n. HoldsSealed v.scheme n t.readings page) (sized v page t h) (subst (HoldsSealed v.scheme L t.readings) (sym h.holds.page) holds))

pub readings_shown : ReadingsShown
readings_shown = record {
  read = λ lines line j lt is.
      text_is lines line lt ∙ ap (λ c. text (length lines + 1) (done (now lines).log (now lines).page c)) is
      ∙ read_is (length lines + 1) (now lines).log (now lines).page (standing_after lines) j (kept lines);
  shown = λ lines line j lt is.
      text_is lines line lt ∙ ap (λ c. text (length lines + 1) (done (now lines).log (now lines).page c)) is
      ∙ shown_is (length lines + 1) (now lines).log (now lines).page (standing_after lines) j (kept lines);
  counted = λ lines line command is counts ok.
      line_counted (now lines) (standing_after lines) line (kept lines) (subst (λ c. IfSome c Counts) (sym is) counts) ok
      ∙ ap count_text (sym (one_more beginning None lines line ∙ rw ok refl));
  page = λ lines. page_holds (now lines).log (now lines).page (standing_after lines) (kept lines);
}

pub refusals_told : RefusalsTold
refusals_told = record {
  accepted = λ lines line lt. ap is_accepted (text_is lines line lt) ∙ (told lines line).0;
  refused = λ lines line lt no. text_is lines line lt ∙ (told lines line).1 (sym (ap is_accepted (text_is lines line lt)) ∙ no);
  past = λ lines line le. ap (λ a. a.text) (line_past (now lines) line (omega (arith, full lines le)));
}
