-- Which line is refused, and with what number, where the page holds what stands.
use Rattle.std.proofs.Common.{◌≡◌, ℕ, ◌-◌, ◌*◌, ◌/◌, ◌%◌, ◌<◌, ◌≤◌, true, false, not, List, length, replicate, nat_lt, nat_le, Option, Some, None, if◌then◌else◌, ◌==◌, refl, sym, ap, subst, ◌∙◌, ⊎_elim, lt-ltb, le-ltb, arith}
use Rattle.std.proofs.lemmas.Bool.{cases_eq, cases_lt, eq-eqb, ne_eqb}
use Rattle.std.proofs.lemmas.List.{length-replicate}
use Rattle.std.proofs.lemmas.Nat.{mul-le}
use Rattle.std.proofs.Math.Nat.{mul-mod_left}
use Rattle.ublock.specs.Cipher.{key_length}
use Rattle.ublock.specs.Variants.{numbered, parameters}
use Rattle.ublock.specs.declared.variant.Variant.{Variant}
use Rattle.beatlog.specs.Refusals.{row, refusal, bad_page, begin_refusal, append, amend, cut, read}
use Rattle.beatlog.specs.Calls.{View, page_after}
use Rattle.pages.specs.Calls.{refusal_by, size}
use Rattle.protocol.specs.Replies.{number_text, refusal_text}
use Rattle.protocol.specs.declared.command.Command.{Command}
use Rattle.protocol.specs.declared.command.Command.TheVariants.{New, Log}
use Rattle.protocol.specs.declared.command.NewLog.{NewLog}
use Rattle.protocol.specs.declared.command.LogCommand.{LogCommand}
use Rattle.protocol.specs.declared.command.LogCommand.TheVariants.{Append, Amend, Cut, Read, Show}
use Rattle.session.specs.Session.{Done, refused, accepted, done, begun, on_log, new_log, new_page, new_number, call_of, text_of, log_after}
use Rattle.session.specs.Transcripts.{Standing, is_accepted, log_refusal, new_refusal, line_refusal}
use Rattle.session.proofs.NewLogs.{some_block}
use Rattle.session.proofs.Published.{size_by}
use Rattle.session.proofs.Kept.{Keeps, Kept, number_is, long, whole_is}
use Rattle.session.proofs.Lines.{text, says_ok}

-- ---- on a page of L bytes, in whole blocks and with room for n readings, no refusal is left but what the readings decide
module _ (b L n : ℕ) (whole : L % b ≡ 0) where
  page_is : (L == L / b * b) ≡ true
  page_is = eq-eqb L (L / b * b) (whole_is b L whole)

  append_by : (reading : List ℕ) → refusal b (L / b) n L (append reading) ≡ row 5 (not (length reading == b)) (row 7 (nat_le (L / b) n) 0)
  append_by reading = rw page_is refl

  amend_by : (j : ℕ) (reading : List ℕ) → n * b ≤ L → refusal b (L / b) n L (amend j reading (replicate L 0)) ≡ row 5 (not (length reading == b)) (row 8 (nat_le n j) 0)
  amend_by j reading fits =
      let work : List ℕ = replicate L 0 in
      let long : length work ≡ L = length-replicate L 0 in
      let enough : nat_lt (length work) ((n - j) * b) ≡ false =
      le-ltb (length work) ((n - j) * b) (omega (arith, fits, long, mul-le (n - j) b n b (omega arith) (omega arith))) in
      rw (page_is, enough) refl

  cut_by : (m : ℕ) → refusal b (L / b) n L (cut m) ≡ row 8 (nat_lt n m) 0
  cut_by m = rw page_is refl

  read_by : (j : ℕ) → refusal b (L / b) n L (read j (replicate b 0)) ≡ row 8 (nat_le n j) 0
  read_by j =
      let place : List ℕ = replicate b 0 in
      let long : length place ≡ b = length-replicate b 0 in
      rw (page_is, eq-eqb (length place) b long) refl

module _ (v : View) (page : List ℕ) (t : Standing) (h : Keeps v page t) where
  by_readings : (command : LogCommand) → refusal v.scheme.size (h.L / v.scheme.size) (length t.readings) h.L (call_of v.scheme.size h.L command) ≡ log_refusal t command
  by_readings (Append reading) =
      append_by v.scheme.size h.L (length t.readings) h.whole reading
      ∙ ap (λ m. row 5 (not (length reading == v.scheme.size)) (row 7 (nat_le m (length t.readings)) 0)) (sym (h.blocks ∙ h.capacity))
      ∙ ap (λ s. row 5 (not (length reading == s.size)) (row 7 (nat_le t.blocks (length t.readings)) 0)) (sym h.scheme)
  by_readings (Amend index reading) =
      amend_by v.scheme.size h.L (length t.readings) h.whole index reading h.holds.fits
      ∙ ap (λ s. row 5 (not (length reading == s.size)) (row 8 (nat_le (length t.readings) index) 0)) (sym h.scheme)
  by_readings (Cut count) = cut_by v.scheme.size h.L (length t.readings) h.whole count
  by_readings (Read index) = read_by v.scheme.size h.L (length t.readings) h.whole index
  by_readings (Show index) = read_by v.scheme.size h.L (length t.readings) h.whole index

  log_refusal_is : (command : LogCommand) → refusal v.scheme.size v.capacity v.count (length page) (call_of v.scheme.size (length page) command) ≡ log_refusal t command
  log_refusal_is command =
      number_is v page t h command
      ∙ ap (λ l. refusal v.scheme.size (h.L / v.scheme.size) (length t.readings) h.L (call_of v.scheme.size l command)) (long v page t h)
      ∙ by_readings command

-- ---- a new log
bad_by : (b m : ℕ) → 0 < b → bad_page b (m * b) ≡ nat_lt 2048 m
bad_by b m some =
    let whole : (m * b % b == 0) ≡ true = eq-eqb (m * b % b) 0 (mul-mod_left m b) in
    ⊎_elim
    (λ lt. rw (whole, lt-ltb 2048 m lt, lt-ltb (2048 * b) (m * b) (omega (arith, mul-le 2049 b m b lt (omega arith)))) refl)
    (λ le. rw (whole, le-ltb 2048 m le, le-ltb (2048 * b) (m * b) (mul-le m b 2048 b le (omega arith))) refl)
    (cases_lt 2048 m)

new_by : (o : Option Variant) (n : NewLog) → refusal_by o (length n.key) (λ b. begin_refusal b (length n.start) (n.blocks * b)) ≡ new_refusal n o
new_by None n = refl
new_by (Some v) n =
    ap (λ bad. row 2 (not (length n.key == key_length (parameters v))) (row 3 (not (length n.start == size v)) (row 6 bad 0)))
    (bad_by (size v) n.blocks (some_block (size_by v)))

-- ---- a line done is refused with this number, or accepted where it is 0
abbrev pub Told : ℕ → ℕ → Done → Type 0
Told k n d = (is_accepted (text k d) ≡ (n == 0)) × (is_accepted (text k d) ≡ false → text k d ≡ refusal_text k n)

module _ (k : ℕ) where
  by_number : (n : ℕ) (log after : Option View) (page page' words : List ℕ) → is_accepted words ≡ true
      → Told k n (if n == 0 then accepted words after page' else refused log page n)
  by_number n log after page page' words ok =
      ⊎_elim
      (λ z. rw (eq-eqb n 0 z) (ok, λ no. (cc)))
      (λ z. rw (ne_eqb n 0 z) (refl, λ no. refl))
      (cases_eq n 0)

  pub done_told : (log : Option View) (page : List ℕ) (t : Option Standing) (c : Option Command) → Kept log page t → Told k (line_refusal t c) (done log page c)
  done_told None page (Some t) c h = absurd h
  done_told (Some v) page None c h = absurd h
  done_told None page None None h = (refl, λ no. refl)
  done_told (Some v) page (Some t) None h = (refl, λ no. refl)
  done_told None page None (Some (Log command)) h = (refl, λ no. refl)
  done_told (Some v) page (Some t) (Some (New n)) h = (refl, λ no. refl)
  done_told None page None (Some (New n)) h =
      subst (λ m. Told k m (begun page n)) (new_by (numbered n.variant) n)
      (by_number (new_number n) None (new_log (numbered n.variant) n) page (new_page (numbered n.variant) n) (number_text 0) refl)
  done_told (Some v) page (Some t) (Some (Log command)) h =
      let call = call_of v.scheme.size (length page) command in
      let number = refusal v.scheme.size v.capacity v.count (length page) call in
      subst (λ m. Told k m (on_log v page command)) (log_refusal_is v page t h command)
      (by_number number (Some v) (Some (log_after v call)) page (page_after v.scheme v.count page call) (text_of v page command) (says_ok v page command))
