-- What a reading, or its sealed block, is answered where the page holds what stands.
use Rattle.std.proofs.Common.{◌≡◌, ℕ, ◌/◌, ◌%◌, ◌<◌, ◌≤◌, List, [], length, get_or, replicate, nat_lt, Option, Some, None, if◌then◌else◌, ◌==◌, refl, sym, ap, ◌∙◌, lt-ltb, le-ltb, inl, inr, arith}
use Rattle.std.proofs.lemmas.Bool.{cases_lt}
use Rattle.std.proofs.lemmas.Bool.Decides.{nat_tests}
use Rattle.std.proofs.lemmas.List.{length-replicate}
use Rattle.ublock.specs.Parts.{part}
use Rattle.modes.specs.Sealing.{sealed}
use Rattle.beatlog.specs.Refusals.{refusal, read}
use Rattle.beatlog.specs.Calls.{View, reading_of, page_after}
use Rattle.agreement.proofs.Laws.{size_positive}
use Rattle.agreement.proofs.Images.{image, image_blocks}
use Rattle.agreement.proofs.Pages.{reading_of_page}
use Rattle.agreement.proofs.Rows.{blocks_at}
use Rattle.protocol.specs.Replies.{block_text, refusal_text}
use Rattle.protocol.specs.declared.command.Command.TheVariants.{Log}
use Rattle.protocol.specs.declared.command.LogCommand.{LogCommand}
use Rattle.protocol.specs.declared.command.LogCommand.TheVariants.{Read, Show}
use Rattle.session.specs.Session.{refused, accepted, done, on_log, call_of, text_of, log_after}
use Rattle.session.specs.Transcripts.{Standing, read_text, show_text}
use Rattle.session.proofs.Kept.{Keeps, Kept, number_is, room}
use Rattle.session.proofs.Lines.{text}

read_fine : (b L n j : ℕ) (place : List ℕ) → 0 < b → L % b ≡ 0 → length place ≡ b → j < n → refusal b (L / b) n L (read j place) ≡ 0
read_fine b L n j place h whole long lt = grind (arith, nat_tests)

read_past : (b L n j : ℕ) (place : List ℕ) → 0 < b → L % b ≡ 0 → length place ≡ b → n ≤ j → refusal b (L / b) n L (read j place) ≡ 8
read_past b L n j place h whole long le = grind (arith, nat_tests)

module _ (k : ℕ) (v : View) (page : List ℕ) (t : Standing) (h : Keeps v page t) where
  -- a command that is the call of a read is answered with w where there is such a reading
  asked : (command : LogCommand) (j : ℕ) (w : List ℕ) → call_of v.scheme.size (length page) command ≡ read j (replicate v.scheme.size 0)
      → (j < length t.readings → text_of v page command ≡ w)
      → text k (on_log v page command) ≡ (if nat_lt j (length t.readings) then w else refusal_text k 8)
  asked command j w is_read is =
      let b = v.scheme.size in
      let n = length t.readings in
      let call = call_of b (length page) command in
      let number = refusal b v.capacity v.count (length page) call in
      let place_long = length-replicate b 0 in
      let by : ℕ → List ℕ = λ m. text k (if m == 0 then accepted (text_of v page command) (Some (log_after v call)) (page_after v.scheme v.count page call) else refused (Some v) page m) in
      let numbered : number ≡ refusal b (h.L / b) n h.L (read j (replicate b 0)) = number_is v page t h command ∙ ap (refusal b (h.L / b) n h.L) is_read in
      elim (cases_lt j n) [
        | inl lt ↦ ap by (numbered ∙ read_fine b h.L n j (replicate b 0) (size_positive v.scheme h.lawful) h.whole place_long lt) ∙ is lt ∙ sym (rw (lt-ltb j n lt) refl)
        | inr le ↦ ap by (numbered ∙ read_past b h.L n j (replicate b 0) (size_positive v.scheme h.lawful) h.whole place_long le) ∙ sym (rw (le-ltb j n le) refl)
      ]

  reading_is : (j : ℕ) → j < length t.readings → reading_of v.scheme j page ≡ get_or t.readings j []
  reading_is j lt = ap (reading_of v.scheme j) h.holds.page ∙ reading_of_page v.scheme h.lawful h.L t.readings (room v page t h) j lt

  block_is : (j : ℕ) → j < length t.readings → part v.scheme.size j page ≡ get_or (sealed t.scheme 0 t.scheme.start t.readings) j []
  block_is j lt =
      let s = v.scheme in
      let rs = t.readings in
      ap (part s.size j) h.holds.page ∙ sym (blocks_at s.size (length rs) j (image s h.L rs) lt)
      ∙ ap (λ z. get_or z j []) (image_blocks s h.lawful h.L rs h.holds.blocks) ∙ ap (λ u. get_or (sealed u 0 u.start rs) j []) (sym h.scheme)

module _ (k : ℕ) where
  pub read_is : (log : Option View) (page : List ℕ) (t : Option Standing) (j : ℕ) → Kept log page t → text k (done log page (Some (Log (Read j)))) ≡ read_text k t j
  read_is None page None j h = refl
  read_is None page (Some t) j h = absurd h
  read_is (Some v) page None j h = absurd h
  read_is (Some v) page (Some t) j h = asked k v page t h (Read j) j (block_text (get_or t.readings j [])) refl (λ lt. ap block_text (reading_is k v page t h j lt))

  pub shown_is : (log : Option View) (page : List ℕ) (t : Option Standing) (j : ℕ) → Kept log page t → text k (done log page (Some (Log (Show j)))) ≡ show_text k t j
  shown_is None page None j h = refl
  shown_is None page (Some t) j h = absurd h
  shown_is (Some v) page None j h = absurd h
  shown_is (Some v) page (Some t) j h =
      asked k v page t h (Show j) j (block_text (get_or (sealed t.scheme 0 t.scheme.start t.readings) j [])) refl (λ lt. ap block_text (block_is k v page t h j lt))
