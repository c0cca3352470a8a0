-- What a line is answered, and what it leaves, where the page holds what stands.
use Rattle.std.proofs.Common.{◌≡◌, ℕ, ◌*◌, true, List, length, Option, Some, None, option_map, if◌then◌else◌, ◌==◌, refl, sym, ap, subst, ◌∙◌, ⊎_elim, arith}
use Rattle.std.specs.Prelude.{IfSome}
use Rattle.std.proofs.lemmas.Bool.{cases_eq, eq-eqb, ne_eqb}
use Rattle.ublock.specs.Variants.{numbered}
use Rattle.ublock.specs.Laws.{Bytes}
use Rattle.ublock.specs.declared.variant.Variant.{Variant}
use Rattle.beatlog.specs.Refusals.{refusal, begin_refusal}
use Rattle.beatlog.specs.Calls.{View, page_after}
use Rattle.pages.specs.Calls.{refusal_by}
use Rattle.protocol.specs.Replies.{number_text}
use Rattle.protocol.specs.declared.command.Command.{Command}
use Rattle.protocol.specs.declared.command.Command.TheVariants.{New, Log}
use Rattle.protocol.specs.declared.command.NewLog.{NewLog}
use Rattle.protocol.specs.declared.command.LogCommand.{LogCommand}
use Rattle.protocol.specs.declared.command.LogCommand.TheVariants.{Append, Amend, Cut, Read, Show}
use Rattle.session.specs.Session.{Done, refused, accepted, done, new_log, new_page, new_number, call_of, text_of, text_by, log_after}
use Rattle.session.specs.Transcripts.{Standing, is_accepted, new_standing, edited, said, count_text, Counts}
use Rattle.session.proofs.Brings.{Brings}
use Rattle.session.proofs.Kept.{Kept, kept_new, kept_after}

abbrev pub text : ℕ → Done → List ℕ
text k d = text_by k d.answer.number d.answer.value

-- a line done, by which `after` stands for `before` if it is accepted; a line of class C is answered with a count
pub record Well (k : ℕ) (before after : Option Standing) (C : Type 0) (d : Done) : Type 0 where
  pub kept : Kept d.log d.page (if is_accepted (text k d) then after else before)
  pub counted : C → is_accepted (text k d) ≡ true → text k d ≡ count_text after

either_way : (P : Done → Type 0) (n : ℕ) (x y : Done) → (n ≡ 0 → P x) → P y → P (if n == 0 then x else y)
either_way P n x y hx hy = ⊎_elim (λ e. rw (eq-eqb n 0 e) (hx e)) (λ e. rw (ne_eqb n 0 e) hy) (cases_eq n 0)

pub says_ok : (v : View) (page : List ℕ) (command : LogCommand) → is_accepted (text_of v page command) ≡ true
says_ok v page (Append reading) = refl
says_ok v page (Amend index reading) = refl
says_ok v page (Cut count) = refl
says_ok v page (Read index) = refl
says_ok v page (Show index) = refl

counts : (v : View) (page : List ℕ) (command : LogCommand) → Counts (Log command) → text_of v page command ≡ number_text (log_after v (call_of v.scheme.size (length page) command)).count
counts v page (Append reading) c = refl
counts v page (Amend index reading) c = refl
counts v page (Cut count) c = refl
counts v page (Read index) c = absurd c
counts v page (Show index) c = absurd c

module _ (k : ℕ) where
  refused_well : (log : Option View) (page : List ℕ) (t after : Option Standing) (C : Type 0) (n : ℕ) → Kept log page t → Well k t after C (refused log page n)
  refused_well log page t after C n h = record { kept = h; counted = λ c e. (cc) }

  begun_well : (o : Option Variant) (n : NewLog) (C : Type 0) → Bytes n.key → Bytes n.start
      → refusal_by o (length n.key) (λ b. begin_refusal b (length n.start) (n.blocks * b)) ≡ 0
      → Well k None (option_map (new_standing n) o) C (accepted (number_text 0) (new_log o n) (new_page o n))
  begun_well None n C hk hs zero = absurd (omega arith)
  begun_well (Some x) n C hk hs zero = record { kept = kept_new (Some x) n hk hs zero; counted = λ c e. refl }

  pub done_well : (log : Option View) (page : List ℕ) (t : Option Standing) (c : Option Command) → Kept log page t → ((b : ℕ) → IfSome c (Brings b (length page)))
      → Well k t (said t c) (IfSome c Counts) (done log page c)
  done_well None page (Some t) c h brings = absurd h
  done_well (Some v) page None c h brings = absurd h
  done_well None page None None h brings = refused_well None page None None (IfSome None Counts) 10 h
  done_well (Some v) page (Some t) None h brings = refused_well (Some v) page (Some t) (Some t) (IfSome None Counts) 10 h
  done_well None page None (Some (Log command)) h brings = refused_well None page None None (Counts (Log command)) 11 h
  done_well (Some v) page (Some t) (Some (New n)) h brings = refused_well (Some v) page (Some t) (said (Some t) (Some (New n))) Unit 11 h
  done_well None page None (Some (New n)) h brings =
      let o = numbered n.variant in
      let after = option_map (new_standing n) o in
      let number = new_number n in
      either_way (Well k None after Unit) number (accepted (number_text 0) (new_log o n) (new_page o n)) (refused None page number)
      (λ zero. begun_well o n Unit (brings 0).0 (brings 0).1 zero)
      (refused_well None page None after Unit number h)
  done_well (Some v) page (Some t) (Some (Log command)) h brings =
      let call = call_of v.scheme.size (length page) command in
      let number = refusal v.scheme.size v.capacity v.count (length page) call in
      let after : Option Standing = Some (record { scheme = t.scheme; blocks = t.blocks; readings = edited t.readings command }) in
      either_way (Well k (Some t) after (Counts (Log command))) number (accepted (text_of v page command) (Some (log_after v call)) (page_after v.scheme v.count page call)) (refused (Some v) page number)
      (λ zero.
      let left = kept_after v page t h command (brings v.scheme.size) zero in
      record {
        kept = subst (λ ok. Kept (Some (log_after v call)) (page_after v.scheme v.count page call) (if ok then after else Some t)) (sym (says_ok v page command)) left;
        counted = λ c e. counts v page command c ∙ ap number_text left.holds.count;
      })
      (refused_well (Some v) page (Some t) after (Counts (Log command)) number h)
