-- A log on its page, and what the accepted lines say stands.
use Rattle.std.proofs.Common.{◌≡◌, ℕ, ◌-◌, ◌*◌, ◌/◌, ◌%◌, ◌≤◌, List, [], length, replicate, Option, Some, None, option_map, refl, sym, ap, subst, ◌∙◌, zero-mul, mul-div_cancel, arith}
use Rattle.std.proofs.lemmas.Bool.Decides.{nat_tests}
use Rattle.std.proofs.Math.Nat.{mod-eq-sub-div-mul, div-mul-le_self}
use Rattle.ublock.specs.Cipher.{key_length}
use Rattle.ublock.specs.Laws.{Bytes}
use Rattle.ublock.specs.Variants.{parameters}
use Rattle.ublock.specs.declared.variant.Variant.{Variant}
use Rattle.modes.specs.Sealing.{Lawful}
use Rattle.beatlog.specs.Refusals.{Call, refusal, begin_refusal}
use Rattle.beatlog.specs.Calls.{View, State, OfBytes, page_after}
use Rattle.pages.specs.Calls.{refusal_by, size}
use Rattle.agreement.specs.Standing.{Account, entered}
use Rattle.agreement.proofs.Holds.{Holds, accepted}
use Rattle.agreement.proofs.Laws.{size_positive}
use Rattle.agreement.proofs.Images.{length_image}
use Rattle.agreement.proofs.Pages.{Room}
use Rattle.agreement.proofs.KeptLogs.{started}
use Rattle.protocol.specs.declared.command.NewLog.{NewLog}
use Rattle.protocol.specs.declared.command.LogCommand.{LogCommand}
use Rattle.protocol.specs.declared.command.LogCommand.TheVariants.{Append, Amend, Cut, Read, Show}
use Rattle.session.specs.Session.{mode_of_name, new_log, new_page, call_of, log_after}
use Rattle.session.specs.Transcripts.{Standing, new_standing, edited}
use Rattle.session.proofs.Published.{published_lawful}

pub whole_is : (b L : ℕ) → L % b ≡ 0 → L ≡ L / b * b
whole_is b L whole = omega (arith, whole, mod-eq-sub-div-mul L b, div-mul-le_self L b)

abbrev pub state_of : View → List ℕ → State
state_of v page = record { count = v.count; changes = v.changes; page = page }

-- on a page of L bytes, sealed as the accepted N said
pub record Keeps (v : View) (page : List ℕ) (t : Standing) : Type 0 where
  pub scheme : t.scheme ≡ v.scheme
  pub lawful : Lawful v.scheme
  pub L : ℕ
  pub whole : L % v.scheme.size ≡ 0
  pub few : L ≤ 2048 * v.scheme.size
  pub capacity : v.capacity ≡ L / v.scheme.size
  pub blocks : t.blocks ≡ v.capacity
  pub changes : ℕ
  pub holds : Holds v.scheme L (state_of v page) (record { readings = t.readings; changes = changes })

-- a log stands where an N was accepted; else no page
abbrev pub Kept : Option View → List ℕ → Option Standing → Type 0
Kept None page None = page ≡ []
Kept None page (Some t) = ⊥
Kept (Some v) page None = ⊥
Kept (Some v) page (Some t) = Keeps v page t

-- ---- a log and its page
entered_is : (a : Account) (b page : ℕ) (command : LogCommand) → (entered a (call_of b page command)).readings ≡ edited a.readings command
entered_is a b page (Append reading) = refl
entered_is a b page (Amend index reading) = refl
entered_is a b page (Cut count) = refl
entered_is a b page (Read index) = refl
entered_is a b page (Show index) = refl

module _ (v : View) (page : List ℕ) (t : Standing) (k : Keeps v page t) where
  abbrev pub account : Account
  account = record { readings = t.readings; changes = k.changes }

  pub room : Room v.scheme.size k.L t.readings
  room = record { whole = k.whole; few = k.few; fits = k.holds.fits; blocks = k.holds.blocks }

  pub long : length page ≡ k.L
  long = ap length k.holds.page ∙ length_image v.scheme k.lawful k.L t.readings k.holds.blocks k.holds.fits

  pub sized : k.L ≡ t.blocks * v.scheme.size
  sized = whole_is v.scheme.size k.L k.whole ∙ ap (λ m. m * v.scheme.size) (sym (k.blocks ∙ k.capacity))

  module _ (command : LogCommand) where
    abbrev call : Call
    call = call_of v.scheme.size (length page) command

    pub number_is : refusal v.scheme.size v.capacity v.count (length page) call ≡ refusal v.scheme.size (k.L / v.scheme.size) (length t.readings) k.L call
    number_is = rw (k.capacity, k.holds.count, long) refl

    pub kept_after : OfBytes call → refusal v.scheme.size v.capacity v.count (length page) call ≡ 0
        → Keeps (log_after v call) (page_after v.scheme v.count page call) (record { scheme = t.scheme; blocks = t.blocks; readings = edited t.readings command })
    kept_after bytes zero =
        let h = accepted v.scheme k.lawful k.L (state_of v page) account call k.holds bytes (sym number_is ∙ zero) in
        let after = entered account call in
        record {
          scheme = k.scheme;
          lawful = k.lawful;
          L = k.L;
          whole = k.whole;
          few = k.few;
          capacity = k.capacity;
          blocks = k.blocks;
          changes = after.changes;
          holds = subst (λ rs. Holds v.scheme k.L (state_of (log_after v call) (page_after v.scheme v.count page call)) (record { readings = rs; changes = after.changes }))
              (entered_is account v.scheme.size (length page) command) h;
        }

-- ---- a new log
key_taken : (x : Variant) (key : ℕ) (later : ℕ → ℕ) → refusal_by (Some x) key later ≡ 0 → (key ≡ key_length (parameters x)) × (later (size x) ≡ 0)
key_taken x key later e = (grind (arith, nat_tests), grind (arith, nat_tests))

pub kept_new : (o : Option Variant) (n : NewLog) → Bytes n.key → Bytes n.start
    → refusal_by o (length n.key) (λ b. begin_refusal b (length n.start) (n.blocks * b)) ≡ 0
    → Kept (new_log o n) (new_page o n) (option_map (new_standing n) o)
kept_new None n hk hs zero = absurd (omega arith)
kept_new (Some x) n hk hs zero =
    let s = (new_standing n x).scheme in
    let taken = key_taken x (length n.key) (λ b. begin_refusal b (length n.start) (n.blocks * b)) zero in
    let begun = started s.size (length n.start) (n.blocks * s.size) (sym taken.1) in
    let ok : Lawful s = published_lawful x (mode_of_name n.mode) n.key n.start (record { long = taken.0; bytes = hk }) (record { long = begun.long; bytes = hs }) in
    record {
      scheme = refl;
      lawful = ok;
      L = n.blocks * s.size;
      whole = begun.whole;
      few = begun.few;
      capacity = sym (mul-div_cancel n.blocks (size_positive s ok));
      blocks = refl;
      changes = 0;
      holds = record {
        count = refl;
        changes = refl;
        page = ap (λ k. replicate k 0) {x = n.blocks * s.size} {y = n.blocks * s.size - 0 * s.size} (omega (arith, zero-mul s.size));
        fits = omega (arith, zero-mul s.size);
        blocks = tt;
      };
    }
