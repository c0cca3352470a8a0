-- What N leaves, by what filling the engine and beginning the log promise.
use Rattle.std.proofs.Common.{◌≡◌, ℕ, ◌*◌, ◌/◌, ◌<◌, ◌≤◌, min, Option, None, Some, List, length, replicate, IfSome, ◌⊎◌, ◌≢◌, ◌%◌, ◌==◌, not, true, lt-ltb, inl, inr, refl, sym, ap, subst, ◌∙◌, arith}
use Rattle.std.proofs.Math.Nat.{mul-div_cancel}
use Rattle.std.proofs.Math.Bool.{or-true}
use Rattle.std.proofs.lemmas.Bool.{cases_lt}
use Rattle.std.proofs.lemmas.Nat.{mul-le}
use Rattle.std.proofs.lemmas.Bool.Decides.{nat_tests}
use Rattle.ublock.specs.Cipher.{D, E}
use Rattle.ublock.specs.Variants.{numbered, parameters}
use Rattle.ublock.specs.declared.variant.Variant.{Variant}
use Rattle.cipher.specs.Keys.{MeansCipher, fill_number, fill_number_of}
use Rattle.modes.specs.StandardModes.{standard_first}
use Rattle.modes.specs.declared.standard.StandardMode.{StandardMode}
use Rattle.beatlog.specs.Calls.{View, Begun}
use Rattle.beatlog.specs.Refusals.{bad_page, begin_refusal}
use Rattle.pages.proofs.Numbers.{filled_number, filled_size}
use Rattle.pages.specs.Calls.{refusal_by, size}
use Rattle.protocol.specs.declared.command.NewLog.{NewLog}
use Rattle.session.specs.Session.{mode_of_name, new_log, new_number, new_page}

pub some_block : {b : ℕ} → (b ≡ 16) ⊎ (b ≡ 32) → 0 < b
some_block (inl e) = omega (arith, e)
some_block (inr e) = omega (arith, e)

-- a page that begin takes is as long as it was asked for
few : (b L start : ℕ) → 0 ≡ begin_refusal b start L → L ≤ 2048 * b
few b L start h = grind (arith, nat_tests)

asked : (b n L start : ℕ) → 0 < b → 0 ≡ begin_refusal b start L → L ≡ min n 2049 * b → L ≡ n * b
asked b n L start some h e = elim (cases_lt 2048 n) [
  | inl lt ↦
      let most : min n 2049 ≡ 2049 = omega arith in
      absurd (omega (arith, few b L start h, e ∙ ap (λ k. k * b) most))
  | inr le ↦
      let all : min n 2049 ≡ n = omega arith in
      e ∙ ap (λ k. k * b) all
]

pub view_of_new : (n : NewLog) (b : ℕ) (enc dec : List ℕ → List ℕ) (key start : List ℕ) (mode : StandardMode)
    → key ≡ n.key → start ≡ n.start → mode ≡ mode_of_name n.mode → 0 < b → 0 ≡ fill_number b n.variant (length key) → MeansCipher n.variant key enc dec
    → (page page' : List ℕ) → length page ≡ min n.blocks 2049 * b → (w : View)
    → Begun (record { size = b; enc = enc; dec = dec; first = standard_first mode; last = λ v i before. replicate (length v) 0; start = start }) page page' (record { value = Some w; number = 0 })
    → Some w ≡ new_log (numbered n.variant) n
view_of_new n b enc dec key start mode is_key is_start is_mode some filled means page page' long w begun = by (numbered n.variant) refl where
  by : (o : Option Variant) → numbered n.variant ≡ o → Some w ≡ new_log o n
  by None e = absurd (omega (arith, subst (λ o. 0 ≡ fill_number_of b o (length key)) e filled))
  by (Some v) e =
      let long_blocks = sym (filled_size b v (length key) (subst (λ o. 0 ≡ fill_number_of b o (length key)) e filled)) in
      let capacity = ap (λ k. k / b) (asked b n.blocks (length page) (length start) some begun.number long) ∙ mul-div_cancel n.blocks some in
      begun.value
      ∙ λ i. Some (record {
        scheme = record {
          size = long_blocks i;
          enc = λ x. ((means v e x).0 ∙ ap (λ k. E (parameters v) k x) is_key) i;
          dec = λ x. ((means v e x).1 ∙ ap (λ k. D (parameters v) k x) is_key) i;
          first = standard_first (is_mode i);
          last = λ v i before. replicate (length v) 0;
          start = is_start i;
        };
        capacity = capacity i;
        count = 0;
        changes = 0;
      })

pub page_of_new : (n : NewLog) (b : ℕ) → 0 < b → 0 ≡ fill_number b n.variant (length n.key) → (page : List ℕ) → length page ≡ min n.blocks 2049 * b
    → 0 ≡ begin_refusal b (length n.start) (length page) → replicate (length page) 0 ≡ new_page (numbered n.variant) n
page_of_new n b some filled page long begun = by (numbered n.variant) refl where
  by : (o : Option Variant) → numbered n.variant ≡ o → replicate (length page) 0 ≡ new_page o n
  by None e = absurd (omega (arith, subst (λ o. 0 ≡ fill_number_of b o (length n.key)) e filled))
  by (Some v) e =
      let long_blocks = filled_size b v (length n.key) (subst (λ o. 0 ≡ fill_number_of b o (length n.key)) e filled) in
      ap (λ k. replicate k 0) (asked b n.blocks (length page) (length n.start) some begun long ∙ ap (λ k. n.blocks * k) (sym long_blocks))

-- ---- the number
-- over 2,048 blocks, all pages are refused alike
bad_long : (b L : ℕ) → 2048 * b < L → bad_page b L ≡ true
bad_long b L lt = rw (lt-ltb (2048 * b) L lt) (or-true (not (L % b == 0)))

refused_alike : (b n start : ℕ) → 0 < b → begin_refusal b start (min n 2049 * b) ≡ begin_refusal b start (n * b)
refused_alike b n start some = elim (cases_lt 2048 n) [
  | inl lt ↦
      let most : min n 2049 ≡ 2049 = omega arith in
      let short = bad_long b (min n 2049 * b) (omega (arith, ap (λ k. k * b) most)) in
      let long = bad_long b (n * b) (omega (arith, mul-le 2049 b n b lt (omega arith))) in
      rw (short, long) refl
  | inr le ↦
      let all : min n 2049 ≡ n = omega arith in
      ap (λ k. begin_refusal b start (k * b)) all
]

pub number_of_new : (n : NewLog) (b : ℕ) → 0 < b → 0 ≡ fill_number b n.variant (length n.key) → (page : List ℕ) → length page ≡ min n.blocks 2049 * b
    → begin_refusal b (length n.start) (length page) ≡ new_number n
number_of_new n b some filled page long =
    ap (begin_refusal b (length n.start)) long ∙ refused_alike b n.blocks (length n.start) some
    ∙ sym (filled_number b (numbered n.variant) (length n.key) (λ k. begin_refusal k (length n.start) (n.blocks * k)) filled)

unfilled : (b : ℕ) (o : Option Variant) (k : ℕ) (later : ℕ → ℕ) → IfSome o (λ v. size v ≡ b) → fill_number_of b o k ≢ 0 → fill_number_of b o k ≡ refusal_by o k later
unfilled b None k later fits h = refl
unfilled b (Some v) k later fits h = grind (arith, nat_tests)

pub number_of_unfilled : (n : NewLog) (b : ℕ) → IfSome (numbered n.variant) (λ v. size v ≡ b) → fill_number b n.variant (length n.key) ≢ 0 → fill_number b n.variant (length n.key) ≡ new_number n
number_of_unfilled n b fits h = unfilled b (numbered n.variant) (length n.key) (λ k. begin_refusal k (length n.start) (n.blocks * k)) fits h

pub ruleset begins = (page_of_new, number_of_new, number_of_unfilled)
