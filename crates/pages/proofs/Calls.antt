-- What a filled engine seals and opens, by the equations.
use Rattle.std.proofs.Common.{◌≡◌, ℕ, ◌+◌, ◌-◌, ◌*◌, ◌/◌, ◌%◌, ◌≤◌, List, ◌++◌, length, drop, replicate, Some, refl, sym, ap, subst, ◌∙◌, arith, length-append}
use Rattle.std.proofs.Math.Nat.{div-add-mod}
use Rattle.std.proofs.lemmas.Bool.{eq-eqb, ne_eqb}
use Rattle.std.proofs.lemmas.List.{drop_at, length-replicate}
use Rattle.std.proofs.lemmas.Nat.{mul-le}
use Rattle.ublock.specs.Cipher.{E, D}
use Rattle.ublock.specs.Parts.{part}
use Rattle.ublock.specs.Variants.{parameters, numbered}
use Rattle.ublock.specs.declared.variant.Variant.{Variant}
use Rattle.cipher.specs.Engines.{Answer}
use Rattle.cipher.specs.Keys.{fill_number, fill_number_of, MeansCipher}
use Rattle.modes.specs.Sealing.{seal_block, open_block, sealed, opened, joined, blocks, previous}
use Rattle.beatlog.specs.Pages.{Sealed, Opened}
use Rattle.beatlog.specs.Refusals.{seal_refusal, open_refusal}
use Rattle.pages.specs.Calls.{Terms, Decrypted, Holds, SealedPage, OpenedPage, size}
use Rattle.pages.proofs.Equations.{standard, encrypted, decrypted}
use Rattle.pages.proofs.Numbers.{filled_number, filled_size, seal_accepted, open_accepted}
use Rattle.pages.proofs.SchemeParts.{sealed_part, length_sealed_row, opened_part, length_opened_row}

whole_blocks : (b m : ℕ) → m % b ≡ 0 → m ≡ m / b * b
whole_blocks b m e = omega (arith, div-add-mod m b)

pub few_blocks : (b n m : ℕ) → m % b ≡ 0 → n ≤ m / b → n * b ≤ m
few_blocks b n m e le = omega (arith, mul-le n b (m / b) b le (omega arith), whole_blocks b m e)

module _ (t : Terms) (b : ℕ) (enc dec : List ℕ → List ℕ) (filled : 0 ≡ fill_number b t.variant (length t.key)) (means : MeansCipher t.variant t.key enc dec) where
  size_is : (v : Variant) → numbered t.variant ≡ Some v → size v ≡ b
  size_is v is = filled_size b v (length t.key) (subst (λ o. 0 ≡ fill_number_of b o (length t.key)) is filled)

  -- a page that is sealed with such an engine
  module _ (keeps : (x : List ℕ) → length x ≡ b → length (enc x) ≡ b) (readings page after : List ℕ) (answer : Answer ℕ) (call : Sealed (standard t.mode b enc dec t.start) readings page after answer) where
    holds : answer.number ≡ 0 → (v : Variant) → numbered t.variant ≡ Some v
        → (length after ≡ length page) × Holds t.mode (E (parameters v) t.key) b (length readings / b) t.start readings after
    holds is v named =
        let n = length readings / b in
        let s = standard t.mode b enc dec t.start in
        let fine = seal_accepted b (length t.start) (length readings) (length page) (sym call.number ∙ is) in
        let whole : length readings ≡ n * b = whole_blocks b (length readings) fine.1 in
        let room : n * b ≤ length readings = omega arith in
        let row = joined (sealed s 0 t.start (blocks b n readings)) in
        let rest : List ℕ = replicate (length page - length readings) 0 in
        let lr : length row ≡ n * b = length_sealed_row s keeps n 0 t.start readings room in
        let made : after ≡ row ++ rest = call.leaves ∙ rw (eq-eqb answer.number 0 is) refl in
        let long : length after ≡ length page = ap length made ∙ length-append row rest ∙ omega (arith, length-replicate {A = ℕ} (length page - length readings) 0, fine.2) in (
          long,
          record {
            whole = whole;
            blocks = encrypted b n enc dec (E (parameters v) t.key) (D (parameters v) t.key) (means v named) t.start readings after t.mode
                (λ j lt. subst (λ p. part b j p ≡ seal_block s j (previous b t.start j p) (part b j readings)) (sym made)
                (sealed_part s keeps j n 0 t.start readings rest lt room ∙ ap (λ k. seal_block s k (previous b t.start j (row ++ rest)) (part b j readings)) {x = 0 + j} {y = j} (omega arith)));
            zeros = ap (drop (n * b)) made ∙ drop_at row rest (n * b) lr ∙ ap (λ k. replicate k 0) {x = length page - length readings} {y = length after - n * b} (omega arith);
          },
        )

    pub sealed_page : SealedPage t readings page after answer
    sealed_page = record {
      number = call.number ∙ sym (filled_number b (numbered t.variant) (length t.key) (λ k. seal_refusal k (length t.start) (length readings) (length page)) filled);
      refused = λ is. (call.value ∙ rw (ne_eqb answer.number 0 is) refl, call.leaves ∙ rw (ne_eqb answer.number 0 is) refl);
      accepted = λ is v named. let e : b ≡ size v = sym (size_is v named) in let h = holds is v named in record {
        value = call.value ∙ rw (eq-eqb answer.number 0 is) refl ∙ ap (λ k. Some (length readings / k)) e;
        long = h.0;
        holds = subst (λ k. Holds t.mode (E (parameters v) t.key) k (length readings / k) t.start readings after) e h.1;
      };
    }

  -- a page that is opened with such an engine
  module _ (keeps : (x : List ℕ) → length x ≡ b → length (dec x) ≡ b) (page : List ℕ) (n : ℕ) (place after : List ℕ) (answer : Answer ℕ) (call : Opened (standard t.mode b enc dec t.start) page n place after answer) where
    reads : answer.number ≡ 0 → (v : Variant) → numbered t.variant ≡ Some v → (length after ≡ n * b) × Decrypted t.mode (D (parameters v) t.key) b n t.start page after
    reads is v named =
        let s = standard t.mode b enc dec t.start in
        let fine = open_accepted b (length t.start) (length page) n (length place) (sym call.number ∙ is) in
        let room : n * b ≤ length page = few_blocks b n (length page) fine.2 fine.3 in
        let made : after ≡ joined (opened s 0 t.start (blocks b n page)) = call.leaves ∙ rw (eq-eqb answer.number 0 is) refl in (
          ap length made ∙ length_opened_row s keeps n 0 t.start page room,
          decrypted b n enc dec (E (parameters v) t.key) (D (parameters v) t.key) (means v named) t.start after page t.mode
              (λ j lt. ap (part b j) made ∙ opened_part s keeps j n 0 t.start page lt room ∙ ap (λ k. open_block s k (previous b t.start j page) (part b j page)) {x = 0 + j} {y = j} (omega arith)),
        )

    pub opened_page : OpenedPage t page n place after answer
    opened_page = record {
      number = call.number ∙ sym (filled_number b (numbered t.variant) (length t.key) (λ k. open_refusal k (length t.start) (length page) n (length place)) filled);
      refused = λ is. (call.value ∙ rw (ne_eqb answer.number 0 is) refl, call.leaves ∙ rw (ne_eqb answer.number 0 is) refl);
      accepted = λ is v named. let e : b ≡ size v = sym (size_is v named) in let h = reads is v named in record {
        value = call.value ∙ rw (eq-eqb answer.number 0 is) refl;
        long = h.0 ∙ ap (λ k. n * k) e;
        blocks = subst (λ k. Decrypted t.mode (D (parameters v) t.key) k n t.start page after) e h.1;
      };
    }
