-- An engine whose rows hold the key register, step by step, means the cipher under that key.
use Rattle.std.specs.Prelude.{◌≡◌, ◌≢◌, ℕ, zero, suc, ◌+◌, ◌<◌, ◌≤◌, List, [], length, map, take, Some, slice_index_or, slice_set, refl}
use Rattle.std.proofs.Common.{sym, ap, subst, ◌∙◌, arith, eq-eqb, below_more}
use Rattle.std.proofs.lemmas.List.{take-take, length-map, map-set, get_or-set_same, get_or-set_other}
use Rattle.ublock.specs.Cipher.{Layout, Parameters, register, encipher, decipher, rounds, inverse_rounds, round, inverse_round, xor, RK, E, D, block_length, key_length}
use Rattle.ublock.specs.Variants.{parameters, numbered}
use Rattle.ublock.specs.declared.variant.Variant.{Variant}
use Rattle.ublock.proofs.VariantFacts.{bounded}
use Rattle.schedule.specs.Registers.{padded}
use Rattle.schedule.specs.Rows.{HoldRegisters, row_at}
use Rattle.schedule.specs.declared.row.Row.{Row}
use Rattle.schedule.proofs.Padding.{padded_front, length-padded}
use Rattle.schedule.proofs.KeyRows.{register_front}
use Rattle.cipher.specs.Keys.{fill_number, fill_number_of, MeansCipher}

-- ---- round keys that agree up to the last make one cipher
rounds_agree : (l : Layout) (rk rk' : ℕ → List ℕ) (r : ℕ) → ((j : ℕ) → j < r → rk j ≡ rk' j) → (x : List ℕ) → rounds l rk r x ≡ rounds l rk' r x
rounds_agree l rk rk' zero e x = refl
rounds_agree l rk rk' (suc r) e x =
    ap (λ k. round l k (rounds l rk r x)) (e r (omega arith)) ∙ ap (round l (rk' r)) (rounds_agree l rk rk' r (λ j h. e j (omega arith)) x)

inverse_rounds_agree : (l : Layout) (rk rk' : ℕ → List ℕ) (r : ℕ) → ((j : ℕ) → j < r → rk j ≡ rk' j) → (y : List ℕ) → inverse_rounds l rk r y ≡ inverse_rounds l rk' r y
inverse_rounds_agree l rk rk' zero e y = refl
inverse_rounds_agree l rk rk' (suc r) e y =
    ap (λ k. inverse_rounds l rk r (inverse_round l k y)) (e r (omega arith)) ∙ inverse_rounds_agree l rk rk' r (λ j h. e j (omega arith)) (inverse_round l (rk' r) y)

pub encipher_agree : (l : Layout) (rk rk' : ℕ → List ℕ) (r : ℕ) → ((j : ℕ) → j ≤ r → rk j ≡ rk' j) → (x : List ℕ) → encipher l rk r x ≡ encipher l rk' r x
encipher_agree l rk rk' r e x =
    ap (λ z. xor z (rk r)) (rounds_agree l rk rk' r (λ j h. e j (omega arith)) x) ∙ ap (xor (rounds l rk' r x)) (e r (omega arith))

pub decipher_agree : (l : Layout) (rk rk' : ℕ → List ℕ) (r : ℕ) → ((j : ℕ) → j ≤ r → rk j ≡ rk' j) → (y : List ℕ) → decipher l rk r y ≡ decipher l rk' r y
decipher_agree l rk rk' r e y =
    inverse_rounds_agree l rk rk' r (λ j h. e j (omega arith)) (xor y (rk r)) ∙ ap (λ k. inverse_rounds l rk' r (xor y k)) (e r (omega arith))

-- ---- one more row that is kept
pub kept_more : {R : Type 0} (bytes : R → List ℕ) (f : ℕ → List ℕ) (rows : List R) (i : ℕ) (row : R) → i < length rows → bytes row ≡ f i
    → ((j : ℕ) → j < i → slice_index_or (map bytes rows) j [] ≡ f j) → (j : ℕ) → j < i + 1 → slice_index_or (map bytes (slice_set rows i row)) j [] ≡ f j
kept_more bytes f rows i row h e old =
    let long : i < length (map bytes rows) = omega (arith, length-map rows bytes) in
    below_more _ _
    (λ j g. let ne : j ≢ i = omega arith in rw (map-set bytes rows i row, get_or-set_other) (old j g))
    (rw (map-set bytes rows i row, get_or-set_same) e)

pub kept_other : {R : Type 0} (bytes : R → List ℕ) (rows : List R) (i k : ℕ) (row : R) → k ≢ i
    → slice_index_or (map bytes (slice_set rows i row)) k [] ≡ slice_index_or (map bytes rows) k []
kept_other bytes rows i k row ne = rw (map-set bytes rows i row, get_or-set_other) refl

-- ---- what rows of registers mean
-- the key's part of row j is the register of the key after j steps
abbrev HoldKey : Parameters → List ℕ → (ℕ → List ℕ) → Type 0
HoldKey p key row = (j : ℕ) → j ≤ p.round_count → take (key_length p) (row j) ≡ register p key j

key_of_row : (l : Layout) (v : Variant) (key : List ℕ) (row : ℕ → List ℕ) → (parameters v).layout ≡ l → HoldKey (parameters v) key row
    → (j : ℕ) → j ≤ (parameters v).round_count → take (block_length l) (row j) ≡ RK (parameters v) key j
key_of_row l v key row same held j h =
    let p = parameters v in
    ap (λ k. take (block_length k) (row j)) (sym same) ∙ sym (take-take (block_length p.layout) (key_length p) (row j) (bounded v).block_fits)
    ∙ ap (take (block_length p.layout)) (held j h)

pub means : (l : Layout) (v : Variant) (key : List ℕ) (rk : ℕ → List ℕ) → (parameters v).layout ≡ l → ((j : ℕ) → j ≤ (parameters v).round_count → rk j ≡ RK (parameters v) key j)
    → (x : List ℕ) → (encipher l rk (parameters v).round_count x ≡ E (parameters v) key x) × (decipher l rk (parameters v).round_count x ≡ D (parameters v) key x)
means l v key rk same agree x =
    let p = parameters v in (
      encipher_agree l rk (RK p key) p.round_count agree x ∙ ap (λ k. encipher k (RK p key) p.round_count x) (sym same),
      decipher_agree l rk (RK p key) p.round_count agree x ∙ ap (λ k. decipher k (RK p key) p.round_count x) (sym same),
    )

-- ---- an engine that is filled
pub filled_number : (b n : ℕ) (v : Variant) (key : List ℕ) → numbered n ≡ Some v → block_length (parameters v).layout ≡ b → length key ≡ key_length (parameters v)
    → 0 ≡ fill_number b n (length key)
filled_number b n v key e f h =
    let s = eq-eqb (block_length (parameters v).layout) b f in
    let t = eq-eqb (length key) (key_length (parameters v)) h in
    sym (ap (λ o. fill_number_of b o (length key)) e ∙ rw (s, t))

-- the rows are of the key, where they started from it
held_by_key : (v w : Variant) (key bytes : List ℕ) (rows : List Row) (row : ℕ → List ℕ) → length key ≡ key_length (parameters v) → w ≡ v → bytes ≡ padded key
    → HoldRegisters (parameters w) bytes 25 rows → ((j : ℕ) → j < 25 → row j ≡ row_at rows j) → HoldKey (parameters v) key row
held_by_key v w key bytes rows row long is eb held kept j h =
    let p = parameters v in
    let held_v = subst (λ z. HoldRegisters (parameters z) bytes 25 rows) is held in
    let whole = ap length eb ∙ length-padded key (omega (arith, long, (bounded v).key_fits)) in
    ap (take (key_length p)) (kept j (omega (arith, (bounded v).few_rounds)) ∙ held_v.steps j h) ∙ register_front v bytes whole j
    ∙ ap (λ k. register p k j) (ap (take (key_length p)) eb ∙ padded_front key (key_length p) long)

module _ (l : Layout) (n : ℕ) (v w : Variant) (key bytes : List ℕ) (rows : List Row) (row : ℕ → List ℕ) (e : numbered n ≡ Some v) (same : (parameters v).layout ≡ l)
    (long : length key ≡ key_length (parameters v)) (is : w ≡ v) (eb : bytes ≡ padded key)
    (held : HoldRegisters (parameters w) bytes 25 rows) (kept : (j : ℕ) → j < 25 → row j ≡ row_at rows j) where
  filled_round_keys : (j : ℕ) → j ≤ (parameters v).round_count → take (block_length l) (row j) ≡ RK (parameters v) key j
  filled_round_keys = key_of_row l v key row same (held_by_key v w key bytes rows row long is eb held kept)

  pub filled_means : MeansCipher n key (encipher l (λ j. take (block_length l) (row j)) (parameters v).round_count) (decipher l (λ j. take (block_length l) (row j)) (parameters v).round_count)
  filled_means u f x =
      let is_v : v ≡ u = cc in
      let m = means l v key (λ j. take (block_length l) (row j)) same filled_round_keys x in
      (m.0 ∙ ap (λ z. E (parameters z) key x) is_v, m.1 ∙ ap (λ z. D (parameters z) key x) is_v)

  pub filled_keys : (u : Variant) → numbered n ≡ Some u → (v ≡ u) × ((j : ℕ) → j ≤ (parameters u).round_count → take (block_length l) (row j) ≡ RK (parameters u) key j)
  filled_keys u f =
      let is_v : v ≡ u = cc in
      subst (λ z. (v ≡ z) × ((j : ℕ) → j ≤ (parameters z).round_count → take (block_length l) (row j) ≡ RK (parameters z) key j)) is_v (refl, filled_round_keys)
