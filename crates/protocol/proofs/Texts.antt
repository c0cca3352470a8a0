-- Fields of a text, and what its first ones are.
use Rattle.std.proofs.Common.{◌≡◌, ℕ, ◌+◌, ◌-◌, ◌<◌, ◌≤◌, ◌≢◌, true, false, List, [], ◌∷◌, length, get_or, take, drop, Some, None, refl, sym, ap, ◌∙◌, arith, position, length-drop, nat_lt, lt-ltb, le-ltb, eq-eqb, ne_eqb, inl, inr}
use Rattle.std.specs.List.{slice_split, onto_first, position_or_len}
use Rattle.std.proofs.lemmas.Bool.{cases_eq, cases_lt}
use Rattle.std.proofs.lemmas.Bool.Decides.{nat_tests}
use Rattle.std.proofs.lemmas.Option.{none-some, cond_some}
use borrow.Author.Tests.{ltb-true}
use Rattle.std.proofs.lemmas.List.{length-take-le, take_all}
use Rattle.std.proofs.lemmas.List.Splits.{length-slice_split, slice_split_first}
use Rattle.protocol.specs.Fields.{fields, is_tab, alone, letter_of, number_of, bytes_of, ◌>>=◌}
use Rattle.protocol.specs.Lines.{new_of, new_from, amend_of, of_letter, of_fields, append_of, cut_of, read_of, show_of, number_alone, command_of, FirstBytesSuffice}
use Rattle.protocol.specs.declared.command.LogCommand.TheVariants.{Amend}

-- ---- letters
pub letter_of_none : (field : List ℕ) → length field < 1 → letter_of field ≡ None
unfolding letter_of
letter_of_none [] h = refl
letter_of_none (c ∷ cs) h = absurd (omega arith)

pub letter_of_one : (field : List ℕ) → 1 ≤ length field → length field < 2 → letter_of field ≡ Some (get_or field 0 0)
unfolding letter_of
letter_of_one [] h j = absurd (omega arith)
letter_of_one (c ∷ []) h j = refl
letter_of_one (c ∷ d ∷ cs) h j = absurd (omega arith)

pub letter_of_more : (field : List ℕ) → 2 ≤ length field → letter_of field ≡ None
unfolding letter_of
letter_of_more [] h = refl
letter_of_more (c ∷ []) h = absurd (omega arith)
letter_of_more (c ∷ d ∷ cs) h = refl

pub ruleset letters = (letter_of_none, letter_of_one, letter_of_more)

-- the part of a list that a range or a pattern gives
pub past : (k : ℕ) (xs : List ℕ) → take (length xs - k) (drop k xs) ≡ drop k xs
past k xs = take_all (length xs - k) (drop k xs) (omega (arith, length-drop k xs))

-- ---- a text at its first tab
no_tab : (text : List ℕ) → length text ≤ position_or_len is_tab text → slice_split is_tab text ≡ text ∷ []
no_tab [] h = refl
no_tab (c ∷ cs) h =
    elim (cases_eq c 9) [
      | inl e ↦ let t : is_tab c ≡ true = eq-eqb c 9 e in absurd (omega (arith, rw t at h))
      | inr n ↦ let t : is_tab c ≡ false = ne_eqb c 9 n in rw (t, no_tab cs (omega (arith, rw t at h)))
    ]

pub fields_whole : (text : List ℕ) → position is_tab text ≡ None → fields text ≡ text ∷ []
unfolding fields
fields_whole text e =
    elim (cases_lt (position_or_len is_tab text) (length text)) [
      | inl h ↦ let t : nat_lt (position_or_len is_tab text) (length text) ≡ true = lt-ltb _ _ h in absurd (none-some (position_or_len is_tab text) (sym e ∙ rw t))
      | inr h ↦ no_tab text h
    ]

pub fields_first : (text : List ℕ) (k : ℕ) → position is_tab text ≡ Some k → fields text ≡ take k text ∷ fields (take (length text - (k + 1)) (drop (k + 1) text))
unfolding fields
fields_first text k e =
    let found = cond_some (nat_lt (position_or_len is_tab text) (length text)) (position_or_len is_tab text) k e in
    rw (past, ← found.1) (slice_split_first is_tab text 0 (ltb-true _ _ found.0))

pub ruleset splits = (fields_whole, fields_first)

-- ---- the last field
alone_long : (fs : List (List ℕ)) → 2 ≤ length fs → alone fs ≡ None
unfolding alone
alone_long [] h = refl
alone_long (f ∷ []) h = absurd (omega arith)
alone_long (f ∷ g ∷ fs) h = refl

pub alone_more : (text first after : List ℕ) → fields text ≡ first ∷ fields after → alone (fields text) ≡ None
unfolding fields
alone_more text first after e = alone_long (fields text) (omega (arith, ap length e, length-slice_split is_tab after))

pub alone_whole : (text : List ℕ) → fields text ≡ text ∷ [] → alone (fields text) ≡ Some text
unfolding alone
alone_whole text e = rw e

pub ruleset last_fields = (alone_more, alone_whole)

pub new_of_last : (v e m b k : List ℕ) (fs : List (List ℕ)) → new_of (v ∷ e ∷ m ∷ b ∷ k ∷ fs) ≡ (alone fs >>= new_from v e m b k)
unfolding new_of alone
new_of_last v e m b k [] = refl
new_of_last v e m b k (s ∷ []) = refl
new_of_last v e m b k (s ∷ t ∷ fs) = refl

pub amend_of_last : (index : List ℕ) (fs : List (List ℕ))
    → amend_of (index ∷ fs) ≡ (alone fs >>= λ reading. number_of index >>= λ i. bytes_of reading >>= λ r. Some (Amend i r))
unfolding amend_of alone
amend_of_last index [] = refl
amend_of_last index (s ∷ []) = refl
amend_of_last index (s ∷ t ∷ fs) = refl

-- ---- a line: its letter and what follows
no_fields : (c : ℕ) → of_letter c [] ≡ None
unfolding new_of append_of amend_of cut_of read_of show_of number_alone alone
no_fields c = grind (arith, nat_tests)

line_with_tab : (c : ℕ) (rest : List ℕ) → 1 ≤ length rest → get_or rest 0 0 ≡ 9 → of_fields (fields (c ∷ rest)) ≡ of_letter c (fields (drop 1 rest))
unfolding of_fields fields
line_with_tab c [] h e = absurd (omega arith)
line_with_tab c (d ∷ cs) h e =
    let t : is_tab d ≡ true = eq-eqb d 9 e in
    elim (cases_eq c 9) [
      | inl f ↦ rw f
      | inr n ↦ let u : is_tab c ≡ false = ne_eqb c 9 n in rw (t, u)
    ]

line_of_letter : (c : ℕ) (rest : List ℕ) → length rest < 1 → of_fields (fields (c ∷ rest)) ≡ None
unfolding of_fields fields
line_of_letter c [] h =
    elim (cases_eq c 9) [
      | inl f ↦ rw f
      | inr n ↦ let u : is_tab c ≡ false = ne_eqb c 9 n in rw u (no_fields c)
    ]
line_of_letter c (d ∷ cs) h = absurd (omega arith)

-- a first field of two bytes or more, or of none
of_word : (c d : ℕ) (fs : List (List ℕ)) → of_fields (onto_first c (onto_first d fs)) ≡ None
unfolding of_fields
of_word c d [] = refl
of_word c d (f ∷ fs) = refl

line_of_word : (c : ℕ) (rest : List ℕ) → 1 ≤ length rest → get_or rest 0 0 ≢ 9 → of_fields (fields (c ∷ rest)) ≡ None
unfolding of_fields fields
line_of_word c [] h e = absurd (omega arith)
line_of_word c (d ∷ cs) h e =
    let t : is_tab d ≡ false = ne_eqb d 9 e in
    elim (cases_eq c 9) [
      | inl f ↦ rw f
      | inr n ↦ let u : is_tab c ≡ false = ne_eqb c 9 n in rw (t, u) (of_word c d (slice_split is_tab cs))
    ]

-- ---- the whole line
pub long_line : (line : List ℕ) → 200 < length line → command_of line ≡ None
unfolding command_of
long_line line h = rw (lt-ltb 200 (length line) h)

short_line : (line : List ℕ) → length line ≤ 200 → command_of line ≡ of_fields (fields line)
unfolding command_of
short_line line h = rw (le-ltb 200 (length line) h)

pub empty_line : (line : List ℕ) → length line < 1 → command_of line ≡ None
unfolding of_fields fields
empty_line [] h = short_line [] (omega arith)
empty_line (c ∷ cs) h = absurd (omega arith)

-- the rest that a pattern gives behind a first byte
abbrev pub behind : List ℕ → List ℕ
behind xs = take (length xs - 1) (drop 1 xs)

pub letter_line : (line : List ℕ) → 1 ≤ length line → length line ≤ 200 → length (behind line) < 1 → command_of line ≡ None
letter_line [] h k t = absurd (omega arith)
letter_line (c ∷ cs) h k t = short_line (c ∷ cs) k ∙ line_of_letter c cs (rw past at t)

pub word_line : (line : List ℕ) → 1 ≤ length line → length line ≤ 200 → 1 ≤ length (behind line) → get_or (behind line) 0 0 ≢ 9 → command_of line ≡ None
word_line [] h k t e = absurd (omega arith)
word_line (c ∷ cs) h k t e = short_line (c ∷ cs) k ∙ line_of_word c cs (rw past at t) (rw past at e)

pub line_by_letter : (line : List ℕ) → 1 ≤ length line → length line ≤ 200 → 1 ≤ length (behind line) → get_or (behind line) 0 0 ≡ 9
    → command_of line ≡ of_letter (get_or line 0 0) (fields (behind (behind line)))
line_by_letter [] h k t e = absurd (omega arith)
line_by_letter (c ∷ cs) h k t e = short_line (c ∷ cs) k ∙ rw (past 1 (c ∷ cs), past 1 cs) (line_with_tab c cs (rw past at t) (rw past at e))

pub ruleset lines = (long_line, empty_line, letter_line, word_line, line_by_letter)

pub first_bytes_suffice : FirstBytesSuffice
first_bytes_suffice line =
    elim (cases_lt 200 (length line)) [
      | inl h ↦ long_line (take 201 line) (omega (arith, length-take-le 201 line (omega arith))) ∙ sym (long_line line h)
      | inr h ↦ ap command_of (take_all 201 line (omega arith))
    ]
