-- A chunk taken, and the lines ahead.
use Rattle.std.proofs.Common.{◌≡◌, ℕ, zero, suc, ◌+◌, ◌-◌, ◌<◌, ◌≤◌, true, false, eqb, ltb, cond, Bool, ◌&&◌, List, [], ◌∷◌, ◌++◌, length, take, get_or, Some, None, refl, sym, ap, ◌∙◌, append_assoc, add-one, sub-one, arith}
use Rattle.std.specs.List.{position, position_or_len}
use Rattle.std.proofs.Math.Nat.{sub-zero, zero-sub, suc-sub-suc}
use Rattle.std.proofs.lemmas.Bool.Decides.{nat_tests}
use Rattle.std.proofs.lemmas.List.{append-nil, get_or-take, length-take, take_all}
use Rattle.std.proofs.lemmas.List.Elements.{All-append, All-take}
use Rattle.std.proofs.lemmas.List.Quantifiers.{position-Some}
use Rattle.std.proofs.lemmas.List.Sums.{fails_before_first}
use Rattle.lines.specs.Lines.{HasNoFeed, HasRead, Reading, after, first_lines, has_last, line_end, lines_ahead, lines_of, split_lines}
use Rattle.lines.proofs.Cuts.{lines_front, split_feed, split_last}

take_both : (b : ℕ) (xs ys : List ℕ) → take b (xs ++ ys) ≡ take b xs ++ take (b - length xs) ys
take_both zero xs ys = rw zero-sub
take_both (suc b) [] ys = rw sub-zero
take_both (suc b) (x ∷ xs) ys = rw suc-sub-suc (ap (λ t. x ∷ t) (take_both b xs ys))

-- the bytes up to the line feed at index i, which is among the first b bytes, and what may follow
take_cut : (b i : ℕ) (xs ys : List ℕ) → i < length xs → i < b → get_or xs i 0 ≡ 10 → take b (take (suc i) xs ++ ys) ≡ take i xs ++ (10 ∷ take (b - suc i) ys)
take_cut zero i xs ys h k e = absurd (omega arith)
take_cut (suc b) i [] ys h k e = absurd (omega arith)
take_cut (suc b) zero (x ∷ xs) ys h k e = rw (e, suc-sub-suc, sub-zero)
take_cut (suc b) (suc i) (x ∷ xs) ys h k e = rw suc-sub-suc (ap (λ t. x ∷ t) (take_cut b i xs ys (omega arith) (omega arith) e))

no_feed : (xs : List ℕ) → position (λ x. eqb x 10) xs ≡ None → HasNoFeed xs
no_feed xs e k d h = fails_before_first (λ x. eqb x 10) xs k d (let n : length xs ≤ position_or_len (λ x. eqb x 10) xs = grind (arith, nat_tests) in omega arith)

-- what is held after a chunk with no line feed has none
pub no_feed_held : (w : ℕ) (h xs : List ℕ) → HasNoFeed h → position (λ x. eqb x 10) xs ≡ None → HasNoFeed (take w (h ++ xs))
no_feed_held w h xs u e = All-take (λ y. eqb y 10 ≡ false) w (h ++ xs) (All-append (λ y. eqb y 10 ≡ false) h xs u (no_feed xs e))

no_feed_before : (xs : List ℕ) (b i : ℕ) → position (λ x. eqb x 10) (take b xs) ≡ Some i → (i < length xs) × (i < b) × (get_or xs i 0 ≡ 10) × HasNoFeed (take i xs)
no_feed_before xs b i e =
    let f = λ (x : ℕ). eqb x 10 in
    let at = position-Some f (take b xs) i 0 e in
    let long = length-take b xs in
    let in_b : i < b = omega arith in (
      omega arith,
      in_b,
      grind (arith, nat_tests, get_or-take b xs i 0 in_b),
      λ k d h.
          let k_in : k < i = omega (arith, length-take i xs) in
          let k_b : k < b = omega arith in
          ap f (get_or-take i xs k d k_in ∙ sym (get_or-take b xs k d k_b)) ∙ (position-Some f (take b xs) i d e).2 k k_in,
    )

-- ---- of a reading whose unfinished line is h, with n lines and b bytes left
none_step : (n b : ℕ) (h xs ys : List ℕ) → HasNoFeed h → position (λ x. eqb x 10) (take b xs) ≡ None
    → first_lines n (split_lines (h ++ take b (xs ++ ys))) ≡ first_lines n (split_lines (take 201 (h ++ take b xs) ++ take (b - length xs) ys))
none_step n b h xs ys u e =
    let all : HasNoFeed (h ++ take b xs) = All-append (λ y. eqb y 10 ≡ false) h (take b xs) u (no_feed (take b xs) e) in
    ap (λ t. first_lines n (split_lines t)) (ap (λ t. h ++ t) (take_both b xs ys) ∙ sym (append_assoc h (take b xs) (take (b - length xs) ys)))
    ∙ sym (lines_front n (h ++ take b xs) (take (b - length xs) ys) all (All-take (λ y. eqb y 10 ≡ false) 201 (h ++ take b xs) all))

some_step : (n b i : ℕ) (h xs ys : List ℕ) → HasNoFeed h → position (λ x. eqb x 10) (take b xs) ≡ Some i
    → first_lines (suc n) (split_lines (h ++ take b (take (suc i) xs ++ ys))) ≡ take 201 (h ++ take i xs) ∷ first_lines n (split_lines (take (b - suc i) ys))
some_step n b i h xs ys u e =
    let at = no_feed_before xs b i e in
    let rest = take (b - suc i) ys in
    let all : HasNoFeed (h ++ take i xs) = All-append (λ y. eqb y 10 ≡ false) h (take i xs) u at.3 in
    ap (λ t. first_lines (suc n) (split_lines t)) (ap (λ t. h ++ t) (take_cut b i xs ys at.0 at.1 at.2) ∙ sym (append_assoc h (take i xs) (10 ∷ rest)))
    ∙ ap (first_lines (suc n)) (split_feed (h ++ take i xs) rest all)

-- ---- what a call leaves
none_ahead : (n b : ℕ) (h xs ys : List ℕ) → HasNoFeed h → position (λ x. eqb x 10) (cond (eqb n 0) [] (take b xs)) ≡ None
    → first_lines n (split_lines (h ++ take b (xs ++ ys))) ≡ first_lines n (split_lines (take 201 (h ++ cond (eqb n 0) [] (take b xs)) ++ take (b - length xs) ys))
none_ahead zero b h xs ys u e = refl
none_ahead (suc n) b h xs ys u e =
    let some_left : eqb (suc n) 0 ≡ false = grind (arith, nat_tests) in
    rw some_left (none_step (suc n) b h xs ys u (rw some_left at e))

some_ahead : (n b i : ℕ) (h xs ys : List ℕ) → HasNoFeed h → position (λ x. eqb x 10) (cond (eqb n 0) [] (take b xs)) ≡ Some i
    → first_lines n (split_lines (h ++ take b (take (i + 1) xs ++ ys))) ≡ take 201 (h ++ take i xs) ∷ first_lines (n - 1) (split_lines (take (b - (i + 1)) ys))
some_ahead zero b i h xs ys u e = cc
some_ahead (suc n) b i h xs ys u e =
    let some_left : eqb (suc n) 0 ≡ false = grind (arith, nat_tests) in
    rw (sub-one, add-one) (some_step n b i h xs ys u (rw some_left at e))

pub none_read : (r now : Reading) (xs fed : List ℕ) (given : List (List ℕ)) → HasNoFeed r.held → line_end r xs ≡ None → now ≡ after r xs (line_end r xs)
    → HasRead r fed given → HasRead now (fed ++ xs) given
none_read r now xs fed given u e is so ys =
    ap (λ s. given ++ lines_ahead s ys) (is ∙ ap (after r xs) e)
    ∙ ap (λ ls. given ++ ls) (sym (none_ahead r.lines_left r.bytes_left r.held xs ys u e))
    ∙ so (xs ++ ys) ∙ ap lines_of (sym (append_assoc fed xs ys))

pub some_read : (r now : Reading) (xs fed : List ℕ) (given : List (List ℕ)) (i : ℕ) → HasNoFeed r.held → line_end r xs ≡ Some i → now ≡ after r xs (line_end r xs)
    → HasRead r fed given → HasRead now (fed ++ take (i + 1) xs) (given ++ now.line ∷ [])
some_read r now xs fed given i u e is so ys =
    let part = take (i + 1) xs in
    ap (λ s. (given ++ s.line ∷ []) ++ lines_ahead s ys) (is ∙ ap (after r xs) e)
    ∙ append_assoc given (take 201 (r.held ++ take i xs) ∷ []) (lines_ahead (after r xs (Some i)) ys)
    ∙ ap (λ ls. given ++ ls) (sym (some_ahead r.lines_left r.bytes_left i r.held xs ys u e))
    ∙ so (part ++ ys) ∙ ap lines_of (sym (append_assoc fed part ys))

-- ---- at the end of the input
take_nil : (b : ℕ) → take {A = ℕ} b [] ≡ []
take_nil zero = refl
take_nil (suc b) = refl

no_lines : (n : ℕ) → first_lines n [] ≡ []
no_lines zero = refl
no_lines (suc n) = refl

held_only : (n : ℕ) (h : List ℕ) → HasNoFeed h → length h ≤ 201 → first_lines n (split_lines h) ≡ cond (ltb 0 (length h) && ltb 0 n) (h ∷ []) []
held_only n [] u le = no_lines n
held_only zero (x ∷ h) u le = elim (ltb 0 (suc (length h))) as (λ b. [] ≡ cond (b && false) ((x ∷ h) ∷ []) []) [ true ↦ refl | false ↦ refl ]
held_only (suc n) (x ∷ h) u le =
    let some : ltb 0 (suc (length h)) ≡ true = grind (arith, nat_tests) in
    let room : ltb 0 (suc n) ≡ true = grind (arith, nat_tests) in
    ap (first_lines (suc n)) (split_last x h u) ∙ ap (λ l. l ∷ first_lines n []) (take_all 201 (x ∷ h) le) ∙ rw (some, room) (ap (λ ls. (x ∷ h) ∷ ls) (no_lines n))

last_held : (n b : ℕ) (h : List ℕ) → HasNoFeed h → length h ≤ 201
    → first_lines n (split_lines (h ++ take b [])) ≡ cond (ltb 0 (length h) && ltb 0 n) (h ∷ []) []
last_held n b h u le = ap (λ t. first_lines n (split_lines t)) (ap (λ t. h ++ t) (take_nil b) ∙ append-nil h) ∙ held_only n h u le

pub last_read : (r : Reading) (left : Bool) (line fed : List ℕ) (given : List (List ℕ)) → HasNoFeed r.held → length r.held ≤ 201
    → left ≡ has_last r → line ≡ cond (has_last r) r.held [] → HasRead r fed given → given ++ cond left (line ∷ []) [] ≡ lines_of fed
last_read r left line fed given u le is gives so =
    let last : lines_ahead r [] ≡ cond left (line ∷ []) [] =
    last_held r.lines_left r.bytes_left r.held u le
    ∙ elim (has_last r) as (λ b. cond b (r.held ∷ []) [] ≡ cond b (cond b r.held [] ∷ []) []) [ true ↦ refl | false ↦ refl ]
    ∙ rw (is, gives) in
    ap (λ ls. given ++ ls) (sym last) ∙ so [] ∙ ap lines_of (append-nil fed)
