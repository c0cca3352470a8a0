-- Blocks replaced one run after the other.
use Rattle.std.specs.Prelude.{Some, ◌==◌}
use Rattle.std.proofs.Common.{◌≡◌, ℕ, zero, suc, ◌+◌, ◌-◌, ◌*◌, ◌/◌, ◌%◌, ◌<◌, ◌≤◌, false, true, List, [], ◌++◌, length, take, drop, refl, sym, ap, subst, ◌∙◌, ⊎_elim, arith, append_assoc, length-append, length-drop}
use Rattle.std.proofs.Math.Nat.{zero-mul, suc-mul, add-mul, div-add-mod, mul-mod_left, mul-div_cancel}
use Rattle.std.proofs.lemmas.Bool.Decides.{nat_tests}
use Rattle.std.proofs.lemmas.List.{append-nil, drop_all, drop-drop, drop-take, length-take-le, take-take, take_at, drop_at}
use Rattle.std.proofs.lemmas.Nat.{mul-le}
use borrow.Rule.Slice.PartMut.{put_mid}
use Rattle.ublock.specs.Laws.{Permutes}
use Rattle.cipher.specs.Engines.{Answer, Shape, Ran, each, refused}
use Rattle.cipher.specs.Rows.{RowReplaced, in_direction}
use Rattle.cipher.specs.declared.rows.Direction.{Direction}
use Rattle.cipher.specs.declared.rows.Direction.TheVariants.{Encipher, Decipher}

pub drop_past : (b i : ℕ) (xs : List ℕ) → drop (i * b) (drop b xs) ≡ drop (suc i * b) xs
drop_past b i xs = drop-drop (i * b) b xs ∙ ap (λ m. drop m xs) (omega (arith, suc-mul i b))

-- ---- one turn of a loop that replaces m blocks, the first of which is block i
each_add : (b : ℕ) (f : List ℕ → List ℕ) (i m : ℕ) (xs : List ℕ) → each b f (i + m) xs ≡ each b f i xs ++ each b f m (drop (i * b) xs)
unfolding each
each_add b f zero m xs = ap (λ k. each b f k xs) {x = 0 + m} {y = m} (omega arith) ∙ ap (λ k. each b f m (drop k xs)) (sym (zero-mul b))
each_add b f (suc i) m xs =
    ap (λ k. each b f k xs) {x = suc i + m} {y = suc (i + m)} (omega arith)
    ∙ ap (λ z. f (take b xs) ++ z) (each_add b f i m (drop b xs) ∙ ap (λ z. each b f i (drop b xs) ++ each b f m z) (drop_past b i xs))
    ∙ sym (append_assoc (f (take b xs)) (each b f i (drop b xs)) (each b f m (drop (suc i * b) xs)))

each_take : (b : ℕ) (f : List ℕ → List ℕ) (m : ℕ) (xs : List ℕ) → each b f m (take (m * b) xs) ≡ each b f m xs
unfolding each
each_take b f zero xs = refl
each_take b f (suc m) xs =
    let k : suc m * b ≡ b + m * b = omega (arith, suc-mul m b) in
    ap (λ n. each b f (suc m) (take n xs)) k
    ∙ ap (λ z. f z ++ each b f m (drop b (take (b + m * b) xs))) (take-take b (b + m * b) xs (omega arith))
    ∙ ap (λ z. f (take b xs) ++ each b f m z) (drop-take b (m * b) xs) ∙ ap (λ z. f (take b xs) ++ z) (each_take b f m (drop b xs))

pub length-each : (b : ℕ) (f : List ℕ → List ℕ) → ((x : List ℕ) → length x ≡ b → length (f x) ≡ b) → (n : ℕ) (xs : List ℕ) → n * b ≤ length xs → length (each b f n xs) ≡ n * b
unfolding each
length-each b f keeps zero xs h = sym (zero-mul b)
length-each b f keeps (suc n) xs h = omega (
  arith,
  length-append (f (take b xs)) (each b f n (drop b xs)),
  keeps (take b xs) (length-take-le b xs (omega (arith, suc-mul n b))),
  length-each b f keeps n (drop b xs) (omega (arith, suc-mul n b, length-drop b xs)),
  suc-mul n b,
)

turn : (b : ℕ) (f : List ℕ → List ℕ) → ((x : List ℕ) → length x ≡ b → length (f x) ≡ b) → (i m : ℕ) (was now piece : List ℕ) → i * b ≤ length was
    → now ≡ each b f i was ++ drop (i * b) was → piece ≡ each b f m (take ((i + m) * b - i * b) (drop (i * b) now))
    → put_mid (i * b) ((i + m) * b - i * b) now piece ≡ each b f (i + m) was ++ drop ((i + m) * b) was
turn b f keeps i m was now piece room is new =
    let all = add-mul i m b in
    let k : (i + m) * b - i * b ≡ m * b = omega arith in
    let front = each b f i was in
    let rest = drop (i * b) was in
    let lf : length front ≡ i * b = length-each b f keeps i was room in
    let past : drop (m * b) rest ≡ drop ((i + m) * b) was = drop-drop (m * b) (i * b) was ∙ ap (λ n. drop n was) (sym all) in
    let made : piece ≡ each b f m rest =
    new ∙ ap (λ n. each b f m (take n (drop (i * b) now))) k ∙ each_take b f m (drop (i * b) now)
    ∙ ap (each b f m) (ap (drop (i * b)) is ∙ drop_at front rest (i * b) lf) in
    ap (λ n. put_mid (i * b) n now piece) k ∙ ap (λ z. put_mid (i * b) (m * b) z piece) is
    ∙ ap (λ z. z ++ (piece ++ drop (m * b) (drop (i * b) (front ++ rest)))) (take_at front rest (i * b) lf)
    ∙ ap (λ z. front ++ (piece ++ drop (m * b) z)) (drop_at front rest (i * b) lf)
    ∙ ap (λ z. front ++ (z ++ drop (m * b) rest)) made ∙ ap (λ z. front ++ (each b f m rest ++ z)) past
    ∙ sym (append_assoc front (each b f m rest) (drop ((i + m) * b) was)) ∙ ap (λ z. z ++ drop ((i + m) * b) was) (sym (each_add b f i m was))

-- before the first turn
pub begun : (b : ℕ) (f : List ℕ → List ℕ) (xs : List ℕ) → xs ≡ each b f 0 xs ++ drop (0 * b) xs
unfolding each
begun b f xs = ap (λ k. drop k xs) (sym (zero-mul b))

-- a run of m blocks
ran_blocks : (b w m : ℕ) (f : List ℕ → List ℕ) (before after : List ℕ) (answer : Answer Unit) → Shape b w → m ≤ w → length before ≡ m * b → Ran b w f before after answer
    → (answer.number ≡ 0) × (after ≡ each b f m before)
ran_blocks b w m f before after answer shape few long ran =
    let pos : 0 < b = ⊎_elim (λ q. omega arith) (λ q. omega arith) shape.length_of_block in
    let whole : length before % b ≡ 0 = ap (λ k. k % b) long ∙ mul-mod_left m b in
    let most : m * b ≤ w * b = mul-le m b w b few (omega arith) in
    let fine : refused b w (length before) ≡ false = grind (arith, nat_tests) in
    let count : length before / b ≡ m = ap (λ k. k / b) long ∙ mul-div_cancel m pos in
    (ran.number ∙ rw fine refl, ran.run ∙ rw fine (ap (λ k. each b f k before) count))

-- how long the run of a turn is
turn_long : (b i m n : ℕ) (now : List ℕ) → i + m ≤ n → length now ≡ n * b → length (take ((i + m) * b - i * b) (drop (i * b) now)) ≡ m * b
turn_long b i m n now le long =
    let most : (i + m) * b ≤ n * b = mul-le (i + m) b n b le (omega arith) in
    length-take-le ((i + m) * b - i * b) (drop (i * b) now) (omega (arith, length-drop (i * b) now)) ∙ omega (arith, add-mul i m b)

-- one run more of n blocks
pub run_turn : (b size w : ℕ) (f : List ℕ → List ℕ) (i m n : ℕ) (was now piece : List ℕ) (answer : Answer Unit)
    → b ≡ size → Shape size w → ((x : List ℕ) → length x ≡ size → length (f x) ≡ size) → i + m ≤ n → m ≤ w → length was ≡ n * b → length now ≡ n * b
    → now ≡ each b f i was ++ drop (i * b) was → Ran size w f (take ((i + m) * b - i * b) (drop (i * b) now)) piece answer
    → (answer.number ≡ 0) × (put_mid (i * b) ((i + m) * b - i * b) now piece ≡ each b f (i + m) was ++ drop ((i + m) * b) was)
run_turn b size w f i m n was now piece answer e shape keeps le few long long_now is ran =
    let run = take ((i + m) * b - i * b) (drop (i * b) now) in
    let done = ran_blocks size w m f run piece answer shape few (turn_long b i m n now le long_now ∙ ap (λ k. m * k) e) ran in
    let long_f : (x : List ℕ) → length x ≡ b → length (f x) ≡ b = λ x l. keeps x (l ∙ e) ∙ sym e in
    (done.0, turn b f long_f i m was now piece (omega (arith, mul-le i b n b (omega arith) (omega arith))) is (done.1 ∙ ap (λ k. each k f m run) (sym e)))

pub direction_keeps : (way : Direction) (b : ℕ) (enc dec : List ℕ → List ℕ) → Permutes b enc dec → (x : List ℕ) → length x ≡ b → length (in_direction way enc dec x) ≡ b
direction_keeps Encipher b enc dec ok = ok.enc_long
direction_keeps Decipher b enc dec ok = ok.dec_long

pub whole_blocks : (b n : ℕ) → n % b ≡ 0 → n ≡ n / b * b
whole_blocks b n whole = omega (arith, div-add-mod n b)

-- a row whose blocks are all replaced
pub row_done : (b size : ℕ) (f : List ℕ → List ℕ) (i : ℕ) (was now : List ℕ) → b ≡ size → length was % b ≡ 0 → i ≤ length was / b → length was / b ≤ i
    → now ≡ each b f i was ++ drop (i * b) was → RowReplaced size f was now (record { value = Some tt; number = 0 })
row_done b size f i was now e whole le ge is =
    let n : i ≡ length was / b = omega arith in
    let all : drop (i * b) was ≡ [] = drop_all (i * b) was (omega (arith, whole_blocks b (length was) whole, ap (λ k. k * b) n)) in
    let fine : (length was % b == 0) ≡ true = grind (arith, nat_tests) in
    subst (λ k. RowReplaced k f was now (record { value = Some tt; number = 0 })) e (record {
      number = rw fine refl;
      row = is ∙ ap (λ z. each b f i was ++ z) all ∙ append-nil (each b f i was) ∙ ap (λ k. each b f k was) n ∙ rw fine refl;
    })

-- a row of n blocks
pub row_of_blocks : (b size n : ℕ) (f : List ℕ → List ℕ) (before after : List ℕ) (answer : Answer Unit) → b ≡ size → 0 < size → length before ≡ n * b
    → RowReplaced size f before after answer → (answer.number ≡ 0) × (after ≡ each b f n before)
row_of_blocks b size n f before after answer e pos long row =
    let long_size : length before ≡ n * size = long ∙ ap (λ k. n * k) e in
    let whole : length before % size ≡ 0 = ap (λ k. k % size) long_size ∙ mul-mod_left n size in
    let fine : (length before % size == 0) ≡ true = grind (arith, nat_tests) in
    let count : length before / size ≡ n = ap (λ k. k / size) long_size ∙ mul-div_cancel n pos in
    (row.number ∙ rw fine refl, row.row ∙ rw fine (ap (λ k. each size f k before) count) ∙ ap (λ k. each k f n before) (sym e))
