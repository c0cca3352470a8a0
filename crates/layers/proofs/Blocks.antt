-- A run taken block by block.
use Rattle.std.proofs.Common.{◌≡◌, ℕ, zero, suc, ◌+◌, ◌*◌, ◌/◌, ◌%◌, ◌<◌, ◌≤◌, List, [], ◌++◌, length, take, drop, refl, sym, ap, ◌∙◌, add-one, arith, append_assoc, length-drop}
use Rattle.std.proofs.Math.Nat.{zero-mul, suc-mul}
use Rattle.std.proofs.lemmas.List.{append-nil, take-append-drop, length-take-le, drop-drop, take_at, drop_at}
use Rattle.std.proofs.lemmas.Nat.{div-add-mod', mul-le}
use borrow.Rule.Slice.PartMut.{put_mid}
use Rattle.cipher.specs.Engines.{each}
use Rattle.cipher.proofs.EngineRuns.{length-each}

-- f keeps the length of a block of b bytes
abbrev pub Keeps : ℕ → (List ℕ → List ℕ) → Type 0
Keeps b f = (x : List ℕ) → length x ≡ b → length (f x) ≡ b

length_first : (b n : ℕ) (xs : List ℕ) → suc n * b ≤ length xs → length (take b xs) ≡ b
length_first b n xs h = length-take-le b xs (omega (arith, suc-mul n b))

length_rest : (b n : ℕ) (xs : List ℕ) → suc n * b ≤ length xs → n * b ≤ length (drop b xs)
length_rest b n xs h = omega (arith, suc-mul n b, length-drop b xs)

drop_more : (b n : ℕ) (xs : List ℕ) → drop b (drop (n * b) xs) ≡ drop (suc n * b) xs
drop_more b n xs = drop-drop b (n * b) xs ∙ ap (λ m. drop m xs) (sym (suc-mul n b))

pub each_none : (b : ℕ) (f : List ℕ → List ℕ) (xs : List ℕ) → each b f 0 xs ++ drop (0 * b) xs ≡ xs
unfolding each
each_none b f xs = ap (λ m. drop m xs) (zero-mul b)

each_more : (b : ℕ) (f : List ℕ → List ℕ) (n : ℕ) (xs : List ℕ) → each b f (suc n) xs ≡ each b f n xs ++ f (take b (drop (n * b) xs))
unfolding each
each_more b f zero xs = rw (zero-mul b, append-nil (f (take b xs)))
each_more b f (suc n) xs =
    let y = f (take b xs) in
    let ys = each b f n (drop b xs) in
    let past : drop (n * b) (drop b xs) ≡ drop (suc n * b) xs = drop-drop (n * b) b xs ∙ ap (λ m. drop m xs) (omega (arith, suc-mul n b)) in
    ap (λ r. y ++ r) (each_more b f n (drop b xs)) ∙ sym (append_assoc y ys (f (take b (drop (n * b) (drop b xs))))) ∙ ap (λ z. (y ++ ys) ++ f (take b z)) past

-- g of f, block by block; what follows the blocks does not count
pub each_each : (b : ℕ) (f g : List ℕ → List ℕ) → Keeps b f → (n : ℕ) (xs past : List ℕ) → n * b ≤ length xs
    → each b g n (each b f n xs ++ past) ≡ each b (λ x. g (f x)) n xs
unfolding each
each_each b f g keeps zero xs past h = refl
each_each b f g keeps (suc n) xs past h =
    let y = f (take b xs) in
    let ys = each b f n (drop b xs) in
    let long : length y ≡ b = keeps (take b xs) (length_first b n xs h) in
    rw (append_assoc y ys past, take_at y (ys ++ past) b long, drop_at y (ys ++ past) b long, each_each b f g keeps n (drop b xs) past (length_rest b n xs h))

pub each-each : (b : ℕ) (f g : List ℕ → List ℕ) → Keeps b f → (n : ℕ) (xs : List ℕ) → n * b ≤ length xs
    → each b g n (each b f n xs) ≡ each b (λ x. g (f x)) n xs
each-each b f g keeps n xs h = ap (each b g n) (sym (append-nil (each b f n xs))) ∙ each_each b f g keeps n xs [] h

-- where f changes nothing, a run stays
pub each_same : (b : ℕ) (f : List ℕ → List ℕ) → ((x : List ℕ) → f x ≡ x) → (n : ℕ) (xs : List ℕ) → each b f n xs ++ drop (n * b) xs ≡ xs
unfolding each
each_same b f same zero xs = each_none b f xs
each_same b f same (suc n) xs =
    let rest = drop b xs in
    let past : drop (suc n * b) xs ≡ drop (n * b) rest = ap (λ m. drop m xs) (omega (arith, suc-mul n b)) ∙ sym (drop-drop (n * b) b xs) in
    append_assoc (f (take b xs)) (each b f n rest) (drop (suc n * b) xs)
    ∙ ap (λ z. f (take b xs) ++ (each b f n rest ++ z)) past
    ∙ ap (λ z. f (take b xs) ++ z) (each_same b f same n rest)
    ∙ ap (λ z. z ++ rest) (same (take b xs)) ∙ take-append-drop b xs

-- block i of a run of n bytes
within : (i b n : ℕ) → i < n / b → suc i * b ≤ n
within i b n h = omega (arith, div-add-mod' n b, mul-le (suc i) b (n / b) b h (omega arith))

pub whole : (b n : ℕ) → n % b ≡ 0 → n / b * b ≡ n
whole b n e = omega (arith, div-add-mod' n b)

each_step : (b : ℕ) (f : List ℕ → List ℕ) → Keeps b f → (i : ℕ) (xs now block : List ℕ) → suc i * b ≤ length xs
    → now ≡ each b f i xs ++ drop (i * b) xs → block ≡ f (take b (drop (i * b) now))
    → put_mid (i * b) b now block ≡ each b f (suc i) xs ++ drop (suc i * b) xs
each_step b f keeps i xs now block h is new =
    let front = each b f i xs in
    let rest = drop (i * b) xs in
    let long : length front ≡ i * b = length-each b f keeps i xs (omega (arith, suc-mul i b)) in
    let before : take (i * b) now ≡ front = ap (take (i * b)) is ∙ take_at front rest (i * b) long in
    let after : drop (i * b) now ≡ rest = ap (drop (i * b)) is ∙ drop_at front rest (i * b) long in
    let next : block ≡ f (take b rest) = new ∙ ap (λ z. f (take b z)) after in
    let past : drop b (drop (i * b) now) ≡ drop (suc i * b) xs = ap (drop b) after ∙ drop_more b i xs in
    ap (λ z. z ++ (block ++ drop b (drop (i * b) now))) before
    ∙ ap (λ z. front ++ (z ++ drop b (drop (i * b) now))) next
    ∙ ap (λ z. front ++ (f (take b rest) ++ z)) past
    ∙ sym (append_assoc front (f (take b rest)) (drop (suc i * b) xs))
    ∙ ap (λ z. z ++ drop (suc i * b) xs) (sym (each_more b f i xs))

-- a turn of a loop that replaces block after block, each by its f
pub each_turn : (b k : ℕ) (f : List ℕ → List ℕ) → Keeps b f → (i : ℕ) (xs now block : List ℕ) → k ≡ b → i < length xs / b
    → now ≡ each b f i xs ++ drop (i * b) xs → block ≡ f (take k (drop (i * b) now))
    → put_mid (i * b) k now block ≡ each b f (i + 1) xs ++ drop ((i + 1) * b) xs
each_turn b k f keeps i xs now block e h is new =
    ap (λ m. put_mid (i * b) m now block) e
    ∙ each_step b f keeps i xs now block (within i b (length xs) h) is (new ∙ ap (λ m. f (take m (drop (i * b) now))) e)
    ∙ ap (λ m. each b f m xs ++ drop (m * b) xs) (sym (add-one i))
