-- The masks along a row of blocks, written one block after the other.
use Rattle.std.proofs.Common.{◌≡◌, ℕ, suc, ◌+◌, ◌-◌, ◌*◌, ◌<◌, ◌≤◌, false, List, [], ◌∷◌, ◌++◌, length, take, drop, refl, sym, ap, ◌∙◌, arith, append_assoc, length-append, length-drop, ⊎_elim}
use Rattle.std.proofs.Math.Nat.{suc-mul, add-mul}
use Rattle.std.proofs.lemmas.List.{append-nil, length-take-le, take_all, take_at}
use Rattle.std.proofs.lemmas.Nat.{mul-le}
use borrow.Rule.Slice.PartMut.{put_mid}
use Rattle.cipher.specs.Engines.{Answer}
use Rattle.modes.specs.Modes.{BlockLength, Mask, Masked, misfit}
use Rattle.modes.specs.Sealing.{along, blocks, joined, masks_along, previous}
use Rattle.modes.proofs.Rows.{along_add, joined_append}

masks_more : (f : Mask) (v : List ℕ) (i : ℕ) (w : List ℕ) (b k : ℕ) (xs : List ℕ)
    → masks_along f v i w (blocks b (k + 1) xs) ≡ masks_along f v i w (blocks b k xs) ++ f v (i + k) (previous b w k xs)
masks_more f v i w b k xs =
    let front = along (λ j u x. f v j u) i w (blocks b k xs) in
    let next = f v (i + k) (previous b w k xs) in
    ap joined (along_add (λ j u x. f v j u) i w b k 1 xs) ∙ joined_append front (next ∷ []) ∙ ap (λ z. joined front ++ z) (append-nil next)

fits_all : (b : ℕ) → BlockLength b → misfit b b b b ≡ false
fits_all b = ⊎_elim (λ e. rw e refl) (λ e. rw e refl)

-- what a mask is that was written into a piece of the block length
pub written : (f l : Mask) (v : List ℕ) (i : ℕ) (p a z a' z' : List ℕ) (answer : Answer Unit) → BlockLength (length v) → length p ≡ length v → length a ≡ length v → length z ≡ length v
    → Masked f l v i p a z a' z' answer → (a' ≡ f v i p) × (z' ≡ l v i p)
written f l v i p a z a' z' answer s lp la lz q =
    let fine : misfit (length v) (length p) (length a) (length z) ≡ false = rw (lp, la, lz) (fits_all (length v) s) in
    (q.first ∙ rw fine refl, q.last ∙ rw fine refl)

pub mask_turn : (f : Mask) (v : List ℕ) (i : ℕ) (w : List ℕ) (b k m : ℕ) (xs now piece : List ℕ) → m ≡ b → length piece ≡ b → suc k * b ≤ length now
    → take (k * b) now ≡ masks_along f v i w (blocks b k xs) → piece ≡ f v (i + k) (previous b w k xs)
    → take ((k + 1) * b) (put_mid (k * b) m now piece) ≡ masks_along f v i w (blocks b (k + 1) xs)
mask_turn f v i w b k m xs now piece e long room so_far new =
    let front = take (k * b) now in
    let rest = drop m (drop (k * b) now) in
    let lf : length front ≡ k * b = length-take-le (k * b) now (omega (arith, suc-mul k b)) in
    let all : length (front ++ piece) ≡ (k + 1) * b = omega (arith, length-append front piece, suc-mul k b, add-mul k 1 b) in
    ap (take ((k + 1) * b)) (sym (append_assoc front piece rest)) ∙ take_at (front ++ piece) rest ((k + 1) * b) all
    ∙ ap (λ z. z ++ piece) so_far ∙ ap (λ z. masks_along f v i w (blocks b k xs) ++ z) new ∙ sym (masks_more f v i w b k xs)

-- block i of n, as the loop cuts it out
pub turn_fits : (b i n : ℕ) (xs : List ℕ) → i < n → length xs ≡ n * b → suc i * b ≤ length xs
turn_fits b i n xs lt e = omega (arith, mul-le (suc i) b n b lt (omega arith))

pub length_turn : (b i : ℕ) (xs : List ℕ) → suc i * b ≤ length xs → length (take ((i + 1) * b - i * b) (drop (i * b) xs)) ≡ b
length_turn b i xs h =
    length-take-le ((i + 1) * b - i * b) (drop (i * b) xs) (omega (arith, suc-mul i b, add-mul i 1 b, length-drop (i * b) xs)) ∙ omega (arith, suc-mul i b, add-mul i 1 b)

-- after the last turn
pub masks_all : (f : Mask) (v : List ℕ) (i : ℕ) (w : List ℕ) (b k n : ℕ) (xs now : List ℕ) → k ≤ n → n ≤ k → length now ≡ n * b
    → take (k * b) now ≡ masks_along f v i w (blocks b k xs) → now ≡ masks_along f v i w (blocks b n xs)
masks_all f v i w b k n xs now le ge long is =
    let e : k ≡ n = omega arith in
    sym (take_all (n * b) now (omega arith)) ∙ ap (λ m. take (m * b) now) (sym e) ∙ is ∙ ap (λ m. masks_along f v i w (blocks b m xs)) e
