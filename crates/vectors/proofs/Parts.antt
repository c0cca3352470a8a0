-- A row that is cut into parts: each step of the cipher on the row is that step on every part, at any part length that is
-- a multiple of 4.
use Rattle.std.proofs.Common.{◌≡◌, ℕ, zero, suc, ◌+◌, ◌*◌, ◌<◌, T, ltb, List, [], ◌∷◌, ◌++◌, map, length, get_or, take, drop, sym, refl, ap, ◌∙◌, subst, arith, ltb→lt, inl, inr}
use lib.Bits.{bit_xor}
use lib.Lanes.{all_below}
use Rattle.std.specs.Int.Digits.{number_from_digits}
use Rattle.std.proofs.lemmas.List.{take-map, drop-map, get_or-take, get_or-drop, length-take-le, length-drop}
use Rattle.std.proofs.lemmas.Nat.{row_fits}
use Rattle.ublock.specs.Cipher.{S, S_inverse, on_nibbles, substitute, xor, be4, rotated, rotate, permute, Halves, Step, step, mixing, mixed, unmixed, Layout, round, inverse_round}
use Rattle.ublock.specs.Cipher.Step.{into_right, into_left}
use Rattle.ublock.proofs.Check.{both}
use Rattle.ublock.proofs.Rounds.{round_of, inverse_round_of}
use Rattle.words.specs.Words.{halves}
use Rattle.halves.specs.Halves.{IsUblockLayout}
use Rattle.ublock.specs.Parts.{part}
use Rattle.vectors.specs.Vectors.{InLanes}

pub length-part : (m i n : ℕ) (xs : List ℕ) → i < n → length xs ≡ n * m → length (part m i xs) ≡ m
length-part m i n xs h l =
    length-take-le m (drop (i * m) xs) (simp length-drop (omega (arith, row_fits i m n m h (omega arith))))

-- ---- byte by byte
pub part-map : (m i : ℕ) (f : ℕ → ℕ) (xs : List ℕ) → part m i (map f xs) ≡ map f (part m i xs)
part-map m i f xs = ap (take m) (drop-map f (i * m) xs) ∙ take-map f m (drop (i * m) xs)

xor-nil : (xs : List ℕ) → xor xs [] ≡ xs
xor-nil [] = refl
xor-nil (x ∷ xs) = refl

take-xor : (n : ℕ) (xs ys : List ℕ) → take n (xor xs ys) ≡ xor (take n xs) (take n ys)
take-xor zero xs ys = refl
take-xor (suc n) [] ys = refl
take-xor (suc n) (x ∷ xs) [] = refl
take-xor (suc n) (x ∷ xs) (y ∷ ys) = ap (λ zs. bit_xor x y ∷ zs) (take-xor n xs ys)

drop-xor : (n : ℕ) (xs ys : List ℕ) → drop n (xor xs ys) ≡ xor (drop n xs) (drop n ys)
drop-xor zero xs ys = refl
drop-xor (suc n) [] ys = refl
drop-xor (suc n) (x ∷ xs) [] = sym (xor-nil (drop n xs))
drop-xor (suc n) (x ∷ xs) (y ∷ ys) = drop-xor n xs ys

pub part-xor : (m i : ℕ) (xs ys : List ℕ) → part m i (xor xs ys) ≡ xor (part m i xs) (part m i ys)
part-xor m i xs ys = ap (take m) (drop-xor (i * m) xs ys) ∙ take-xor m (drop (i * m) xs) (drop (i * m) ys)

-- ---- piece by piece
-- four times a number, as lists are taken apart
abbrev fours : ℕ → ℕ
fours zero = zero
fours (suc n) = suc (suc (suc (suc (fours n))))

fours_is : (n : ℕ) → fours n ≡ n * 4
fours_is zero = omega arith
fours_is (suc n) = omega (arith, fours_is n)

take-rotate : (b n : ℕ) (xs : List ℕ) → take (fours n) (rotate b xs) ≡ rotate b (take (fours n) xs)
take-rotate b zero xs = refl
take-rotate b (suc n) [] = refl
take-rotate b (suc n) (p ∷ []) = refl
take-rotate b (suc n) (p ∷ q ∷ []) = refl
take-rotate b (suc n) (p ∷ q ∷ r ∷ []) = refl
take-rotate b (suc n) (p ∷ q ∷ r ∷ s ∷ xs) =
    ap (λ ys. be4 (rotated b (number_from_digits 256 (p ∷ q ∷ r ∷ s ∷ []))) ++ ys) (take-rotate b n xs)

drop-rotate : (b n : ℕ) (xs : List ℕ) → drop (fours n) (rotate b xs) ≡ rotate b (drop (fours n) xs)
drop-rotate b zero xs = refl
drop-rotate b (suc n) [] = refl
drop-rotate b (suc n) (p ∷ []) = refl
drop-rotate b (suc n) (p ∷ q ∷ []) = refl
drop-rotate b (suc n) (p ∷ q ∷ r ∷ []) = refl
drop-rotate b (suc n) (p ∷ q ∷ r ∷ s ∷ xs) = drop-rotate b n xs

pub part-rotate : (n i b : ℕ) (xs : List ℕ) → part (n * 4) i (rotate b xs) ≡ rotate b (part (n * 4) i xs)
part-rotate n i b xs =
    let e : fours (i * n) ≡ i * (n * 4) = fours_is (i * n) ∙ omega arith in
    subst (λ k. take k (drop (i * (n * 4)) (rotate b xs)) ≡ rotate b (take k (drop (i * (n * 4)) xs))) (fours_is n)
    (subst (λ k. take (fours n) (drop k (rotate b xs)) ≡ rotate b (take (fours n) (drop k xs))) e
    (ap (take (fours n)) (drop-rotate b (i * n) xs) ∙ take-rotate b n (drop (fours (i * n)) xs)))

abbrev pub part_of_both : ℕ → ℕ → Halves → Halves
part_of_both m i h = halves (part m i h.left) (part m i h.right)

part-step : (n i : ℕ) (s : Step) (h : Halves) → part_of_both (n * 4) i (step s h) ≡ step s (part_of_both (n * 4) i h)
part-step n i (into_right b) h =
    ap (halves (part (n * 4) i h.left))
    (part-xor (n * 4) i h.right (rotate b h.left) ∙ ap (xor (part (n * 4) i h.right)) (part-rotate n i b h.left))
part-step n i (into_left b) h =
    ap (λ l. halves l (part (n * 4) i h.right))
    (part-xor (n * 4) i h.left (rotate b h.right) ∙ ap (xor (part (n * 4) i h.left)) (part-rotate n i b h.right))

pub part-mixed : (n i : ℕ) (ss : List Step) (h : Halves) → part_of_both (n * 4) i (mixed ss h) ≡ mixed ss (part_of_both (n * 4) i h)
part-mixed n i [] h = refl
part-mixed n i (s ∷ ss) h = part-mixed n i ss (step s h) ∙ ap (mixed ss) (part-step n i s h)

pub part-unmixed : (n i : ℕ) (ss : List Step) (h : Halves) → part_of_both (n * 4) i (unmixed ss h) ≡ unmixed ss (part_of_both (n * 4) i h)
part-unmixed n i [] h = refl
part-unmixed n i (s ∷ ss) h = part-step n i s (unmixed ss h) ∙ ap (step s) (part-unmixed n i ss h)

-- ---- places
permute-part : (m i : ℕ) (ks xs : List ℕ) → T (all_below m ks) → permute ks (part m i xs) ≡ permute (map (λ k. i * m + k) ks) xs
permute-part m i [] xs t = refl
permute-part m i (k ∷ ks) xs t =
    let ts = both (ltb k m) (all_below m ks) t in
    ap (λ v. v ∷ permute ks (part m i xs)) (get_or-take m (drop (i * m) xs) k 0 (ltb→lt k m ts.0) ∙ get_or-drop (i * m) xs k 0)
    ∙ ap (λ vs. get_or xs (i * m + k) 0 ∷ vs) (permute-part m i ks xs ts.1)

-- where part i of the places is the permutation ks, moved to that part
pub part-permute : (m i : ℕ) (ps ks xs : List ℕ) → T (all_below m ks) → part m i ps ≡ map (λ k. i * m + k) ks
    → part m i (permute ps xs) ≡ permute ks (part m i xs)
part-permute m i ps ks xs t e = part-map m i (λ k. get_or xs k 0) ps ∙ ap (λ qs. permute qs xs) e ∙ sym (permute-part m i ks xs t)

-- ---- a round of every part, of which there are `count`
pub published_mixing : (l : Layout) → IsUblockLayout l → l.mixing ≡ mixing
published_mixing l (inl e) = ap (λ (k : Layout). k.mixing) e
published_mixing l (inr e) = ap (λ (k : Layout). k.mixing) e

module _ (l : Layout) (n count : ℕ) (m : l.mixing ≡ mixing) (whole : l.half ≡ n * 4) where
  mixed_part : (i : ℕ) (p q s t : List ℕ) → halves p q ≡ mixed mixing (halves s t)
      → part_of_both l.half i (halves p q) ≡ mixed l.mixing (part_of_both l.half i (halves s t))
  mixed_part i p q s t e =
      subst (λ k. part_of_both k i (halves p q) ≡ mixed l.mixing (part_of_both k i (halves s t))) (sym whole)
      (ap (part_of_both (n * 4) i) (e ∙ ap (λ ss. mixed ss (halves s t)) (sym m)) ∙ part-mixed n i l.mixing (halves s t))

  unmixed_part : (i : ℕ) (s t p q : List ℕ) → halves s t ≡ unmixed mixing (halves p q)
      → part_of_both l.half i (halves s t) ≡ unmixed l.mixing (part_of_both l.half i (halves p q))
  unmixed_part i s t p q e =
      subst (λ k. part_of_both k i (halves s t) ≡ unmixed l.mixing (part_of_both k i (halves p q))) (sym whole)
      (ap (part_of_both (n * 4) i) (e ∙ ap (λ ss. unmixed ss (halves p q)) (sym m)) ∙ part-unmixed n i l.mixing (halves p q))

  keyed_part : (i : ℕ) (x k v y : List ℕ) → v ≡ xor x k → y ≡ substitute S v
      → part l.half i y ≡ substitute S (xor (part l.half i x) (part l.half i k))
  keyed_part i x k v y e f =
      ap (part l.half i) f ∙ part-map l.half i (on_nibbles S) v
      ∙ ap (substitute S) (ap (part l.half i) e ∙ part-xor l.half i x k)

  unkeyed_part : (i : ℕ) (x k v y : List ℕ) → v ≡ substitute S_inverse x → y ≡ xor v k
      → part l.half i y ≡ xor (substitute S_inverse (part l.half i x)) (part l.half i k)
  unkeyed_part i x k v y e f =
      ap (part l.half i) f ∙ part-xor l.half i v k
      ∙ ap (λ z. xor z (part l.half i k)) (ap (part l.half i) e ∙ part-map l.half i (on_nibbles S_inverse) x)

  pub round_in_lanes : (left right kl kr x y s t p q left' right' : List ℕ)
      → length left ≡ count * l.half → length kl ≡ count * l.half
      → x ≡ xor left kl → y ≡ xor right kr → s ≡ substitute S x → t ≡ substitute S y
      → halves p q ≡ mixed mixing (halves s t) → InLanes l.half count l.PL p left' → InLanes l.half count l.PR q right'
      → (i : ℕ) → i < count
      → part l.half i left' ++ part l.half i right' ≡ round l (part l.half i kl ++ part l.half i kr) (part l.half i left ++ part l.half i right)
  round_in_lanes left right kl kr x y s t p q left' right' ll lk ex ey es et em el er i h =
      round_of l _ _ _ _ _ _ _ _ _ _
      (length-part l.half i count left h ll) (length-part l.half i count kl h lk)
      (keyed_part i left kl x s ex es) (keyed_part i right kr y t ey et)
      (mixed_part i p q s t em) (el i h) (er i h)

  pub inverse_round_in_lanes : (left right kl kr p q s t x y left' right' : List ℕ)
      → length left ≡ count * l.half → length s ≡ count * l.half → length kl ≡ count * l.half
      → InLanes l.half count l.PL_inverse left p → InLanes l.half count l.PR_inverse right q
      → halves s t ≡ unmixed mixing (halves p q)
      → x ≡ substitute S_inverse s → y ≡ substitute S_inverse t → left' ≡ xor x kl → right' ≡ xor y kr
      → (i : ℕ) → i < count
      → part l.half i left' ++ part l.half i right' ≡ inverse_round l (part l.half i kl ++ part l.half i kr) (part l.half i left ++ part l.half i right)
  inverse_round_in_lanes left right kl kr p q s t x y left' right' ll ls lk el er em ex ey eu ev i h =
      inverse_round_of l _ _ _ _ _ _ _ _ _ _
      (length-part l.half i count left h ll) (length-part l.half i count s h ls) (length-part l.half i count kl h lk)
      (el i h) (er i h) (unmixed_part i s t p q em)
      (unkeyed_part i s kl x left' ex eu) (unkeyed_part i t kr y right' ey ev)
