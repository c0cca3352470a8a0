-- Bytes permuted and added.
use Rattle.std.specs.Prelude.{◌≡◌, ℕ, zero, suc, ◌+◌, ◌*◌, List, [], ◌∷◌, ◌++◌, length, take, drop, bit_xor, slice_index, refl}
use Rattle.std.proofs.Common.{T, ltb, ltb→lt, map, sym, ap, subst, ◌∙◌, arith}
use Rattle.std.specs.Simd.Lanes.{all_below}
use Rattle.ublock.proofs.Check.{both}
use Rattle.std.proofs.lemmas.List.{get_or-map, length-map, length-append, map-append, take_at, drop_at, take-take, drop-take, take-append-drop}
use Rattle.ublock.specs.Cipher.{Layout, S, S_inverse, on_nibbles, substitute, xor, permute, mixing, mixed, unmixed, round, inverse_round, block_length}
use Rattle.ublock.specs.Laws.{Invertible}
use Rattle.ublock.proofs.Bytes.{xor-append, permute_back}
use Rattle.ublock.proofs.Rounds.{round_of}
use Rattle.words.specs.Words.{halves, words}
use Rattle.words.proofs.Numbers.{words_append}
use Rattle.plain.specs.Unpermuted.{permuted_halves, row_of}
use Rattle.plain.proofs.RoundFacts.{inverse_round_from}

xor_at : (xs ys : List ℕ) (k : ℕ) → length xs ≡ length ys → slice_index (xor xs ys) k ≡ bit_xor (slice_index xs k) (slice_index ys k)
xor_at [] [] k e = refl
xor_at [] (y ∷ ys) k e = absurd (omega arith)
xor_at (x ∷ xs) [] k e = absurd (omega arith)
xor_at (x ∷ xs) (y ∷ ys) zero e = refl
xor_at (x ∷ xs) (y ∷ ys) (suc k) e = xor_at xs ys k (omega arith)

pub permute_xor : (ks xs ys : List ℕ) → length xs ≡ length ys → permute ks (xor xs ys) ≡ xor (permute ks xs) (permute ks ys)
permute_xor [] xs ys e = refl
permute_xor (k ∷ ks) xs ys e = ap (λ z. z ∷ permute ks (xor xs ys)) (xor_at xs ys k e) ∙ ap (λ zs. bit_xor (slice_index xs k) (slice_index ys k) ∷ zs) (permute_xor ks xs ys e)

length_permute : (ks xs : List ℕ) → length (permute ks xs) ≡ length ks
length_permute ks xs = length-map ks (λ k. slice_index xs k)

-- of both halves
pub xor_of : (l : Layout) (a b ka kb u v : List ℕ) → length a ≡ length ka → length b ≡ length kb → u ≡ xor a ka → v ≡ xor b kb
    → permute l.PL u ++ permute l.PR v ≡ xor (permute l.PL a ++ permute l.PR b) (permute l.PL ka ++ permute l.PR kb)
xor_of l a b ka kb u v ea eb eu ev =
    ap (λ z. permute l.PL z ++ permute l.PR v) eu ∙ ap (λ z. permute l.PL (xor a ka) ++ permute l.PR z) ev
    ∙ ap (λ z. z ++ permute l.PR (xor b kb)) (permute_xor l.PL a ka ea) ∙ ap (λ z. xor (permute l.PL a) (permute l.PL ka) ++ z) (permute_xor l.PR b kb eb)
    ∙ sym (xor-append (permute l.PL a) (permute l.PL ka) (permute l.PR b) (permute l.PR kb) (length_permute l.PL a ∙ sym (length_permute l.PL ka)))

pub unpermuted_of : (l : Layout) → Invertible l → (a b u v : List ℕ) → length a ≡ l.half → length b ≡ l.half → u ≡ permute l.PL_inverse a → v ≡ permute l.PR_inverse b
    → permute l.PL u ++ permute l.PR v ≡ a ++ b
unpermuted_of l ok a b u v ea eb eu ev =
    ap (λ z. permute l.PL z ++ permute l.PR v) eu ∙ ap (λ z. permute l.PL (permute l.PL_inverse a) ++ permute l.PR z) ev
    ∙ ap (λ z. z ++ permute l.PR (permute l.PR_inverse b)) (permute_back l.half l.PL l.PL_inverse a ok.left_back ea)
    ∙ ap (λ z. a ++ z) (permute_back l.half l.PR l.PR_inverse b ok.right_back eb)

permute_map : (f : ℕ → ℕ) (ks xs : List ℕ) → T (all_below (length xs) ks) → permute ks (map f xs) ≡ map f (permute ks xs)
permute_map f [] xs t = refl
permute_map f (k ∷ ks) xs t =
    let ts = both (ltb k (length xs)) (all_below (length xs) ks) t in
    rw (get_or-map f xs k 0 0 (ltb→lt k (length xs) ts.0), permute_map f ks xs ts.1) refl

-- bytes that are looked up through the inverse permutations
pub looked_up_back : (l : Layout) → Invertible l → (a b u v : List ℕ) → length a ≡ l.half → length b ≡ l.half
    → u ≡ substitute S_inverse (permute l.PL_inverse a) → v ≡ substitute S_inverse (permute l.PR_inverse b)
    → permute l.PL u ++ permute l.PR v ≡ substitute S_inverse (a ++ b)
looked_up_back l ok a b u v ea eb eu ev =
    let f = on_nibbles S_inverse in
    unpermuted_of l ok (map f a) (map f b) u v (length-map a f ∙ ea) (length-map b f ∙ eb)
    (eu ∙ sym (permute_map f l.PL_inverse a (subst (λ n. T (all_below n l.PL_inverse)) (sym ea) ok.left.below)))
    (ev ∙ sym (permute_map f l.PR_inverse b (subst (λ n. T (all_below n l.PR_inverse)) (sym eb) ok.right.below)))
    ∙ sym (map-append f a b)

-- a half through the key and the substitution
keyed_half : (ks a ka x s : List ℕ) → length a ≡ length ka → x ≡ xor a ka → s ≡ substitute S (permute ks x) → s ≡ substitute S (xor (permute ks a) (permute ks ka))
keyed_half ks a ka x s e ex es = es ∙ ap (substitute S) (ap (permute ks) ex ∙ permute_xor ks a ka e)

module _ (l : Layout) (ok : Invertible l) (mixes : l.mixing ≡ mixing) (a b ka kb : List ℕ) (la : length a ≡ l.half) (lb : length b ≡ l.half) (lka : length ka ≡ l.half) (lkb : length kb ≡ l.half) where
  pub round_of_halves : (x y s t m n : List ℕ) → x ≡ xor a ka → y ≡ xor b kb → s ≡ substitute S (permute l.PL x) → t ≡ substitute S (permute l.PR y)
      → halves m n ≡ mixed mixing (halves s t)
      → permute l.PL m ++ permute l.PR n ≡ round l (permute l.PL ka ++ permute l.PR kb) (permute l.PL a ++ permute l.PR b)
  round_of_halves x y s t m n ex ey es et em =
      round_of l (permute l.PL a) (permute l.PR b) (permute l.PL ka) (permute l.PR kb) s t m n (permute l.PL m) (permute l.PR n)
      (length_permute l.PL a ∙ ok.left.long) (length_permute l.PL ka ∙ ok.left.long)
      (keyed_half l.PL a ka x s (la ∙ sym lka) ex es) (keyed_half l.PR b kb y t (lb ∙ sym lkb) ey et)
      (em ∙ ap (λ ss. mixed ss (halves s t)) (sym mixes)) refl refl

  pub inverse_round_of_halves : (s t z u r : List ℕ) → halves s t ≡ unmixed mixing (halves a b) → z ≡ substitute S_inverse (s ++ t) → u ≡ z
      → r ≡ xor u (permute l.PL ka ++ permute l.PR kb)
      → r ≡ inverse_round l (permute l.PL ka ++ permute l.PR kb) (permute l.PL a ++ permute l.PR b)
  inverse_round_of_halves s t z u r em ez eu er =
      inverse_round_from l (permute l.PL a) (permute l.PR b) (permute l.PL ka ++ permute l.PR kb) a b s t u r mixes (length_permute l.PL a ∙ ok.left.long)
      (sym (permute_back l.half l.PL_inverse l.PL a ok.left la)) (sym (permute_back l.half l.PR_inverse l.PR b ok.right lb)) em (eu ∙ ez) er

-- ---- a key's halves at the front of a row
first_of : (h : ℕ) (a b xs : List ℕ) → length a ≡ h → a ++ b ≡ take (h + h) xs → a ≡ take h xs
first_of h a b xs la e = sym (take_at a b h la) ∙ ap (take h) e ∙ take-take h (h + h) xs (omega arith)

second_of : (h : ℕ) (a b xs : List ℕ) → length a ≡ h → a ++ b ≡ take (h + h) xs → b ≡ take h (drop h xs)
second_of h a b xs la e = sym (drop_at a b h la) ∙ ap (drop h) e ∙ drop-take h h xs

-- what is read from the front of xs is the block there
pub front_block : (l : Layout) → Invertible l → (a b xs ys : List ℕ) → length a ≡ l.half → a ++ b ≡ take (block_length l) xs
    → permuted_halves l a b ≡ take (block_length l) (row_of l xs ys)
front_block l ok a b xs ys la e =
    let front = permuted_halves l (take l.half xs) (take l.half (drop l.half xs)) in
    let long : length front ≡ block_length l = length-append (permute l.PL (take l.half xs)) (permute l.PR (take l.half (drop l.half xs)))
    ∙ omega (arith, length_permute l.PL (take l.half xs), length_permute l.PR (take l.half (drop l.half xs)), ok.left.long, ok.right.long) in
    ap (λ z. permuted_halves l z b) (first_of l.half a b xs la e) ∙ ap (permuted_halves l (take l.half xs)) (second_of l.half a b xs la e)
    ∙ sym (take_at front (drop (block_length l) ys) (block_length l) long)

-- a row whose key is written at the front of xs
pub row_kept : (l : Layout) (a b key xs ys : List ℕ) → length a ≡ l.half → permuted_halves l a b ≡ key → take (block_length l) xs ≡ a ++ b → key ≡ take (block_length l) ys
    → row_of l xs ys ≡ ys
row_kept l a b key xs ys la is ex ek =
    ap (λ z. permuted_halves l z (take l.half (drop l.half xs)) ++ drop (block_length l) ys) (sym (first_of l.half a b xs la (sym ex)))
    ∙ ap (λ z. permuted_halves l a z ++ drop (block_length l) ys) (sym (second_of l.half a b xs la (sym ex)))
    ∙ ap (λ z. z ++ drop (block_length l) ys) (is ∙ ek) ∙ take-append-drop (block_length l) ys

-- the same, where xs goes on as ys does
pub row_kept_whole : (l : Layout) (a b key xs ys : List ℕ) → length a ≡ l.half → permuted_halves l a b ≡ key → take (block_length l) xs ≡ a ++ b → key ≡ take (block_length l) ys
    → drop (block_length l) xs ≡ drop (block_length l) ys → row_of l xs xs ≡ ys
row_kept_whole l a b key xs ys la is ex ek er =
    ap (λ z. permuted_halves l (take l.half xs) (take l.half (drop l.half xs)) ++ z) er ∙ row_kept l a b key xs ys la is ex ek

-- ---- numbers that begin with those of a block
pub halves_long : (l : Layout) (a b : List ℕ) (count : ℕ) → length a ≡ count * 4 → length b ≡ count * 4 → l.half ≡ count * 4 → length (a ++ b) ≡ block_length l
halves_long l a b count la lb sized = length-append a b ∙ omega (arith, la, lb, sized)

pub numbers_front : (n : ℕ) (front rest block : List ℕ) → words front ≡ block → length block ≡ n → take n (words (front ++ rest)) ≡ block
numbers_front n front rest block e long = ap (take n) (words_append front rest ∙ ap (λ z. z ++ words rest) e) ∙ take_at block (words rest) n long

pub numbers_rest : (n : ℕ) (front rest block : List ℕ) → words front ≡ block → length block ≡ n → drop n (words (front ++ rest)) ≡ words rest
numbers_rest n front rest block e long = ap (drop n) (words_append front rest ∙ ap (λ z. z ++ words rest) e) ∙ drop_at block (words rest) n long
