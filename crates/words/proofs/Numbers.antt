-- The bytes of rows of 32-bit numbers.
use Rattle.std.proofs.Common.{◌≡◌, ℕ, zero, suc, ◌*◌, List, [], ◌∷◌, ◌++◌, take, drop, refl, sym, ap, ◌∙◌, arith, append_assoc}
use Rattle.std.proofs.lemmas.List.{take-append-drop}
use Rattle.ublock.specs.Laws.{Bytes}
use Rattle.ublock.proofs.Bytes.{bytes-append}
use Rattle.words.specs.Words.{word, words}

pub words_append : (xs ys : List ℕ) → words (xs ++ ys) ≡ words xs ++ words ys
words_append [] ys = refl
words_append (x ∷ xs) ys = ap (λ z. word x ++ z) (words_append xs ys) ∙ sym (append_assoc (word x) (words xs) (words ys))

-- a row in two parts
pub words_parts : (n : ℕ) (xs : List ℕ) → words (take n xs) ++ words (drop n xs) ≡ words xs
words_parts n xs = sym (words_append (take n xs) (drop n xs)) ∙ ap words (take-append-drop n xs)

-- the numbers at the front of a row have the bytes at the front
pub words_front : (n : ℕ) (xs : List ℕ) → words (take n xs) ≡ take (n * 4) (words xs)
unfolding word
words_front zero xs = refl
words_front (suc n) [] = let more : suc n * 4 ≡ suc (suc (suc (suc (n * 4)))) = omega arith in sym (ap (λ k. take k (words [])) more)
words_front (suc n) (x ∷ xs) =
    let more : suc n * 4 ≡ suc (suc (suc (suc (n * 4)))) = omega arith in
    ap (λ z. word x ++ z) (words_front n xs) ∙ sym (ap (λ k. take k (words (x ∷ xs))) more)

word_bytes_of : (n : ℕ) → Bytes (word n)
unfolding word
word_bytes_of n = (omega arith, (omega arith, (omega arith, (omega arith, tt))))

pub words_bytes : (xs : List ℕ) → Bytes (words xs)
words_bytes [] = tt
words_bytes (x ∷ xs) = bytes-append (word x) (words xs) (word_bytes_of x) (words_bytes xs)
