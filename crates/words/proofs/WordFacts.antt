-- A 32-bit word as its four bytes.
use Rattle.std.specs.Prelude.{◌≡◌, ℕ, zero, suc, ◌+◌, ◌-◌, ◌*◌, ◌/◌, ◌%◌, ◌^◌, ◌<◌, List, [], ◌∷◌, ◌++◌, bit_or, bit_xor}
use Rattle.std.proofs.Common.{sym, ap, subst, ◌∙◌, add-zero, arith}
use Rattle.std.proofs.Math.Nat.{mul-mod_left}
use Rattle.std.specs.Int.Bits.{or_self}
use Rattle.std.specs.Int.Digits.{number_from_digits}
use Rattle.std.proofs.lemmas.Nat.{mod-pow-add, shl-shr, or_shifted, shr_below, xor_shr, xor_mod}
use Rattle.ublock.specs.Cipher.{Halves, xor, be4, rotated, rotate}
use Rattle.ublock.proofs.Mixing.{beside}
use Rattle.words.specs.Words.{word, halves}

four : {a b c d a' b' c' d' : ℕ} → a ≡ a' → b ≡ b' → c ≡ c' → d ≡ d' → ◌≡◌ {A = List ℕ} (a ∷ b ∷ c ∷ d ∷ []) (a' ∷ b' ∷ c' ∷ d' ∷ [])
four e f g h = cc

-- ---- bytes and words
pub word_of_bytes : (a b c d n : ℕ) → a < 256 → b < 256 → c < 256 → d < 256 → n ≡ a * 16777216 + b * 65536 + c * 256 + d → word n ≡ a ∷ b ∷ c ∷ d ∷ []
unfolding word
word_of_bytes a b c d n ha hb hc hd e = four (omega arith) (omega arith) (omega arith) (omega arith)

number_of : (n p q a b c d : ℕ) → n ≡ p * 256 + d → p ≡ q * 256 + c → q ≡ a * 256 + b → number_from_digits 256 (a ∷ b ∷ c ∷ d ∷ []) ≡ n
number_of n p q a b c d e f g = omega arith

number-be4 : (n : ℕ) → n < 2 ^ 32 → number_from_digits 256 (be4 n) ≡ n
number-be4 n h =
    number_of n (n / 256) (n / 65536) (n / 16777216 % 256) (n / 65536 % 256) (n / 256 % 256) (n % 256) (omega arith) (omega arith) (omega arith)

-- ---- exclusive or
xor_byte : (x y s : ℕ) → bit_xor x y / 2 ^ s % 256 ≡ bit_xor (x / 2 ^ s % 256) (y / 2 ^ s % 256)
xor_byte x y s = ap (λ n. n % 256) (xor_shr x y s) ∙ xor_mod (x / 2 ^ s) (y / 2 ^ s) 8

pub word-xor : (x y : ℕ) → word (bit_xor x y) ≡ xor (word x) (word y)
unfolding word
word-xor x y = four (xor_byte x y 24) (xor_byte x y 16) (xor_byte x y 8) (xor_mod x y 8)

-- ---- rotation
rotated_parts : (b k n : ℕ) → b + k ≡ 32 → 0 < k → n < 2 ^ 32 → bit_or ((n * 2 ^ b) % 2 ^ 32) (n / 2 ^ k) ≡ (n * 2 ^ b) % 2 ^ 32 + n / 2 ^ k
rotated_parts b k n e pos l =
    let e' : k + b ≡ 32 = omega arith in
    let top : n < 2 ^ (b + k) = subst (λ m. n < 2 ^ m) (sym e) l in
    let f : (n * 2 ^ b) % 2 ^ 32 ≡ (n % 2 ^ k) * 2 ^ b =
    ap (λ m. (n * 2 ^ b) % 2 ^ m) (sym e') ∙ mod-pow-add (n * 2 ^ b) k b
    ∙ ap (λ m. (m % 2 ^ k) * 2 ^ b + (n * 2 ^ b) % 2 ^ b) (shl-shr n b) ∙ ap (λ m. (n % 2 ^ k) * 2 ^ b + m) (mul-mod_left n (2 ^ b)) ∙ add-zero _ in
    ap (λ m. bit_or m (n / 2 ^ k)) f ∙ or_shifted (n % 2 ^ k) b (n / 2 ^ k) (shr_below n b k top) ∙ ap (λ m. m + n / 2 ^ k) (sym f)

-- what `rotate_left` gives
rotated_is : (b n : ℕ) → b < 32 → n < 2 ^ 32 → bit_or ((n * 2 ^ (b % 32)) % 2 ^ 32) (n / 2 ^ ((32 - b % 32) % 32)) ≡ rotated b n
rotated_is zero n h l =
    let e : n * 1 % 2 ^ 32 ≡ n = omega arith in
    let f : n / 1 ≡ n = omega arith in
    let g : n / 2 ^ 32 ≡ 0 = omega arith in
    ap (λ m. bit_or m (n / 1)) e ∙ ap (bit_or n) f ∙ or_self n ∙ omega (arith, e, g)
rotated_is (suc b) n h l =
    let e : suc b % 32 ≡ suc b = omega arith in
    let f : (32 - suc b) % 32 ≡ 32 - suc b = omega arith in
    rw (e, f) (rotated_parts (suc b) (32 - suc b) n (omega arith) (omega arith) l)

pub word_rotated : (b n m : ℕ) → b < 32 → n < 2 ^ 32 → m ≡ bit_or ((n * 2 ^ (b % 32)) % 2 ^ 32) (n / 2 ^ ((32 - b % 32) % 32)) → word m ≡ rotate b (word n)
unfolding word
word_rotated b n m h l e = ap be4 (e ∙ rotated_is b n h l) ∙ ap (λ k. be4 (rotated b k)) (sym (number-be4 n l))

-- ---- two rows of pieces, one after the other
-- where f works piece by piece, so do halves that come from f of their pieces
pub piece_by_piece : (f : Halves → Halves) (l r l' r' a b a' b' : List ℕ) → f (beside (halves a b) (halves a' b')) ≡ beside (f (halves a b)) (f (halves a' b'))
    → halves l r ≡ f (halves a b) → halves l' r' ≡ f (halves a' b') → halves (l ++ l') (r ++ r') ≡ f (halves (a ++ a') (b ++ b'))
piece_by_piece f l r l' r' a b a' b' each e e' = ap (λ h. beside h (halves l' r')) e ∙ ap (beside (f (halves a b))) e' ∙ sym each
