-- Words of bytes, and bytes of words.
use Rattle.std.specs.Prelude.{◌≡◌, ℕ, zero, suc, ◌+◌, ◌*◌, ◌/◌, ◌%◌, ◌<◌, ◌≤◌, List, [], ◌∷◌, ◌++◌, length, take, drop, slice_index, refl}
use borrow.Rule.Slice.PartMut.{put_mid}
use Rattle.vectors.proofs.Words.{length_vector}
use Rattle.std.proofs.Common.{sym, ap, ◌∙◌, arith, add-one}
use Rattle.std.proofs.lemmas.Simd.{pick_l_whole}
use Rattle.std.proofs.lemmas.List.{drop-drop, take-append-drop, append-nil, append_assoc, take_at, drop_at, length-take-le, length-append, length-drop}
use Rattle.ublock.specs.Cipher.{be4}
use Rattle.vectors.specs.Vectors.{word64, vector_bytes}

-- one word before those from the next eight bytes on
pub word_before : (bytes : List ℕ) (n w : ℕ) (rest : List ℕ) → word64 w ≡ take 8 (drop n bytes) → rest ≡ drop (n + 8) bytes → word64 w ++ rest ≡ drop n bytes
word_before bytes n w rest e f =
    ap (λ x. x ++ rest) e ∙ ap (λ y. take 8 (drop n bytes) ++ y) (f ∙ sym (drop-drop 8 n bytes)) ∙ take-append-drop 8 (drop n bytes)

four : {a b c d a' b' c' d' : ℕ} → a ≡ a' → b ≡ b' → c ≡ c' → d ≡ d' → ◌≡◌ {A = List ℕ} (a ∷ b ∷ c ∷ d ∷ []) (a' ∷ b' ∷ c' ∷ d' ∷ [])
four e f g h = cc

-- the bytes of the upper and of the lower half of a word
word64_in_halves : (hi lo n : ℕ) → lo < 4294967296 → n ≡ hi * 4294967296 + lo → word64 n ≡ be4 hi ++ be4 lo
unfolding word64
word64_in_halves hi lo n l e =
    let top : n / 4294967296 ≡ hi = omega arith in
    let low : be4 n ≡ be4 lo = four (omega arith) (omega arith) (omega arith) (omega arith) in
    ap (λ m. be4 m ++ be4 n) top ∙ ap (λ x. be4 hi ++ x) low

be4_of : (a b c d n : ℕ) → a < 256 → b < 256 → c < 256 → d < 256 → n ≡ a * 16777216 + b * 65536 + c * 256 + d → be4 n ≡ a ∷ b ∷ c ∷ d ∷ []
be4_of a b c d n ha hb hc hd e = four (omega arith) (omega arith) (omega arith) (omega arith)

-- the word that from_be_bytes makes of eight bytes
pub word64_of_bytes : (bs : List ℕ) (n : ℕ) → length bs ≡ 8 → ((k : ℕ) → slice_index bs k < 256)
    → n ≡ slice_index bs 0 * 72057594037927936 + slice_index bs 1 * 281474976710656 + slice_index bs 2 * 1099511627776 + slice_index bs 3 * 4294967296
    + slice_index bs 4 * 16777216 + slice_index bs 5 * 65536 + slice_index bs 6 * 256 + slice_index bs 7
    → word64 n ≡ bs
word64_of_bytes bs n l t e =
    let t0 = t 0 in let t1 = t 1 in let t2 = t 2 in let t3 = t 3 in let t4 = t 4 in let t5 = t 5 in let t6 = t 6 in let t7 = t 7 in
    word64_in_halves (slice_index bs 0 * 16777216 + slice_index bs 1 * 65536 + slice_index bs 2 * 256 + slice_index bs 3)
    (slice_index bs 4 * 16777216 + slice_index bs 5 * 65536 + slice_index bs 6 * 256 + slice_index bs 7) n (omega arith) (omega arith)
    ∙ ap (λ x. x ++ be4 (slice_index bs 4 * 16777216 + slice_index bs 5 * 65536 + slice_index bs 6 * 256 + slice_index bs 7))
    (be4_of (slice_index bs 0) (slice_index bs 1) (slice_index bs 2) (slice_index bs 3) _ t0 t1 t2 t3 refl)
    ∙ ap (λ y. slice_index bs 0 ∷ slice_index bs 1 ∷ slice_index bs 2 ∷ slice_index bs 3 ∷ y) (be4_of (slice_index bs 4) (slice_index bs 5) (slice_index bs 6) (slice_index bs 7) _ t4 t5 t6 t7 refl)
    ∙ pick_l_whole 0 bs 8 l

-- ---- bytes of words, one word after the other
one_word_more : (words : List ℕ) (k : ℕ) → k < length words → vector_bytes (take (suc k) words) ≡ vector_bytes (take k words) ++ word64 (slice_index words k)
one_word_more [] k h = absurd (omega arith)
one_word_more (w ∷ ws) zero h = append-nil (word64 w)
one_word_more (w ∷ ws) (suc k) h = ap (λ x. word64 w ++ x) (one_word_more ws k (omega arith)) ∙ sym (append_assoc (word64 w) (vector_bytes (take k ws)) (word64 (slice_index ws k)))

-- written over the place after the front
written_after : (front after x : List ℕ) (m n : ℕ) → length front ≡ m → put_mid m n (front ++ after) x ≡ (front ++ x) ++ drop n after
written_after front after x m n l =
    ap (λ y. y ++ (x ++ drop n (drop m (front ++ after)))) (take_at front after m l) ∙ ap (λ y. front ++ (x ++ drop n y)) (drop_at front after m l)
    ∙ sym (append_assoc front x (drop n after))

pub word_written : (words rest bytes x : List ℕ) (k n : ℕ) → k < length words → n ≡ 8 → bytes ≡ vector_bytes (take k words) ++ drop (k * 8) rest → x ≡ word64 (slice_index words k)
    → put_mid (k * 8) n bytes x ≡ vector_bytes (take (k + 1) words) ++ drop ((k + 1) * 8) rest
word_written words rest bytes x k n h en e ex =
    let front = vector_bytes (take k words) in
    let long : length front ≡ k * 8 = length_vector (take k words) ∙ ap (λ m. m * 8) (length-take-le k words (omega arith)) in
    let next : k * 8 + 8 ≡ (k + 1) * 8 = omega arith in
    ap (λ m. put_mid (k * 8) m bytes x) en ∙ ap (λ y. put_mid (k * 8) 8 y x) e ∙ written_after front (drop (k * 8) rest) x (k * 8) 8 long
    ∙ ap (λ y. (front ++ y) ++ drop 8 (drop (k * 8) rest)) ex
    ∙ ap (λ y. y ++ drop 8 (drop (k * 8) rest)) (sym (one_word_more words k h) ∙ ap (λ m. vector_bytes (take m words)) (sym (add-one k)))
    ∙ ap (λ y. vector_bytes (take (k + 1) words) ++ y) (drop-drop 8 (k * 8) rest ∙ ap (λ m. drop m rest) next)

pub length_written : (words rest bytes : List ℕ) (k : ℕ) → k ≤ length words → k * 8 ≤ length rest → bytes ≡ vector_bytes (take k words) ++ drop (k * 8) rest → length bytes ≡ length rest
length_written words rest bytes k h l e =
    ap length e ∙ length-append (vector_bytes (take k words)) (drop (k * 8) rest)
    ∙ omega (arith, length_vector (take k words), length-take-le k words h, length-drop (k * 8) rest)

-- the bytes that to_be_bytes makes of a word
pub word64_bytes : (n : ℕ) → ◌≡◌ {A = List ℕ} ((n / 72057594037927936 % 256) ∷ (n / 281474976710656 % 256) ∷ (n / 1099511627776 % 256) ∷ (n / 4294967296 % 256)
    ∷ (n / 16777216 % 256) ∷ (n / 65536 % 256) ∷ (n / 256 % 256) ∷ (n % 256) ∷ []) (word64 n)
unfolding word64
word64_bytes n =
    let upper : be4 (n / 4294967296) ≡ (n / 72057594037927936 % 256) ∷ (n / 281474976710656 % 256) ∷ (n / 1099511627776 % 256) ∷ (n / 4294967296 % 256) ∷ [] =
    four (omega arith) (omega arith) (omega arith) refl in
    sym (ap (λ x. x ++ be4 n) upper)
