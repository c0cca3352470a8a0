-- A 64-bit word as its eight bytes, and a vector as those of its words.
use Rattle.std.proofs.Common.{◌≡◌, ℕ, ◌*◌, ◌/◌, ◌%◌, ◌^◌, List, [], ◌∷◌, ◌++◌, map, length, sym, refl, ap, ◌∙◌, arith, Fits, w64}
use lib.Bits.{bit_xor}
use lib.Lanes.{Each1, zip2}
use Rattle.std.proofs.lemmas.List.{map-append, length-append}
use Rattle.std.proofs.lemmas.Nat.{xor_shr}
use Rattle.ublock.specs.Cipher.{xor, be4}
use Rattle.ublock.specs.Laws.{Bytes}
use Rattle.ublock.proofs.Bytes.{xor-append, bytes-append}
use Rattle.words.specs.Words.{word}
use Rattle.words.proofs.WordFacts.{word-xor}
use Rattle.vectors.specs.Vectors.{word64, vector_bytes}

-- four words that fit, as the check knows of every `u64x4`
abbrev pub Vector : List ℕ → Type 0
Vector ws = (length ws ≡ 4) × Each1 (Fits w64) ws

-- ---- one word
pub bytes_word64 : (w : ℕ) → Bytes (word64 w)
unfolding word64
bytes_word64 w = (omega arith, (omega arith, (omega arith, (omega arith, (omega arith, (omega arith, (omega arith, (omega arith, tt))))))))

pub length-word64 : (w : ℕ) → length (word64 w) ≡ 8
unfolding word64
length-word64 w = refl

pub eight : {a b c d e f g h a' b' c' d' e' f' g' h' : ℕ} → a ≡ a' → b ≡ b' → c ≡ c' → d ≡ d' → e ≡ e' → f ≡ f' → g ≡ g' → h ≡ h'
    → ◌≡◌ {A = List ℕ} (a ∷ b ∷ c ∷ d ∷ e ∷ f ∷ g ∷ h ∷ []) (a' ∷ b' ∷ c' ∷ d' ∷ e' ∷ f' ∷ g' ∷ h' ∷ [])
eight e0 e1 e2 e3 e4 e5 e6 e7 = cc

-- the bytes by single shifts
pub word64_is : (n : ℕ) → word64 n ≡ map (λ s. n / 2 ^ s % 256) (56 ∷ 48 ∷ 40 ∷ 32 ∷ 24 ∷ 16 ∷ 8 ∷ 0 ∷ [])
unfolding word64
word64_is n = eight (omega arith) (omega arith) (omega arith) (omega arith) refl refl refl (omega arith)

be4-xor : (x y : ℕ) → be4 (bit_xor x y) ≡ xor (be4 x) (be4 y)
unfolding word
be4-xor x y = word-xor x y

pub word64-xor : (x y : ℕ) → word64 (bit_xor x y) ≡ xor (word64 x) (word64 y)
unfolding word64
word64-xor x y =
    ap (λ n. be4 n ++ be4 (bit_xor x y)) (xor_shr x y 32) ∙ ap (λ zs. zs ++ be4 (bit_xor x y)) (be4-xor (x / 2 ^ 32) (y / 2 ^ 32))
    ∙ ap (λ zs. xor (be4 (x / 2 ^ 32)) (be4 (y / 2 ^ 32)) ++ zs) (be4-xor x y)

-- ---- the words of a vector
-- two vectors word by word through f, which acts on the bytes of the one as g
pub vector_bytes-zip : (f : ℕ → ℕ → ℕ) (g : ℕ → ℕ) → ((u v : ℕ) → word64 (f u v) ≡ map g (word64 u)) → (us vs : List ℕ) → length us ≡ length vs
    → vector_bytes (zip2 f us vs) ≡ map g (vector_bytes us)
vector_bytes-zip f g e [] vs l = refl
vector_bytes-zip f g e (u ∷ us) [] l = absurd (omega arith)
vector_bytes-zip f g e (u ∷ us) (v ∷ vs) l =
    ap (λ xs. xs ++ vector_bytes (zip2 f us vs)) (e u v) ∙ ap (λ ys. map g (word64 u) ++ ys) (vector_bytes-zip f g e us vs (omega arith)) ∙ sym (map-append g (word64 u) (vector_bytes us))

-- the same, where it acts on the other's
pub vector_bytes-zip_right : (f : ℕ → ℕ → ℕ) (g : ℕ → ℕ) → ((u v : ℕ) → word64 (f u v) ≡ map g (word64 v)) → (us vs : List ℕ) → length us ≡ length vs
    → vector_bytes (zip2 f us vs) ≡ map g (vector_bytes vs)
vector_bytes-zip_right f g e [] [] l = refl
vector_bytes-zip_right f g e (u ∷ us) [] l = absurd (omega arith)
vector_bytes-zip_right f g e [] (v ∷ vs) l = absurd (omega arith)
vector_bytes-zip_right f g e (u ∷ us) (v ∷ vs) l =
    ap (λ xs. xs ++ vector_bytes (zip2 f us vs)) (e u v) ∙ ap (λ ys. map g (word64 v) ++ ys) (vector_bytes-zip_right f g e us vs (omega arith)) ∙ sym (map-append g (word64 v) (vector_bytes vs))

pub vector_bytes-xor : (xs ys : List ℕ) → length xs ≡ length ys → vector_bytes (zip2 bit_xor xs ys) ≡ xor (vector_bytes xs) (vector_bytes ys)
vector_bytes-xor [] ys e = refl
vector_bytes-xor (x ∷ xs) [] e = absurd (omega arith)
vector_bytes-xor (x ∷ xs) (y ∷ ys) e =
    ap (λ zs. zs ++ vector_bytes (zip2 bit_xor xs ys)) (word64-xor x y) ∙ ap (λ zs. xor (word64 x) (word64 y) ++ zs) (vector_bytes-xor xs ys (omega arith))
    ∙ sym (xor-append (word64 x) (word64 y) (vector_bytes xs) (vector_bytes ys) (length-word64 x ∙ sym (length-word64 y)))

pub bytes_vector : (ws : List ℕ) → Bytes (vector_bytes ws)
bytes_vector [] = tt
bytes_vector (w ∷ ws) = bytes-append (word64 w) (vector_bytes ws) (bytes_word64 w) (bytes_vector ws)

pub length_vector : (ws : List ℕ) → length (vector_bytes ws) ≡ length ws * 8
length_vector [] = refl
length_vector (w ∷ ws) = length-append (word64 w) (vector_bytes ws) ∙ omega (arith, length-word64 w, length_vector ws)

-- the same, where the vector is cut into `count` parts of m bytes
pub length_in_parts : (count m : ℕ) (ws : List ℕ) → count * m ≡ 32 → length ws ≡ 4 → length (vector_bytes ws) ≡ count * m
length_in_parts count m ws e l = length_vector ws ∙ omega arith
