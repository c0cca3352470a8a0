-- Words as 32-bit pieces, and the rotation of each piece.
use Rattle.std.proofs.Common.{◌≡◌, ℕ, ◌-◌, ◌*◌, ◌/◌, ◌%◌, ◌^◌, ◌<◌, List, [], ◌∷◌, ◌++◌, map, length, sym, refl, ap, ◌∙◌, subst, arith, Fits, w32, w64}
use lib.Bits.{bit_or}
use lib.Lanes.{Each1, zip2, number_l, digits_l}
use Rattle.std.specs.Prelude.{replicate}
use Rattle.std.proofs.lemmas.Simd.{below_from_Fits, zip2_splat, zip2_of_maps}
use Rattle.ublock.specs.Cipher.{be4, rotated, rotate}
use Rattle.ublock.specs.Laws.{Bytes}
use Rattle.std.specs.Int.Digits.{number_from_digits}
use Rattle.words.specs.Words.{word}
use Rattle.words.proofs.WordFacts.{word_rotated}
use Rattle.vectors.specs.Vectors.{word64, vector_bytes, pieces}
use Rattle.vectors.proofs.Words.{Vector, bytes_vector}
use Rattle.vectors.proofs.Digits.{digits_each, number_l-digits_l, digits_l-number_l, number_l-lt, digits_each-digits_l}

-- a vector by way of its bytes, in lanes of another width
abbrev pub recast : ℕ → ℕ → ℕ → List ℕ → List ℕ
recast p q n xs = digits_l q n (number_l 256 (digits_l 256 32 (number_l p xs)))

recast_number : (p q n : ℕ) (xs : List ℕ) → p ^ length xs ≡ 256 ^ 32 → Each1 (λ x. x < p) xs → recast p q n xs ≡ digits_l q n (number_l p xs)
recast_number p q n xs e t =
    ap (digits_l q n) (number_l-digits_l 256 32 (number_l p xs) (omega arith) (subst (λ m. number_l p xs < m) e (number_l-lt p xs t)))

digits_pieces : (ws : List ℕ) → digits_each (2 ^ 32) 2 ws ≡ pieces ws
digits_pieces [] = refl
digits_pieces (w ∷ ws) = ap (λ ps. (w % 4294967296) ∷ (w / 4294967296 % 4294967296) ∷ ps) (digits_pieces ws)

pub to_pieces_is : (ws : List ℕ) → Vector ws → recast (2 ^ 64) (2 ^ 32) 8 ws ≡ pieces ws
to_pieces_is ws v =
    let t = below_from_Fits w64 ws v.1 in
    recast_number (2 ^ 64) (2 ^ 32) 8 ws (ap (λ n. (2 ^ 64) ^ n) v.0) t
    ∙ sym (digits_each-digits_l (2 ^ 32) (omega arith) 2 4 (number_l (2 ^ 64) ws))
    ∙ ap (digits_each (2 ^ 32) 2) (ap (λ n. digits_l (2 ^ 64) n (number_l (2 ^ 64) ws)) (sym v.0) ∙ digits_l-number_l (2 ^ 64) ws t)
    ∙ digits_pieces ws

pub from_pieces_is : (ps : List ℕ) → length ps ≡ 8 → Each1 (Fits w32) ps → pieces (recast (2 ^ 32) (2 ^ 64) 4 ps) ≡ ps
from_pieces_is ps l f =
    let t = below_from_Fits w32 ps f in
    ap pieces (recast_number (2 ^ 32) (2 ^ 64) 4 ps (ap (λ n. (2 ^ 32) ^ n) l) t)
    ∙ sym (digits_pieces (digits_l (2 ^ 64) 4 (number_l (2 ^ 32) ps)))
    ∙ digits_each-digits_l (2 ^ 32) (omega arith) 2 4 (number_l (2 ^ 32) ps)
    ∙ ap (λ n. digits_l (2 ^ 32) n (number_l (2 ^ 32) ps)) (sym l) ∙ digits_l-number_l (2 ^ 32) ps t

-- ---- the bytes by the pieces
abbrev piece_bytes : List ℕ → List ℕ
piece_bytes [] = []
piece_bytes (l ∷ []) = []
piece_bytes (l ∷ h ∷ ps) = be4 h ++ (be4 l ++ piece_bytes ps)

be4-mod : (n : ℕ) → be4 (n % 2 ^ 32) ≡ be4 n
be4-mod n =
    let a : n % 2 ^ 32 / 16777216 % 256 ≡ n / 16777216 % 256 = omega arith in
    let b : n % 2 ^ 32 / 65536 % 256 ≡ n / 65536 % 256 = omega arith in
    let c : n % 2 ^ 32 / 256 % 256 ≡ n / 256 % 256 = omega arith in
    let d : n % 2 ^ 32 % 256 ≡ n % 256 = omega arith in
    cc

three : {a b c a' b' c' : List ℕ} → a ≡ a' → b ≡ b' → c ≡ c' → a ++ (b ++ c) ≡ a' ++ (b' ++ c')
three e f g = cc

vector_bytes-pieces : (ws : List ℕ) → piece_bytes (pieces ws) ≡ vector_bytes ws
unfolding word64
vector_bytes-pieces [] = refl
vector_bytes-pieces (w ∷ ws) = three (be4-mod (w / 2 ^ 32)) (be4-mod w) (vector_bytes-pieces ws)

-- two shifts of a piece, joined
abbrev rotated_piece : ℕ → ℕ → ℕ
rotated_piece b x = bit_or (x * 2 ^ b % 2 ^ 32) (x / 2 ^ (32 - b))

module _ (b : ℕ) (pos : 0 < b) (lt : b < 32) where
  rotated_be4 : (n : ℕ) → be4 (rotated_piece b (n % 2 ^ 32)) ≡ rotate b (be4 n)
  unfolding word
  rotated_be4 n =
      let e : b % 32 ≡ b = omega arith in
      let f : (32 - b % 32) % 32 ≡ 32 - b = omega arith in
      word_rotated b (n % 2 ^ 32) (rotated_piece b (n % 2 ^ 32)) lt (omega arith) (cc) ∙ ap (rotate b) (be4-mod n)

  rotated_pieces : (ws : List ℕ) → piece_bytes (map (rotated_piece b) (pieces ws)) ≡ rotate b (vector_bytes ws)
  unfolding word64
  rotated_pieces [] = refl
  rotated_pieces (w ∷ ws) = three (rotated_be4 (w / 2 ^ 32)) (rotated_be4 w) (rotated_pieces ws)

  -- the vector whose pieces are those of ws, each shifted both ways
  pub rotated_is : (ws vs rs : List ℕ) → length vs ≡ 8 → vs ≡ pieces ws
      → pieces rs ≡ zip2 bit_or (zip2 (λ x k. x * 2 ^ k % 2 ^ 32) vs (replicate 8 b)) (zip2 (λ x k. x / 2 ^ k) vs (replicate 8 (32 - b)))
      → vector_bytes rs ≡ rotate b (vector_bytes ws)
  rotated_is ws vs rs l e f =
      sym (vector_bytes-pieces rs)
      ∙ ap piece_bytes (f ∙ zip2_of_maps bit_or _ _ vs (zip2_splat _ vs 8 b l) (zip2_splat _ vs 8 (32 - b) l) ∙ ap (map (rotated_piece b)) e)
      ∙ rotated_pieces ws

-- ---- no rotation
be4-number : (p q r s : ℕ) → p < 256 → q < 256 → r < 256 → s < 256 → be4 (rotated 0 (number_from_digits 256 (p ∷ q ∷ r ∷ s ∷ []))) ≡ p ∷ q ∷ r ∷ s ∷ []
be4-number p q r s hp hq hr hs =
    let n = number_from_digits 256 (p ∷ q ∷ r ∷ s ∷ []) in
    let e : rotated 0 n ≡ n = omega arith in
    let a : n / 16777216 % 256 ≡ p = omega arith in
    let b : n / 65536 % 256 ≡ q = omega arith in
    let c : n / 256 % 256 ≡ r = omega arith in
    let d : n % 256 ≡ s = omega arith in
    ap be4 e ∙ cc

rotate_none : (xs : List ℕ) → Bytes xs → rotate 0 xs ≡ xs
rotate_none [] t = refl
rotate_none (p ∷ []) t = refl
rotate_none (p ∷ q ∷ []) t = refl
rotate_none (p ∷ q ∷ r ∷ []) t = refl
rotate_none (p ∷ q ∷ r ∷ s ∷ xs) t =
    ap (λ ys. ys ++ rotate 0 xs) (be4-number p q r s t.0 t.1.0 t.1.1.0 t.1.1.1.0) ∙ ap (λ ys. p ∷ q ∷ r ∷ s ∷ ys) (rotate_none xs t.1.1.1.1)

pub unrotated : (ws : List ℕ) → rotate 0 (vector_bytes ws) ≡ vector_bytes ws
unrotated ws = rotate_none (vector_bytes ws) (bytes_vector ws)
