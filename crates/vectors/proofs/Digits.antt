-- The lanes of a vector in lanes of another width: the digits of one number, the lowest first, in two bases.
use Rattle.std.proofs.Common.{◌≡◌, ℕ, zero, suc, ◌+◌, ◌*◌, ◌/◌, ◌%◌, ◌^◌, ◌<◌, List, [], ◌∷◌, ◌++◌, length, sym, refl, ap, ◌∙◌, arith}
use lib.Lanes.{Each1, number_l, digits_l}
use Rattle.std.proofs.lemmas.Nat.{div_below, mod-mul-add, div-mul-add, mul-add-lt}
use Rattle.std.proofs.Math.Nat.{pow-zero, pow-suc, zero-add, zero-mul, div-one, div-div-eq-div-mul, mul_comm, one-le-pow}
use Rattle.std.proofs.Math.Arith.{mod-mul}

-- k digits of each number, one number after the other
abbrev pub digits_each : ℕ → ℕ → List ℕ → List ℕ
digits_each q k [] = []
digits_each q k (w ∷ ws) = digits_l q k w ++ digits_each q k ws

-- ---- digits and their number
pub number_l-digits_l : (p n x : ℕ) → 0 < p → x < p ^ n → number_l p (digits_l p n x) ≡ x
number_l-digits_l p zero x pos h = omega (arith, pow-zero p)
number_l-digits_l p (suc n) x pos h =
    let e = pow-suc p n in
    let lt : x / p < p ^ n = div_below x p (p ^ n) pos (omega arith) in
    ap (λ m. x % p + p * m) (number_l-digits_l p n (x / p) pos lt) ∙ omega arith

module _ (p : ℕ) where
  lowest : (x n : ℕ) → x < p → ((x + p * n) % p ≡ x) × ((x + p * n) / p ≡ n)
  lowest x n h =
      let e : x + p * n ≡ n * p + x = omega arith in
      (ap (λ m. m % p) e ∙ mod-mul-add n p x h, ap (λ m. m / p) e ∙ div-mul-add n p x h)

  pub digits_l-number_l : (xs : List ℕ) → Each1 (λ x. x < p) xs → digits_l p (length xs) (number_l p xs) ≡ xs
  digits_l-number_l [] t = refl
  digits_l-number_l (x ∷ xs) t =
      let e = lowest x (number_l p xs) t.0 in
      rw (e.0, e.1, digits_l-number_l xs t.1)

  pub number_l-lt : (xs : List ℕ) → Each1 (λ x. x < p) xs → number_l p xs < p ^ length xs
  number_l-lt [] t = omega (arith, pow-zero p)
  number_l-lt (x ∷ xs) t =
      omega (arith, pow-suc p (length xs), mul-add-lt (number_l p xs) p x (p ^ length xs) (number_l-lt xs t.1) t.0)

pub digits_l-below : (p : ℕ) → 0 < p → (n x : ℕ) → Each1 (λ d. d < p) (digits_l p n x)
digits_l-below p pos zero x = tt
digits_l-below p pos (suc n) x = (omega arith, digits_l-below p pos n (x / p))

-- ---- digits of digits
module _ (q : ℕ) (pos : 0 < q) where
  shorter : (k x : ℕ) → x / q ^ suc k ≡ x / q / q ^ k
  shorter k x = ap (λ n. x / n) (pow-suc q k ∙ mul_comm (q ^ k) q) ∙ sym (div-div-eq-div-mul x q (q ^ k))

  digits_l-add : (k m x : ℕ) → digits_l q (k + m) x ≡ digits_l q k x ++ digits_l q m (x / q ^ k)
  digits_l-add zero m x = ap (λ n. digits_l q n x) (zero-add m) ∙ ap (digits_l q m) (sym (ap (λ n. x / n) (pow-zero q) ∙ div-one x))
  digits_l-add (suc k) m x =
      let e : suc k + m ≡ suc (k + m) = omega arith in
      ap (λ n. digits_l q n x) e ∙ ap (λ ys. (x % q) ∷ ys) (digits_l-add k m (x / q) ∙ ap (λ n. digits_l q k (x / q) ++ digits_l q m n) (sym (shorter k x)))

  digits_l-mod : (k x : ℕ) → digits_l q k (x % q ^ k) ≡ digits_l q k x
  digits_l-mod zero x = refl
  digits_l-mod (suc k) x =
      let e = ap (λ n. x % n) (pow-suc q k) ∙ mod-mul x {m = q ^ k} {c = q} (one-le-pow k q pos) pos in
      let low : x % q < q = omega arith in
      ap (digits_l q (suc k)) e
      ∙ ap (λ n. n ∷ digits_l q k ((x / q % q ^ k * q + x % q) / q)) (mod-mul-add (x / q % q ^ k) q (x % q) low)
      ∙ ap (λ n. (x % q) ∷ digits_l q k n) (div-mul-add (x / q % q ^ k) q (x % q) low)
      ∙ ap (λ ys. (x % q) ∷ ys) (digits_l-mod k (x / q))

  -- the digits in base q ^ k, each as k digits in base q
  pub digits_each-digits_l : (k n x : ℕ) → digits_each q k (digits_l (q ^ k) n x) ≡ digits_l q (n * k) x
  digits_each-digits_l k zero x = ap (λ n. digits_l q n x) (sym (zero-mul k))
  digits_each-digits_l k (suc n) x =
      let e : suc n * k ≡ k + n * k = omega arith in
      ap (λ ys. ys ++ digits_each q k (digits_l (q ^ k) n (x / q ^ k))) (digits_l-mod k x)
      ∙ ap (λ ys. digits_l q k x ++ ys) (digits_each-digits_l k n (x / q ^ k))
      ∙ sym (ap (λ m. digits_l q m x) e ∙ digits_l-add k (n * k) x)
