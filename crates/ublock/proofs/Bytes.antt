-- Lists of bytes: lengths, and bytes stay bytes.
use Rattle.std.proofs.Common.{◌≡◌, ℕ, zero, suc, ◌+◌, ◌<◌, ◌≤◌, T, ltb, List, [], ◌∷◌, ◌++◌, map, length, get_or, take, drop, sym, refl, ap, ◌∙◌, subst, arith, ltb→lt}
use lib.Bits.{bit_xor, xor_assoc, xor_self, xor_zero_r, xor_lt}
use lib.Lanes.{Each1, all_below}
use Rattle.std.proofs.lemmas.List.{get_or-map, length-map, length-append, length-take-le, length-drop}
use Rattle.std.proofs.lemmas.Simd.{pick_l_whole}
use Rattle.ublock.specs.Cipher.{xor, rotate, permute}
use Rattle.ublock.specs.Laws.{Bytes, Block, Undoes}
use Rattle.ublock.proofs.Check.{both}

-- ---- entry by entry
pub bytes_from : (xs : List ℕ) → ((k : ℕ) → get_or xs k 0 < 256) → Bytes xs
bytes_from [] h = tt
bytes_from (x ∷ xs) h = (h 0, bytes_from xs (λ k. h (suc k)))

-- ---- exclusive or
bit_xor_twice : (a b : ℕ) → bit_xor (bit_xor a b) b ≡ a
bit_xor_twice a b = xor_assoc a b b ∙ ap (bit_xor a) (xor_self b) ∙ xor_zero_r a

pub xor_twice : (xs ys : List ℕ) → xor (xor xs ys) ys ≡ xs
xor_twice [] ys = refl
xor_twice (x ∷ xs) [] = refl
xor_twice (x ∷ xs) (y ∷ ys) = rw (bit_xor_twice x y, xor_twice xs ys)

pub length-xor : (xs ys : List ℕ) → length (xor xs ys) ≡ length xs
length-xor [] ys = refl
length-xor (x ∷ xs) [] = refl
length-xor (x ∷ xs) (y ∷ ys) = ap suc (length-xor xs ys)

pub xor-append : (xs ks ys ls : List ℕ) → length xs ≡ length ks → xor (xs ++ ys) (ks ++ ls) ≡ xor xs ks ++ xor ys ls
xor-append [] [] ys ls e = refl
xor-append [] (k ∷ ks) ys ls e = absurd (omega arith)
xor-append (x ∷ xs) [] ys ls e = absurd (omega arith)
xor-append (x ∷ xs) (k ∷ ks) ys ls e = ap (λ zs. bit_xor x k ∷ zs) (xor-append xs ks ys ls (omega arith))

pub bytes-xor : (xs ys : List ℕ) → Bytes xs → Bytes ys → Bytes (xor xs ys)
bytes-xor [] ys s t = tt
bytes-xor (x ∷ xs) [] s t = s
bytes-xor (x ∷ xs) (y ∷ ys) s t = (xor_lt 8 x y s.0 t.0, bytes-xor xs ys s.1 t.1)

pub block-xor : (n : ℕ) (x k : List ℕ) → Block n x → Bytes k → Block n (xor x k)
block-xor n x k b kb = record { long = length-xor x k ∙ b.long; bytes = bytes-xor x k b.bytes kb }

-- ---- rotation
pub length-rotate : (b : ℕ) (xs : List ℕ) → length (rotate b xs) ≡ length xs
length-rotate b [] = refl
length-rotate b (p ∷ []) = refl
length-rotate b (p ∷ q ∷ []) = refl
length-rotate b (p ∷ q ∷ r ∷ []) = refl
length-rotate b (p ∷ q ∷ r ∷ s ∷ xs) = ap (λ n. suc (suc (suc (suc n)))) (length-rotate b xs)

pub bytes-rotate : (b : ℕ) (xs : List ℕ) → Bytes xs → Bytes (rotate b xs)
bytes-rotate b [] t = t
bytes-rotate b (p ∷ []) t = t
bytes-rotate b (p ∷ q ∷ []) t = t
bytes-rotate b (p ∷ q ∷ r ∷ []) t = t
bytes-rotate b (p ∷ q ∷ r ∷ s ∷ xs) t =
    (omega arith, (omega arith, (omega arith, (omega arith, bytes-rotate b xs t.1.1.1.1))))

-- ---- parts of a list
pub bytes-append : (xs ys : List ℕ) → Bytes xs → Bytes ys → Bytes (xs ++ ys)
bytes-append [] ys s t = t
bytes-append (x ∷ xs) ys s t = (s.0, bytes-append xs ys s.1 t)

pub bytes-take : (n : ℕ) (xs : List ℕ) → Bytes xs → Bytes (take n xs)
bytes-take zero xs t = tt
bytes-take (suc n) [] t = tt
bytes-take (suc n) (x ∷ xs) t = (t.0, bytes-take n xs t.1)

pub bytes-drop : (n : ℕ) (xs : List ℕ) → Bytes xs → Bytes (drop n xs)
bytes-drop zero xs t = t
bytes-drop (suc n) [] t = tt
bytes-drop (suc n) (x ∷ xs) t = bytes-drop n xs t.1

pub block-append : (m n : ℕ) (xs ys : List ℕ) → Block m xs → Block n ys → Block (m + n) (xs ++ ys)
block-append m n xs ys b c = record {
  long = length-append xs ys ∙ omega (arith, b.long, c.long);
  bytes = bytes-append xs ys b.bytes c.bytes;
}

pub block-take : (m n : ℕ) (xs : List ℕ) → m ≤ n → Block n xs → Block m (take m xs)
block-take m n xs h b = record { long = length-take-le m xs (omega (arith, b.long)); bytes = bytes-take m xs b.bytes }

pub block-drop : (m n k : ℕ) (xs : List ℕ) → k + m ≡ n → Block n xs → Block m (drop k xs)
block-drop m n k xs h b = record { long = length-drop k xs ∙ omega (arith, b.long); bytes = bytes-drop k xs b.bytes }

-- ---- a function on each byte
pub bytes-map : (f : ℕ → ℕ) → ((b : ℕ) → b < 256 → f b < 256) → (xs : List ℕ) → Bytes xs → Bytes (map f xs)
bytes-map f e [] t = tt
bytes-map f e (x ∷ xs) t = (e x t.0, bytes-map f e xs t.1)

pub block-map : (n : ℕ) (f : ℕ → ℕ) (x : List ℕ) → ((b : ℕ) → b < 256 → f b < 256) → Block n x → Block n (map f x)
block-map n f x e b = record { long = length-map x f ∙ b.long; bytes = bytes-map f e x b.bytes }

pub map_back : (f g : ℕ → ℕ) → ((b : ℕ) → b < 256 → g (f b) ≡ b) → (xs : List ℕ) → Bytes xs → map g (map f xs) ≡ xs
map_back f g e [] t = refl
map_back f g e (x ∷ xs) t = rw (e x t.0, map_back f g e xs t.1)

-- ---- permutation
element : (m : ℕ) → 0 < m → (xs : List ℕ) (k : ℕ) → Each1 (λ x. x < m) xs → get_or xs k 0 < m
element m pos [] k t = pos
element m pos (x ∷ xs) zero t = t.0
element m pos (x ∷ xs) (suc k) t = element m pos xs k t.1

-- a bound of each element bounds each that is picked, past the end too, where it is 0
pub bounded-permute : (m : ℕ) → 0 < m → (ks xs : List ℕ) → Each1 (λ x. x < m) xs → Each1 (λ x. x < m) (permute ks xs)
bounded-permute m pos [] xs t = tt
bounded-permute m pos (k ∷ ks) xs t = (element m pos xs k t, bounded-permute m pos ks xs t)

pub permute-permute : (xs ps qs : List ℕ) → T (all_below (length ps) qs) → permute qs (permute ps xs) ≡ permute (permute qs ps) xs
permute-permute xs ps [] t = refl
permute-permute xs ps (q ∷ qs) t =
    let ts = both (ltb q (length ps)) (all_below (length ps) qs) t in
    rw (get_or-map (λ p. get_or xs p 0) ps q 0 0 (ltb→lt q (length ps) ts.0), permute-permute xs ps qs ts.1)

pub permute_back : (m : ℕ) (qs ps xs : List ℕ) → Undoes m qs ps → length xs ≡ m → permute qs (permute ps xs) ≡ xs
permute_back m qs ps xs u long =
    permute-permute xs ps qs (subst (λ n. T (all_below n qs)) (sym u.long) u.below)
    ∙ ap (λ ks. permute ks xs) u.identity ∙ pick_l_whole 0 xs m long
