-- Round and inverse round undo each other, and so do enciphering and deciphering, for every layout whose
-- permutations have inverses, any number of rounds and any round keys.
use Rattle.std.proofs.Common.{◌≡◌, ℕ, zero, suc, ◌+◌, List, ◌++◌, length, get_or, sym, refl, ap, ◌∙◌, arith}
use Rattle.std.proofs.lemmas.List.{length-map, length-append, length-take, length-drop, map-append, take_at, drop_at, take-append-drop}
use Rattle.ublock.specs.Cipher.{S, S_inverse, on_nibbles, substitute, xor, permute, Halves, mixed, unmixed, permuted, split, joined, Layout, round, inverse_round, rounds, inverse_rounds, block_length}
use Rattle.ublock.specs.Laws.{Bytes, Block, Undoes, Invertible, RoundUndone, CipherPermutes}
use Rattle.ublock.proofs.Bytes.{xor_twice, length-xor, xor-append, bytes-xor, bytes-append, bytes-take, bytes-drop, bytes-map, map_back, bounded-permute, permute_back}
use Rattle.ublock.proofs.Mixing.{Long, BothBytes, unmixed-mixed, mixed-unmixed, mixed_long, unmixed_long, mixed_bytes, unmixed_bytes}
use Rattle.ublock.proofs.TableRules.{substitution_undone}

permuted_long : (m : ℕ) (pl pr : List ℕ) (h : Halves) → length pl ≡ m → length pr ≡ m → Long m (permuted pl pr h)
permuted_long m pl pr h l r = record {
  left = length-map pl (λ k. get_or h.left k 0) ∙ l;
  right = length-map pr (λ k. get_or h.right k 0) ∙ r;
}

permuted_bytes : (pl pr : List ℕ) (h : Halves) → BothBytes h → BothBytes (permuted pl pr h)
permuted_bytes pl pr h p = record {
  left = bounded-permute 256 (omega arith) pl h.left p.left;
  right = bounded-permute 256 (omega arith) pr h.right p.right;
}

permuted_back :
    (m : ℕ) (pl pr ql qr : List ℕ) (h : Halves) → Undoes m ql pl → Undoes m qr pr → Long m h
    → permuted ql qr (permuted pl pr h) ≡ h
permuted_back m pl pr ql qr h ul ur l = rw (permute_back m ql pl h.left ul l.left, permute_back m qr pr h.right ur l.right)

split_long : (m : ℕ) (x : List ℕ) → length x ≡ m + m → Long m (split m x)
split_long m x e = record { left = length-take m x ∙ omega arith; right = length-drop m x ∙ omega arith }

split_bytes : (m : ℕ) (x : List ℕ) → Bytes x → BothBytes (split m x)
split_bytes m x t = record { left = bytes-take m x t; right = bytes-drop m x t }

joined_long : (m : ℕ) (h : Halves) → Long m h → length (joined h) ≡ m + m
joined_long m h l = length-append h.left h.right ∙ omega (arith, l.left, l.right)

joined_bytes : (h : Halves) → BothBytes h → Bytes (joined h)
joined_bytes h p = bytes-append h.left h.right p.left p.right

pub split-joined : (m : ℕ) (h : Halves) → length h.left ≡ m → split m (joined h) ≡ h
split-joined m h e = rw (take_at h.left h.right m e, drop_at h.left h.right m e)

-- ---- the linear part of a round and its inverse
abbrev linear : Layout → List ℕ → List ℕ
linear l v = joined (permuted l.PL l.PR (mixed l.mixing (split l.half v)))

abbrev unlinear : Layout → List ℕ → List ℕ
unlinear l y = joined (unmixed l.mixing (permuted l.PL_inverse l.PR_inverse (split l.half y)))

module _ (l : Layout) (ok : Invertible l) where
  linear_long : (v : List ℕ) → length v ≡ block_length l → length (linear l v) ≡ block_length l
  linear_long v e = joined_long l.half _ (permuted_long l.half l.PL l.PR _ ok.left.long ok.right.long)

  unlinear_long : (y : List ℕ) → length y ≡ block_length l → length (unlinear l y) ≡ block_length l
  unlinear_long y e =
      joined_long l.half _ (unmixed_long l.half l.mixing _
      (permuted_long l.half l.PL_inverse l.PR_inverse _ ok.left_back.long ok.right_back.long))

  linear_bytes : (v : List ℕ) → Bytes v → Bytes (linear l v)
  linear_bytes v t = joined_bytes _ (permuted_bytes l.PL l.PR _ (mixed_bytes l.mixing _ (split_bytes l.half v t)))

  unlinear_bytes : (y : List ℕ) → Bytes y → Bytes (unlinear l y)
  unlinear_bytes y t = joined_bytes _ (unmixed_bytes l.mixing _ (permuted_bytes l.PL_inverse l.PR_inverse _ (split_bytes l.half y t)))

  unlinear-linear : (v : List ℕ) → length v ≡ block_length l → unlinear l (linear l v) ≡ v
  unlinear-linear v e =
      let h = split l.half v in
      let m = mixed_long l.half l.mixing h (split_long l.half v e) in
      let p = permuted_long l.half l.PL l.PR (mixed l.mixing h) ok.left.long ok.right.long in
      ap (λ g. joined (unmixed l.mixing (permuted l.PL_inverse l.PR_inverse g))) (split-joined l.half (permuted l.PL l.PR (mixed l.mixing h)) p.left)
      ∙ ap (λ g. joined (unmixed l.mixing g)) (permuted_back l.half l.PL l.PR l.PL_inverse l.PR_inverse (mixed l.mixing h) ok.left ok.right m)
      ∙ ap joined (unmixed-mixed l.mixing h) ∙ take-append-drop l.half v

  linear-unlinear : (y : List ℕ) → length y ≡ block_length l → linear l (unlinear l y) ≡ y
  linear-unlinear y e =
      let g = split l.half y in
      let p = permuted_long l.half l.PL_inverse l.PR_inverse g ok.left_back.long ok.right_back.long in
      let q = unmixed_long l.half l.mixing (permuted l.PL_inverse l.PR_inverse g) p in
      ap (λ h. joined (permuted l.PL l.PR (mixed l.mixing h))) (split-joined l.half (unmixed l.mixing (permuted l.PL_inverse l.PR_inverse g)) q.left)
      ∙ ap (λ h. joined (permuted l.PL l.PR h)) (mixed-unmixed l.mixing (permuted l.PL_inverse l.PR_inverse g))
      ∙ ap joined (permuted_back l.half l.PL_inverse l.PR_inverse l.PL l.PR g ok.left_back ok.right_back (split_long l.half y e))
      ∙ take-append-drop l.half y

  module _ (key : List ℕ) where
    substituted_long : (x : List ℕ) → length x ≡ block_length l → length (substitute S (xor x key)) ≡ block_length l
    substituted_long x e = length-map (xor x key) (on_nibbles S) ∙ length-xor x key ∙ e

    pub round_long : (x : List ℕ) → length x ≡ block_length l → length (round l key x) ≡ block_length l
    round_long x e = linear_long (substitute S (xor x key)) (substituted_long x e)

    pub inverse_round_long : (y : List ℕ) → length y ≡ block_length l → length (inverse_round l key y) ≡ block_length l
    inverse_round_long y e =
        length-xor (substitute S_inverse (unlinear l y)) key ∙ length-map (unlinear l y) (on_nibbles S_inverse) ∙ unlinear_long y e

    module _ (kb : Bytes key) where
      pub round_block : (x : List ℕ) → Block (block_length l) x → Block (block_length l) (round l key x)
      round_block x b = record {
        long = round_long x b.long;
        bytes = linear_bytes (substitute S (xor x key)) (bytes-map (on_nibbles S) substitution_undone.S_byte (xor x key) (bytes-xor x key b.bytes kb));
      }

      pub inverse_round_block : (y : List ℕ) → Block (block_length l) y → Block (block_length l) (inverse_round l key y)
      inverse_round_block y b = record {
        long = inverse_round_long y b.long;
        bytes = bytes-xor (substitute S_inverse (unlinear l y)) key
            (bytes-map (on_nibbles S_inverse) substitution_undone.inverse_byte (unlinear l y) (unlinear_bytes y b.bytes)) kb;
      }

      round_back : (x : List ℕ) → Block (block_length l) x → inverse_round l key (round l key x) ≡ x
      round_back x b =
          ap (λ v. xor (substitute S_inverse v) key) (unlinear-linear (substitute S (xor x key)) (substituted_long x b.long))
          ∙ ap (λ v. xor v key) (map_back (on_nibbles S) (on_nibbles S_inverse) substitution_undone.inverse_of_S (xor x key) (bytes-xor x key b.bytes kb))
          ∙ xor_twice x key

      round_forth : (y : List ℕ) → Block (block_length l) y → round l key (inverse_round l key y) ≡ y
      round_forth y b =
          ap (λ v. linear l (substitute S v)) (xor_twice (substitute S_inverse (unlinear l y)) key)
          ∙ ap (linear l) (map_back (on_nibbles S_inverse) (on_nibbles S) substitution_undone.S_of_inverse (unlinear l y) (unlinear_bytes y b.bytes))
          ∙ linear-unlinear y b.long

pub round_undone : RoundUndone
round_undone l ok key x kb b = (round_back l ok key kb x b, round_forth l ok key kb x b)

-- ---- any number of rounds
module _ (l : Layout) (ok : Invertible l) (rk : ℕ → List ℕ) where
  rounds_long : (j : ℕ) (x : List ℕ) → length x ≡ block_length l → length (rounds l rk j x) ≡ block_length l
  rounds_long zero x e = e
  rounds_long (suc j) x e = round_long l ok (rk j) (rounds l rk j x) (rounds_long j x e)

  inverse_rounds_long : (j : ℕ) (y : List ℕ) → length y ≡ block_length l → length (inverse_rounds l rk j y) ≡ block_length l
  inverse_rounds_long zero y e = e
  inverse_rounds_long (suc j) y e = inverse_rounds_long j (inverse_round l (rk j) y) (inverse_round_long l ok (rk j) y e)

  module _ (kb : (j : ℕ) → Bytes (rk j)) where
    rounds_block : (j : ℕ) (x : List ℕ) → Block (block_length l) x → Block (block_length l) (rounds l rk j x)
    rounds_block zero x b = b
    rounds_block (suc j) x b = round_block l ok (rk j) (kb j) (rounds l rk j x) (rounds_block j x b)

    inverse_rounds_block : (j : ℕ) (y : List ℕ) → Block (block_length l) y → Block (block_length l) (inverse_rounds l rk j y)
    inverse_rounds_block zero y b = b
    inverse_rounds_block (suc j) y b = inverse_rounds_block j (inverse_round l (rk j) y) (inverse_round_block l ok (rk j) (kb j) y b)

    rounds_back : (j : ℕ) (x : List ℕ) → Block (block_length l) x → inverse_rounds l rk j (rounds l rk j x) ≡ x
    rounds_back zero x b = refl
    rounds_back (suc j) x b =
        ap (inverse_rounds l rk j) (round_back l ok (rk j) (kb j) (rounds l rk j x) (rounds_block j x b)) ∙ rounds_back j x b

    rounds_forth : (j : ℕ) (y : List ℕ) → Block (block_length l) y → rounds l rk j (inverse_rounds l rk j y) ≡ y
    rounds_forth zero y b = refl
    rounds_forth (suc j) y b =
        ap (round l (rk j)) (rounds_forth j (inverse_round l (rk j) y) (inverse_round_block l ok (rk j) (kb j) y b)) ∙ round_forth l ok (rk j) (kb j) y b

    keyed : (r : ℕ) (x : List ℕ) → Block (block_length l) x → Block (block_length l) (xor x (rk r))
    keyed r x b = record { long = length-xor x (rk r) ∙ b.long; bytes = bytes-xor x (rk r) b.bytes (kb r) }

pub cipher_permutes : CipherPermutes
cipher_permutes l ok rk kb r = record {
  enc_long = λ x e. length-xor (rounds l rk r x) (rk r) ∙ rounds_long l ok rk r x e;
  dec_long = λ y e. inverse_rounds_long l ok rk r (xor y (rk r)) (length-xor y (rk r) ∙ e);
  enc_block = λ x b. keyed l ok rk kb r (rounds l rk r x) (rounds_block l ok rk kb r x b);
  dec_block = λ y b. inverse_rounds_block l ok rk kb r (xor y (rk r)) (keyed l ok rk kb r y b);
  dec_enc = λ x b. ap (inverse_rounds l rk r) (xor_twice (rounds l rk r x) (rk r)) ∙ rounds_back l ok rk kb r x b;
  enc_dec = λ y b. ap (λ v. xor v (rk r)) (rounds_forth l ok rk kb r (xor y (rk r)) (keyed l ok rk kb r y b)) ∙ xor_twice y (rk r);
}

-- ---- a round from what its steps give on the two halves, and the inverse round likewise
round_split :
    (l : Layout) (kl kr x y : List ℕ) → length x ≡ l.half → length kl ≡ l.half
    → round l (kl ++ kr) (x ++ y)
    ≡ joined (permuted l.PL l.PR (mixed l.mixing (record { left = substitute S (xor x kl); right = substitute S (xor y kr) })))
round_split l kl kr x y e f =
    ap (λ v. linear l (substitute S v)) (xor-append x kl y kr (e ∙ sym f))
    ∙ ap (linear l) (map-append (on_nibbles S) (xor x kl) (xor y kr))
    ∙ ap (λ h. joined (permuted l.PL l.PR (mixed l.mixing h)))
    (split-joined l.half (record { left = substitute S (xor x kl); right = substitute S (xor y kr) })
    (length-map (xor x kl) (on_nibbles S) ∙ length-xor x kl ∙ e))

pub round_of :
    (l : Layout) (x y kl kr s t p q u v : List ℕ) → length x ≡ l.half → length kl ≡ l.half
    → s ≡ substitute S (xor x kl) → t ≡ substitute S (xor y kr)
    → ◌≡◌ {A = Halves} (record { left = p; right = q }) (mixed l.mixing (record { left = s; right = t }))
    → u ≡ permute l.PL p → v ≡ permute l.PR q
    → u ++ v ≡ round l (kl ++ kr) (x ++ y)
round_of l x y kl kr s t p q u v e f es et em eu ev =
    ap (λ a. a ++ v) eu ∙ ap (λ b. permute l.PL p ++ b) ev
    ∙ ap (λ h. joined (permuted l.PL l.PR h)) em
    ∙ ap (λ a. joined (permuted l.PL l.PR (mixed l.mixing (record { left = a; right = t })))) es
    ∙ ap (λ b. joined (permuted l.PL l.PR (mixed l.mixing (record { left = substitute S (xor x kl); right = b })))) et
    ∙ sym (round_split l kl kr x y e f)

pub inverse_round_of :
    (l : Layout) (x y kl kr p q s t u v : List ℕ) → length x ≡ l.half → length s ≡ l.half → length kl ≡ l.half
    → p ≡ permute l.PL_inverse x → q ≡ permute l.PR_inverse y
    → ◌≡◌ {A = Halves} (record { left = s; right = t }) (unmixed l.mixing (record { left = p; right = q }))
    → u ≡ xor (substitute S_inverse s) kl → v ≡ xor (substitute S_inverse t) kr
    → u ++ v ≡ inverse_round l (kl ++ kr) (x ++ y)
inverse_round_of l x y kl kr p q s t u v e es ek ep eq em eu ev =
    ap (λ a. a ++ v) eu ∙ ap (λ b. xor (substitute S_inverse s) kl ++ b) ev
    ∙ sym (xor-append (substitute S_inverse s) kl (substitute S_inverse t) kr (length-map s (on_nibbles S_inverse) ∙ es ∙ sym ek))
    ∙ ap (λ a. xor a (kl ++ kr)) (sym (map-append (on_nibbles S_inverse) s t))
    ∙ ap (λ h. xor (substitute S_inverse (joined h)) (kl ++ kr)) em
    ∙ ap (λ a. xor (substitute S_inverse (joined (unmixed l.mixing (record { left = a; right = q })))) (kl ++ kr)) ep
    ∙ ap (λ b. xor (substitute S_inverse (joined (unmixed l.mixing (record { left = permute l.PL_inverse x; right = b })))) (kl ++ kr)) eq
    ∙ ap (λ h. xor (substitute S_inverse (joined (unmixed l.mixing (permuted l.PL_inverse l.PR_inverse h)))) (kl ++ kr)) (sym (split-joined l.half (record { left = x; right = y }) e))
