-- The standard's equations: those of the two modes' masks, undone, and the one page that they allow.
use Rattle.std.proofs.Common.{◌≡◌, ℕ, zero, suc, ◌*◌, ◌<◌, ◌≤◌, List, [], ◌∷◌, length, replicate, refl, sym, ap, ◌∙◌, arith}
use lib.Bits.{xor_zero_r}
use Rattle.ublock.specs.Cipher.{xor}
use Rattle.ublock.specs.Laws.{Bytes, Block, Permutes}
use Rattle.ublock.specs.Parts.{part}
use Rattle.ublock.proofs.Bytes.{block-xor, xor_twice}
use Rattle.modes.specs.Sealing.{Scheme, seal_block, open_block, previous}
use Rattle.modes.specs.StandardModes.{standard_first}
use Rattle.modes.specs.declared.standard.StandardMode.{StandardMode}
use Rattle.modes.specs.declared.standard.StandardMode.TheVariants.{Ecb, Cbc}
use Rattle.pages.specs.Calls.{Encrypted, Decrypted}
use Rattle.pages.proofs.Parts.{block_part}

pub xor_zeros : (xs : List ℕ) (n : ℕ) → xor xs (replicate n 0) ≡ xs
xor_zeros [] n = refl
xor_zeros (x ∷ xs) zero = refl
xor_zeros (x ∷ xs) (suc n) = rw (xor_zero_r x, xor_zeros xs n)

-- a permutation under the masks of a standard mode
abbrev pub standard : StandardMode → ℕ → (List ℕ → List ℕ) → (List ℕ → List ℕ) → List ℕ → Scheme
standard m b enc dec start = record { size = b; enc = enc; dec = dec; first = standard_first m; last = λ v i before. replicate (length v) 0; start = start }

-- ---- from the masks to the equations
module _ (b n : ℕ) (enc dec E D : List ℕ → List ℕ) (means : (x : List ℕ) → (enc x ≡ E x) × (dec x ≡ D x)) (start P C : List ℕ) where
  pub encrypted : (m : StandardMode) → ((j : ℕ) → j < n → part b j C ≡ seal_block (standard m b enc dec start) j (previous b start j C) (part b j P)) → Encrypted m E b n start P C
  encrypted Ecb h = record { each = λ j lt. h j lt ∙ xor_zeros _ (length start) ∙ ap enc (xor_zeros (part b j P) (length start)) ∙ (means (part b j P)).0 }
  encrypted Cbc h = record {
    first = λ lt. h 0 lt ∙ xor_zeros _ (length start) ∙ (means (xor (part b 0 P) start)).0;
    later = λ j lt. h (suc j) lt ∙ xor_zeros _ (length start) ∙ (means (xor (part b (suc j) P) (part b j C))).0;
  }

  pub decrypted : (m : StandardMode) → ((j : ℕ) → j < n → part b j P ≡ open_block (standard m b enc dec start) j (previous b start j C) (part b j C)) → Decrypted m D b n start C P
  decrypted Ecb h = record { each = λ j lt. h j lt ∙ xor_zeros _ (length start) ∙ ap dec (xor_zeros (part b j C) (length start)) ∙ (means (part b j C)).1 }
  decrypted Cbc h = record {
    first = λ lt. h 0 lt ∙ ap (λ z. xor (dec z) start) (xor_zeros (part b 0 C) (length start)) ∙ ap (λ z. xor z start) (means (part b 0 C)).1;
    later = λ j lt. h (suc j) lt ∙ ap (λ z. xor (dec z) (part b j C)) (xor_zeros (part b (suc j) C) (length start)) ∙ ap (λ z. xor z (part b j C)) (means (part b (suc j) C)).1;
  }

-- ---- pages that readings encrypt to are alike
pub one_encrypted : (m : StandardMode) (E : List ℕ → List ℕ) (b n : ℕ) (start P C C' : List ℕ) → Encrypted m E b n start P C → Encrypted m E b n start P C'
    → (j : ℕ) → j < n → part b j C ≡ part b j C'
one_encrypted Ecb E b n start P C C' p q j lt = p.each j lt ∙ sym (q.each j lt)
one_encrypted Cbc E b n start P C C' p q zero lt = p.first lt ∙ sym (q.first lt)
one_encrypted Cbc E b n start P C C' p q (suc j) lt =
    p.later j lt ∙ ap (λ z. E (xor (part b (suc j) P) z)) (one_encrypted Cbc E b n start P C C' p q j (omega arith)) ∙ sym (q.later j lt)

-- ---- what encrypted readings decrypt to
module _ (b n : ℕ) (E D : List ℕ → List ℕ) (permutes : Permutes b E D) (start P C Q : List ℕ) (block : Block b start)
    (bytes_P : Bytes P) (bytes_C : Bytes C) (room_P : n * b ≤ length P) (room_C : n * b ≤ length C) where
  -- a block, masked and enciphered
  unmasked : (j : ℕ) → j < n → (w : List ℕ) → Block b w → xor (D (E (xor (part b j P) w))) w ≡ part b j P
  unmasked j lt w hw =
      ap (λ z. xor z w) (permutes.dec_enc (xor (part b j P) w) (block-xor b (part b j P) w (block_part b n j P bytes_P room_P lt) hw.bytes)) ∙ xor_twice (part b j P) w

  pub decrypted_back : (m : StandardMode) → Encrypted m E b n start P C → Decrypted m D b n start C Q → (j : ℕ) → j < n → part b j Q ≡ part b j P
  decrypted_back Ecb p q j lt = q.each j lt ∙ ap D (p.each j lt) ∙ permutes.dec_enc (part b j P) (block_part b n j P bytes_P room_P lt)
  decrypted_back Cbc p q zero lt = q.first lt ∙ ap (λ z. xor (D z) start) (p.first lt) ∙ unmasked 0 lt start block
  decrypted_back Cbc p q (suc j) lt =
      q.later j lt ∙ ap (λ z. xor (D z) (part b j C)) (p.later j lt) ∙ unmasked (suc j) lt (part b j C) (block_part b n j C bytes_C room_C (omega arith))
