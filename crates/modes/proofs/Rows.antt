-- Rows of blocks: cut from bytes and joined, sealed and opened.
use Rattle.std.proofs.Common.{◌≡◌, ℕ, zero, suc, ◌+◌, ◌*◌, ◌<◌, ◌≤◌, false, ⊎_elim, List, [], ◌∷◌, ◌++◌, length, get_or, take, drop, refl, sym, ap, ◌∙◌, arith, append_assoc, length-append, length-drop}
use Rattle.std.proofs.Math.Nat.{zero-mul, suc-mul}
use Rattle.std.proofs.lemmas.List.{drop-take, length-take-le, take-take, take_at, drop_at}
use Rattle.std.proofs.lemmas.Nat.{mul-le}
use Rattle.std.proofs.lemmas.Simd.{Each1-weaker}
use Rattle.ublock.specs.Cipher.{xor}
use Rattle.ublock.specs.Laws.{Bytes, Block, Permutes}
use Rattle.ublock.proofs.Bytes.{bytes_from, xor_twice, length-xor, block-xor, block-take, bytes-take, bytes-drop}
use Rattle.cipher.specs.Engines.{Shape}
use Rattle.cipher.proofs.EngineRuns.{drop_past}
use Rattle.cipher.specs.declared.engine.Engine as engines
use Rattle.modes.specs.declared.mode.Mode as modes
use Rattle.modes.specs.declared.sealer.Sealer.{Sealer}
use Rattle.modes.specs.Modes.{BlockLength, Rule}
use Rattle.modes.specs.Sealing.{scheme_of, Scheme, Lawful, AllLong, AllBlocks, seal_block, open_block, sealed, along, opened, joined, blocks, last_block, previous}

-- ---- bytes
pub byte_at : (xs : List ℕ) → Bytes xs → (k : ℕ) → get_or xs k 0 < 256
byte_at [] h k = omega arith
byte_at (x ∷ xs) h zero = h.0
byte_at (x ∷ xs) h (suc k) = byte_at xs h.1 k

-- ---- joined
pub joined_append : (xs ys : List (List ℕ)) → joined (xs ++ ys) ≡ joined xs ++ joined ys
joined_append [] ys = refl
joined_append (x ∷ xs) ys = ap (λ z. x ++ z) (joined_append xs ys) ∙ sym (append_assoc x (joined xs) (joined ys))

pub length_joined : (b : ℕ) (xs : List (List ℕ)) → AllLong b xs → length (joined xs) ≡ length xs * b
length_joined b [] h = sym (zero-mul b)
length_joined b (x ∷ xs) h = omega (arith, length-append x (joined xs), length_joined b xs h.1, suc-mul (length xs) b, h.0)

pub all_long : (b : ℕ) (xs : List (List ℕ)) → AllBlocks b xs → AllLong b xs
all_long b xs = Each1-weaker (Block b) (λ x. length x ≡ b) (λ x h. h.long) xs

-- ---- cut into blocks
pub length_blocks : (b n : ℕ) (xs : List ℕ) → length (blocks b n xs) ≡ n
length_blocks b zero xs = refl
length_blocks b (suc n) xs = ap suc (length_blocks b n (drop b xs))

pub blocks_joined : (b : ℕ) (xs : List (List ℕ)) (rest : List ℕ) → AllLong b xs → blocks b (length xs) (joined xs ++ rest) ≡ xs
blocks_joined b [] rest h = refl
blocks_joined b (x ∷ xs) rest h =
    rw (append_assoc x (joined xs) rest, take_at x (joined xs ++ rest) b h.0, drop_at x (joined xs ++ rest) b h.0, blocks_joined b xs rest h.1)

blocks_add : (b m n : ℕ) (xs : List ℕ) → blocks b (m + n) xs ≡ blocks b m xs ++ blocks b n (drop (m * b) xs)
blocks_add b zero n xs = ap (λ k. blocks b k xs) {x = 0 + n} {y = n} (omega arith) ∙ ap (λ k. blocks b n (drop k xs)) (sym (zero-mul b))
blocks_add b (suc m) n xs =
    ap (λ k. blocks b k xs) {x = suc m + n} {y = suc (m + n)} (omega arith)
    ∙ ap (λ z. take b xs ∷ z) (blocks_add b m n (drop b xs) ∙ ap (λ z. blocks b m (drop b xs) ++ blocks b n z) (drop_past b m xs))

-- what follows the blocks does not count
pub blocks_take : (b n : ℕ) (xs : List ℕ) → blocks b n (take (n * b) xs) ≡ blocks b n xs
blocks_take b zero xs = refl
blocks_take b (suc n) xs =
    let m : suc n * b ≡ b + n * b = omega (arith, suc-mul n b) in
    ap (λ k. blocks b (suc n) (take k xs)) m
    ∙ ap (λ z. z ∷ blocks b n (drop b (take (b + n * b) xs))) (take-take b (b + n * b) xs (omega arith))
    ∙ ap (λ z. take b xs ∷ blocks b n z) (drop-take b (n * b) xs) ∙ ap (λ z. take b xs ∷ z) (blocks_take b n (drop b xs))

first_fits : (b n : ℕ) (xs : List ℕ) → suc n * b ≤ length xs → b ≤ length xs
first_fits b n xs h = omega (arith, suc-mul n b)

rest_fits : (b n : ℕ) (xs : List ℕ) → suc n * b ≤ length xs → n * b ≤ length (drop b xs)
rest_fits b n xs h = omega (arith, suc-mul n b, length-drop b xs)

pub blocks_long : (b n : ℕ) (xs : List ℕ) → n * b ≤ length xs → AllLong b (blocks b n xs)
blocks_long b zero xs h = tt
blocks_long b (suc n) xs h = (length-take-le b xs (first_fits b n xs h), blocks_long b n (drop b xs) (rest_fits b n xs h))

pub blocks_are_blocks : (b n : ℕ) (xs : List ℕ) → Bytes xs → n * b ≤ length xs → AllBlocks b (blocks b n xs)
blocks_are_blocks b zero xs bytes h = tt
blocks_are_blocks b (suc n) xs bytes h =
    (block-take b (length xs) xs (first_fits b n xs h) (record { long = refl; bytes = bytes }), blocks_are_blocks b n (drop b xs) (bytes-drop b xs bytes) (rest_fits b n xs h))

-- ---- the block before
-- one block on
pub previous_shift : (b : ℕ) (w : List ℕ) (i : ℕ) (xs : List ℕ) → previous b (take b xs) i (drop b xs) ≡ previous b w (suc i) xs
previous_shift b w zero xs = ap (λ k. take b (drop k xs)) (sym (zero-mul b))
previous_shift b w (suc i) xs = ap (take b) (drop_past b i xs)

pub length_previous : (b : ℕ) (w : List ℕ) (i n : ℕ) (xs : List ℕ) → length w ≡ b → i ≤ n → n * b ≤ length xs → length (previous b w i xs) ≡ b
length_previous b w zero n xs l le h = l
length_previous b w (suc i) n xs l le h =
    length-take-le b (drop (i * b) xs) (omega (arith, length-drop (i * b) xs, suc-mul i b, mul-le (suc i) b n b (omega arith) (omega arith)))

-- the block before, as it is kept at the front of more bytes
pub previous_kept : (b i n : ℕ) (w xs p kept : List ℕ) → length w ≡ b → i ≤ n → n * b ≤ length xs → p ≡ previous b w i xs → take (length p) kept ≡ p
    → take b kept ≡ previous b w i xs
previous_kept b i n w xs p kept l le h is keeps =
    ap (λ k. take k kept) (sym (ap length is ∙ length_previous b w i n xs l le h)) ∙ keeps ∙ is

pub last_of_blocks : (b : ℕ) (w : List ℕ) (i : ℕ) (xs : List ℕ) → last_block w (blocks b i xs) ≡ previous b w i xs
last_of_blocks b w zero xs = refl
last_of_blocks b w (suc i) xs = last_of_blocks b (take b xs) i (drop b xs) ∙ previous_shift b w i xs

pub previous_joined : (b : ℕ) (w : List ℕ) (xs : List (List ℕ)) (rest : List ℕ) → AllLong b xs → previous b w (length xs) (joined xs ++ rest) ≡ last_block w xs
previous_joined b w xs rest h = sym (last_of_blocks b w (length xs) (joined xs ++ rest)) ∙ ap (last_block w) (blocks_joined b xs rest h)

pub block_last : (b : ℕ) (w : List ℕ) (xs : List (List ℕ)) → Block b w → AllBlocks b xs → Block b (last_block w xs)
block_last b w [] hw h = hw
block_last b w (x ∷ xs) hw h = block_last b x xs h.0 h.1

-- ---- along a row
length_along : (f : ℕ → List ℕ → List ℕ → List ℕ) (i : ℕ) (w : List ℕ) (xs : List (List ℕ)) → length (along f i w xs) ≡ length xs
length_along f i w [] = refl
length_along f i w (x ∷ xs) = ap suc (length_along f (suc i) x xs)

along_append : (f : ℕ → List ℕ → List ℕ → List ℕ) (i : ℕ) (w : List ℕ) (xs ys : List (List ℕ))
    → along f i w (xs ++ ys) ≡ along f i w xs ++ along f (i + length xs) (last_block w xs) ys
along_append f i w [] ys = ap (λ k. along f k w ys) (omega arith)
along_append f i w (x ∷ xs) ys =
    ap (λ z. f i w x ∷ z) (along_append f (suc i) x xs ys ∙ ap (λ k. along f (suc i) x xs ++ along f k (last_block x xs) ys) (omega arith))

-- m blocks more
pub along_add : (f : ℕ → List ℕ → List ℕ → List ℕ) (i : ℕ) (w : List ℕ) (b k m : ℕ) (xs : List ℕ)
    → along f i w (blocks b (k + m) xs) ≡ along f i w (blocks b k xs) ++ along f (i + k) (previous b w k xs) (blocks b m (drop (k * b) xs))
along_add f i w b k m xs =
    let front = along f i w (blocks b k xs) in
    let more = blocks b m (drop (k * b) xs) in
    ap (along f i w) (blocks_add b k m xs) ∙ along_append f i w (blocks b k xs) more
    ∙ ap (λ n. front ++ along f (i + n) (last_block w (blocks b k xs)) more) (length_blocks b k xs)
    ∙ ap (λ p. front ++ along f (i + k) p more) (last_of_blocks b w k xs)

-- ---- sealed and opened
pub length_sealed : (s : Scheme) (i : ℕ) (w : List ℕ) (xs : List (List ℕ)) → length (sealed s i w xs) ≡ length xs
length_sealed s i w [] = refl
length_sealed s i w (x ∷ xs) = ap suc (length_sealed s (suc i) (seal_block s i w x) xs)

pub length_opened : (s : Scheme) (i : ℕ) (w : List ℕ) (xs : List (List ℕ)) → length (opened s i w xs) ≡ length xs
length_opened s = length_along (open_block s)

pub sealed_append : (s : Scheme) (i : ℕ) (w : List ℕ) (xs ys : List (List ℕ))
    → sealed s i w (xs ++ ys) ≡ sealed s i w xs ++ sealed s (i + length xs) (last_block w (sealed s i w xs)) ys
sealed_append s i w [] ys = ap (λ k. sealed s k w ys) (omega arith)
sealed_append s i w (x ∷ xs) ys =
    let y = seal_block s i w x in
    ap (λ z. y ∷ z) (sealed_append s (suc i) y xs ys ∙ ap (λ k. sealed s (suc i) y xs ++ sealed s k (last_block y (sealed s (suc i) y xs)) ys) (omega arith))

-- m blocks more
pub sealed_add : (s : Scheme) (i : ℕ) (w : List ℕ) (b k m : ℕ) (xs : List ℕ)
    → sealed s i w (blocks b (k + m) xs) ≡ sealed s i w (blocks b k xs) ++ sealed s (i + k) (last_block w (sealed s i w (blocks b k xs))) (blocks b m (drop (k * b) xs))
sealed_add s i w b k m xs =
    let front = sealed s i w (blocks b k xs) in
    let more = blocks b m (drop (k * b) xs) in
    ap (sealed s i w) (blocks_add b k m xs) ∙ sealed_append s i w (blocks b k xs) more
    ∙ ap (λ n. front ++ sealed s (i + n) (last_block w front) more) (length_blocks b k xs)

-- a scheme that opens what another seals: a block is opened as it is sealed by that
abbrev pub turned_round : Scheme → Scheme
turned_round s = record { size = s.size; enc = s.dec; dec = s.enc; first = s.last; last = s.first; start = s.start }

pub turned_round_lawful : (s : Scheme) → Lawful s → Lawful (turned_round s)
turned_round_lawful s ok = record {
  length = ok.length;
  permutes = record {
    enc_long = ok.permutes.dec_long;
    dec_long = ok.permutes.enc_long;
    enc_block = ok.permutes.dec_block;
    dec_block = ok.permutes.enc_block;
    dec_enc = ok.permutes.enc_dec;
    enc_dec = ok.permutes.dec_enc;
  };
  chained = ok.chained;
  rule = record { first = ok.rule.last; last = ok.rule.first };
  start = ok.start;
}

length_seal_block : (s : Scheme) → Lawful s → (i : ℕ) (w x : List ℕ) → length x ≡ s.size → length (seal_block s i w x) ≡ s.size
length_seal_block s ok i w x e = length-xor _ (s.last s.start i w) ∙ ok.permutes.enc_long _ (length-xor x (s.first s.start i w) ∙ e)

pub first_masked : (s : Scheme) → Lawful s → (i : ℕ) (w x : List ℕ) → Block s.size w → Block s.size x → Block s.size (xor x (s.first s.start i w))
first_masked s ok i w x hw hx = block-xor s.size x _ hx (ok.rule.first.block s.start i w ok.start hw).bytes

pub seal_block_is_block : (s : Scheme) → Lawful s → (i : ℕ) (w x : List ℕ) → Block s.size w → Block s.size x → Block s.size (seal_block s i w x)
seal_block_is_block s ok i w x hw hx = first_masked (turned_round s) (turned_round_lawful s ok) i w _ hw (ok.permutes.enc_block _ (first_masked s ok i w x hw hx))

module _ (s : Scheme) (ok : Lawful s) where
  length_open_block : (i : ℕ) (w x : List ℕ) → length x ≡ s.size → length (open_block s i w x) ≡ s.size
  length_open_block = length_seal_block (turned_round s) (turned_round_lawful s ok)

  pub sealed_long : (i : ℕ) (w : List ℕ) (xs : List (List ℕ)) → AllLong s.size xs → AllLong s.size (sealed s i w xs)
  sealed_long i w [] h = tt
  sealed_long i w (x ∷ xs) h = (length_seal_block s ok i w x h.0, sealed_long (suc i) (seal_block s i w x) xs h.1)

  pub opened_long : (i : ℕ) (w : List ℕ) (xs : List (List ℕ)) → AllLong s.size xs → AllLong s.size (opened s i w xs)
  opened_long i w [] h = tt
  opened_long i w (x ∷ xs) h = (length_open_block i w x h.0, opened_long (suc i) x xs h.1)

  pub sealed_are_blocks : (i : ℕ) (w : List ℕ) (xs : List (List ℕ)) → Block s.size w → AllBlocks s.size xs → AllBlocks s.size (sealed s i w xs)
  sealed_are_blocks i w [] hw h = tt
  sealed_are_blocks i w (x ∷ xs) hw h =
      let y = seal_block_is_block s ok i w x hw h.0 in (y, sealed_are_blocks (suc i) (seal_block s i w x) xs y h.1)

  pub open_seal_block : (i : ℕ) (w x : List ℕ) → Block s.size w → Block s.size x → open_block s i w (seal_block s i w x) ≡ x
  open_seal_block i w x hw hx =
      let a = s.first s.start i w in
      ap (λ z. xor (s.dec z) a) (xor_twice (s.enc (xor x a)) (s.last s.start i w))
      ∙ ap (λ z. xor z a) (ok.permutes.dec_enc (xor x a) (first_masked s ok i w x hw hx)) ∙ xor_twice x a

  pub opened_sealed : (i : ℕ) (w : List ℕ) (xs : List (List ℕ)) → Block s.size w → AllBlocks s.size xs → opened s i w (sealed s i w xs) ≡ xs
  opened_sealed i w [] hw h = refl
  opened_sealed i w (x ∷ xs) hw h =
      let y = seal_block s i w x in
      ap (λ z. z ∷ opened s (suc i) y (sealed s (suc i) y xs)) (open_seal_block i w x hw h.0)
      ∙ ap (λ z. x ∷ z) (opened_sealed (suc i) y xs (seal_block_is_block s ok i w x hw h.0) h.1)

  -- a mode that is not chained seals a block the same after any block
  seal_block_free : ok.chained ≡ false → (i : ℕ) (w u x : List ℕ) → Block s.size w → Block s.size u → seal_block s i w x ≡ seal_block s i u x
  seal_block_free free i w u x hw hu =
      ap (λ a. xor (s.enc (xor x a)) (s.last s.start i w)) (ok.rule.first.same_for_each_before free s.start i w u ok.start hw hu)
      ∙ ap (xor (s.enc (xor x (s.first s.start i u)))) (ok.rule.last.same_for_each_before free s.start i w u ok.start hw hu)

  -- so the blocks of the row of readings may stand for the sealed blocks before
  pub sealed_free : ok.chained ≡ false → (i : ℕ) (w u : List ℕ) (xs : List (List ℕ)) → Block s.size w → Block s.size u → AllBlocks s.size xs
      → along (seal_block s) i w xs ≡ sealed s i u xs
  sealed_free free i w u [] hw hu h = refl
  sealed_free free i w u (x ∷ xs) hw hu h =
      ap (λ y. y ∷ along (seal_block s) (suc i) x xs) (seal_block_free free i w u x hw hu)
      ∙ ap (λ ys. seal_block s i u x ∷ ys) (sealed_free free (suc i) x (seal_block s i u x) xs h.0 (seal_block_is_block s ok i u x hu h.0) h.1)

pub length_start : (b w : ℕ) (start : List ℕ) → Shape b w → length start ≡ 32 → length (take b start) ≡ b
length_start b w start shape long = length-take-le b start (⊎_elim (λ e. omega arith) (λ e. omega arith) shape.length_of_block)

-- what a sealer means is lawful
abbrev pub lawful_scheme : {E M : Type 0} (engine : engines.Ghosts E) (mode : modes.Ghosts M) (s : Sealer E M) → Shape engine.block_length engine.lane_count
    → ((e : E) → Permutes engine.block_length (engine.enc e) (engine.dec e))
    → ((m : M) (b : ℕ) → BlockLength b → Rule b (mode.first_mask m) (mode.last_mask m) (mode.chained m))
    → length (take engine.block_length s.start.bytes) ≡ engine.block_length → Lawful (scheme_of engine mode s)
lawful_scheme engine mode s shape permutes rule long = record {
  length = shape.length_of_block;
  permutes = permutes s.engine;
  chained = mode.chained s.mode;
  rule = rule s.mode engine.block_length shape.length_of_block;
  start = record { long = long; bytes = bytes-take engine.block_length s.start.bytes (bytes_from s.start.bytes s.start.of_bytes) };
}
