-- Groups of blocks: between masks, and one after the other.
use Rattle.std.proofs.Common.{◌≡◌, ℕ, zero, suc, ◌+◌, ◌-◌, ◌*◌, ◌≤◌, true, List, ◌++◌, length, take, drop, refl, sym, ap, subst, ◌∙◌, arith, append_assoc, length-drop, ⊎_elim}
use Rattle.std.proofs.Math.Nat.{suc-mul, add-mul}
use Rattle.std.proofs.lemmas.Bool.{cases_Bool}
use Rattle.std.proofs.lemmas.List.{drop-drop, length-take-le, take-append-drop, take_at, drop_at}
use Rattle.std.proofs.lemmas.Nat.{mul-le}
use borrow.Rule.Slice.PartMut.{put_mid}
use Rattle.ublock.specs.Cipher.{xor}
use Rattle.ublock.specs.Laws.{Bytes, Block}
use Rattle.ublock.proofs.Bytes.{length-xor, xor-append}
use Rattle.cipher.specs.Engines.{Answer, each}
use Rattle.cipher.specs.Rows.{RowReplaced}
use Rattle.cipher.proofs.EngineRuns.{row_of_blocks}
use Rattle.modes.specs.Modes.{Mask}
use Rattle.modes.specs.Sealing.{Scheme, Lawful, AllBlocks, AllLong, along, blocks, joined, last_block, masks_along, open_block, opened, previous, seal_block, sealed}
use Rattle.modes.proofs.Rows.{along_add, blocks_are_blocks, blocks_long, blocks_take, joined_append, length_blocks, length_joined, length_opened, length_sealed, opened_long, previous_joined, sealed_add, sealed_free, sealed_long}

-- ---- a group of blocks between masks
module _ (b : ℕ) (enc : List ℕ → List ℕ) (g h : ℕ → List ℕ → List ℕ) (keeps : (x : List ℕ) → length x ≡ b → length (enc x) ≡ b)
    (long_g : (j : ℕ) (u : List ℕ) → length u ≡ b → length (g j u) ≡ b) (long_h : (j : ℕ) (u : List ℕ) → length u ≡ b → length (h j u) ≡ b) where
  masked_blocks : (n i : ℕ) (w xs : List ℕ) → length w ≡ b → length xs ≡ n * b
      → xor (each b enc n (xor xs (joined (along (λ j u x. g j u) i w (blocks b n xs))))) (joined (along (λ j u x. h j u) i w (blocks b n xs)))
      ≡ joined (along (λ j u x. xor (enc (xor x (g j u))) (h j u)) i w (blocks b n xs))
  unfolding each
  masked_blocks zero i w xs lw l = refl
  masked_blocks (suc n) i w xs lw l =
      let x = take b xs in
      let rest = drop b xs in
      let m = g i w in
      let o = h i w in
      let ms = joined (along (λ j u x. g j u) (suc i) x (blocks b n rest)) in
      let os = joined (along (λ j u x. h j u) (suc i) x (blocks b n rest)) in
      let y = xor x m in
      let ys = xor rest ms in
      let lx : length x ≡ b = length-take-le b xs (omega (arith, suc-mul n b)) in
      let lr : length rest ≡ n * b = omega (arith, suc-mul n b, length-drop b xs) in
      let ly : length y ≡ b = length-xor x m ∙ lx in
      let split : xor xs (m ++ ms) ≡ y ++ ys = ap (λ z. xor z (m ++ ms)) (sym (take-append-drop b xs)) ∙ xor-append x m rest ms (lx ∙ sym (long_g i w lw)) in
      ap (λ z. xor (enc (take b z) ++ each b enc n (drop b z)) (o ++ os)) split
      ∙ ap (λ z. xor (enc z ++ each b enc n (drop b (y ++ ys))) (o ++ os)) (take_at y ys b ly)
      ∙ ap (λ z. xor (enc y ++ each b enc n z) (o ++ os)) (drop_at y ys b ly)
      ∙ xor-append (enc y) o (each b enc n ys) os (keeps y ly ∙ sym (long_h i w lw))
      ∙ ap (λ z. xor (enc y) o ++ z) (masked_blocks n (suc i) x rest lx lr)

-- what a group of n blocks is, with a mask added to each before the engine and another after it
pub group_masked : (s : Scheme) → Lawful s → (b n i : ℕ) (v w xs a z r0 r1 r2 r3 : List ℕ) (answer : Answer Unit)
    → b ≡ s.size → v ≡ s.start → length w ≡ b → length xs ≡ n * b
    → a ≡ masks_along s.first v i w (blocks (length v) n xs) → z ≡ masks_along s.last v i w (blocks (length v) n xs)
    → r0 ≡ xs → r1 ≡ xor r0 a → RowReplaced s.size s.enc r1 r2 answer → r3 ≡ xor r2 z → r3 ≡ joined (along (seal_block s) i w (blocks b n xs))
group_masked s ok b n i v w xs a z r0 r1 r2 r3 answer e ev lw long is_a is_z is0 is1 replaced is3 =
    let p = s.size in
    let masks : Mask → List ℕ = λ f. masks_along f s.start i w (blocks p n xs) in
    let mask : (f : Mask) → masks_along f v i w (blocks (length v) n xs) ≡ masks f =
    λ f. ap (λ k. masks_along f k i w (blocks (length k) n xs)) ev ∙ ap (λ k. masks_along f s.start i w (blocks k n xs)) ok.start.long in
    let lx : length xs ≡ n * p = long ∙ ap (λ k. n * k) e in
    let e1 : r1 ≡ xor xs (masks s.first) = is1 ∙ ap (λ k. xor k a) is0 ∙ ap (xor xs) (is_a ∙ mask s.first) in
    let l1 : length r1 ≡ n * p = ap length is1 ∙ length-xor r0 a ∙ ap length is0 ∙ lx in
    let e2 : r2 ≡ each p s.enc n r1 = (row_of_blocks p p n s.enc r1 r2 answer refl (⊎_elim (λ q. omega arith) (λ q. omega arith) ok.length) l1 replaced).1 in
    is3 ∙ ap (λ k. xor k z) (e2 ∙ ap (each p s.enc n) e1) ∙ ap (xor (each p s.enc n (xor xs (masks s.first)))) (is_z ∙ mask s.last)
    ∙ masked_blocks p s.enc (s.first s.start) (s.last s.start) ok.permutes.enc_long (λ j u. ok.rule.first.long s.start j u ok.start.long)
    (λ j u. ok.rule.last.long s.start j u ok.start.long) n i w xs (lw ∙ e) lx
    ∙ ap (λ k. joined (along (seal_block s) i w (blocks k n xs))) (sym e)

one_block : (s : Scheme) (i : ℕ) (w : List ℕ) (b n : ℕ) (xs : List ℕ) → n ≤ 1 → along (seal_block s) i w (blocks b n xs) ≡ sealed s i w (blocks b n xs)
one_block s i w b zero xs h = refl
one_block s i w b (suc zero) xs h = refl
one_block s i w b (suc (suc n)) xs h = absurd (omega arith)

-- one block, or blocks in a mode that is not chained
pub sealed_at_once : (s : Scheme) (ok : Lawful s) (b n i : ℕ) (w xs : List ℕ) → b ≡ s.size → (ok.chained ≡ true → n ≤ 1) → Bytes w → Bytes xs → length w ≡ b → length xs ≡ n * b
    → along (seal_block s) i w (blocks b n xs) ≡ sealed s i w (blocks b n xs)
sealed_at_once s ok b n i w xs e one bytes_w bytes lw long =
    let all : AllBlocks s.size (blocks b n xs) = subst (λ k. AllBlocks k (blocks b n xs)) e (blocks_are_blocks b n xs bytes (omega arith)) in
    let hw : Block s.size w = record { long = lw ∙ e; bytes = bytes_w } in
    ⊎_elim (λ q. one_block s i w b n xs (one q)) (λ q. sealed_free s ok q i w w (blocks b n xs) hw hw all) (cases_Bool ok.chained)

-- ---- one turn of a loop that replaces m blocks, the first of which is block i
row_turn : (b i m : ℕ) (front more : List (List ℕ)) (was now piece : List ℕ) → AllLong b front → length front ≡ i
    → now ≡ joined front ++ drop (i * b) was → piece ≡ joined more
    → put_mid (i * b) ((i + m) * b - i * b) now piece ≡ joined (front ++ more) ++ drop ((i + m) * b) was
row_turn b i m front more was now piece long count is new =
    let all = add-mul i m b in
    let k : (i + m) * b - i * b ≡ m * b = omega arith in
    let lf : length (joined front) ≡ i * b = length_joined b front long ∙ ap (λ n. n * b) count in
    let rest = drop (i * b) was in
    let past : drop (m * b) rest ≡ drop ((i + m) * b) was = drop-drop (m * b) (i * b) was ∙ ap (λ n. drop n was) (sym all) in
    ap (λ n. put_mid (i * b) n now piece) k ∙ ap (λ z. put_mid (i * b) (m * b) z piece) is
    ∙ ap (λ z. z ++ (piece ++ drop (m * b) (drop (i * b) (joined front ++ rest)))) (take_at (joined front) rest (i * b) lf)
    ∙ ap (λ z. joined front ++ (piece ++ drop (m * b) z)) (drop_at (joined front) rest (i * b) lf)
    ∙ ap (λ z. joined front ++ (z ++ drop (m * b) rest)) new ∙ ap (λ z. joined front ++ (joined more ++ z)) past
    ∙ sym (append_assoc (joined front) (joined more) (drop ((i + m) * b) was)) ∙ ap (λ z. z ++ drop ((i + m) * b) was) (sym (joined_append front more))

turn_blocks : (b i m : ℕ) (xs : List ℕ) → blocks b m (take ((i + m) * b - i * b) (drop (i * b) xs)) ≡ blocks b m (drop (i * b) xs)
turn_blocks b i m xs =
    let all = add-mul i m b in
    let k : (i + m) * b - i * b ≡ m * b = omega arith in
    ap (λ n. blocks b m (take n (drop (i * b) xs))) k ∙ blocks_take b m (drop (i * b) xs)

module _ (s : Scheme) (ok : Lawful s) (b j i m n : ℕ) (w xs was now before piece : List ℕ) (e : b ≡ s.size) (le : i + m ≤ n) (room : n * b ≤ length xs) where
  blocks_so_far : AllLong s.size (blocks b i xs)
  blocks_so_far = subst (λ k. AllLong k (blocks b i xs)) e (blocks_long b i xs (omega (arith, mul-le i b n b (omega arith) (omega arith))))

  pub open_turn : now ≡ joined (opened s j w (blocks b i xs)) ++ drop (i * b) was → before ≡ previous b w i xs
      → piece ≡ joined (opened s (j + i) before (blocks b m (take ((i + m) * b - i * b) (drop (i * b) xs))))
      → put_mid (i * b) ((i + m) * b - i * b) now piece ≡ joined (opened s j w (blocks b (i + m) xs)) ++ drop ((i + m) * b) was
  open_turn is is_before new =
      let front = opened s j w (blocks b i xs) in
      let more = opened s (j + i) (previous b w i xs) (blocks b m (drop (i * b) xs)) in
      let long : AllLong b front = subst (λ k. AllLong k front) (sym e) (opened_long s ok j w (blocks b i xs) blocks_so_far) in
      row_turn b i m front more was now piece long (length_opened s j w (blocks b i xs) ∙ length_blocks b i xs) is
      (new ∙ ap (λ ys. joined (opened s (j + i) before ys)) (turn_blocks b i m xs) ∙ ap (λ p. joined (opened s (j + i) p (blocks b m (drop (i * b) xs)))) is_before)
      ∙ ap (λ ys. joined ys ++ drop ((i + m) * b) was) (sym (along_add (open_block s) j w b i m xs))

  pub seal_turn : now ≡ joined (sealed s j w (blocks b i xs)) ++ drop (i * b) was → before ≡ previous b w i now
      → piece ≡ joined (sealed s (j + i) before (blocks b m (take ((i + m) * b - i * b) (drop (i * b) xs))))
      → put_mid (i * b) ((i + m) * b - i * b) now piece ≡ joined (sealed s j w (blocks b (i + m) xs)) ++ drop ((i + m) * b) was
  seal_turn is is_before new =
      let front = sealed s j w (blocks b i xs) in
      let more = sealed s (j + i) (last_block w front) (blocks b m (drop (i * b) xs)) in
      let long : AllLong b front = subst (λ k. AllLong k front) (sym e) (sealed_long s ok j w (blocks b i xs) blocks_so_far) in
      let count : length front ≡ i = length_sealed s j w (blocks b i xs) ∙ length_blocks b i xs in
      let last : before ≡ last_block w front =
      is_before ∙ ap (previous b w i) is ∙ ap (λ k. previous b w k (joined front ++ drop (i * b) was)) (sym count)
      ∙ previous_joined b w front (drop (i * b) was) long in
      row_turn b i m front more was now piece long count is
      (new ∙ ap (λ ys. joined (sealed s (j + i) before ys)) (turn_blocks b i m xs) ∙ ap (λ p. joined (sealed s (j + i) p (blocks b m (drop (i * b) xs)))) last)
      ∙ ap (λ ys. joined ys ++ drop ((i + m) * b) was) (sym (sealed_add s j w b i m xs))
