-- Part j of a row that a scheme sealed or opened.
use Rattle.std.proofs.Common.{◌≡◌, ℕ, zero, suc, ◌+◌, ◌*◌, ◌<◌, ◌≤◌, List, ◌++◌, length, take, drop, sym, ap, ◌∙◌, arith, append_assoc, length-append, length-drop}
use Rattle.std.proofs.Math.Nat.{zero-mul, suc-mul}
use Rattle.std.proofs.lemmas.List.{length-take-le, take_at, drop_at}
use Rattle.ublock.specs.Parts.{part}
use Rattle.ublock.proofs.Bytes.{length-xor}
use Rattle.modes.specs.Sealing.{Scheme, seal_block, open_block, sealed, opened, joined, blocks, previous}
use Rattle.modes.proofs.Rows.{previous_shift}
use Rattle.pages.proofs.Parts.{part_first, part_next}

module _ (s : Scheme) (keeps : (x : List ℕ) → length x ≡ s.size → length (s.enc x) ≡ s.size) where
  long_sealed : (n i : ℕ) (w xs : List ℕ) → suc n * s.size ≤ length xs → length (seal_block s i w (take s.size xs)) ≡ s.size
  long_sealed n i w xs room =
      length-xor _ (s.last s.start i w) ∙ keeps _ (length-xor _ (s.first s.start i w) ∙ length-take-le s.size xs (omega (arith, suc-mul n s.size)))

  pub length_sealed_row : (n i : ℕ) (w xs : List ℕ) → n * s.size ≤ length xs → length (joined (sealed s i w (blocks s.size n xs))) ≡ n * s.size
  length_sealed_row zero i w xs room = sym (zero-mul s.size)
  length_sealed_row (suc n) i w xs room =
      let b = s.size in
      let y = seal_block s i w (take b xs) in
      let more = length_sealed_row n (suc i) y (drop b xs) (omega (arith, suc-mul n b, length-drop b xs)) in
      omega (arith, length-append y (joined (sealed s (suc i) y (blocks b n (drop b xs)))), suc-mul n b, long_sealed n i w xs room)

  -- each sealed block is that of its reading, after the sealed block before it
  pub sealed_part : (j n i : ℕ) (w xs rest : List ℕ) → j < n → n * s.size ≤ length xs
      → let page = joined (sealed s i w (blocks s.size n xs)) ++ rest in part s.size j page ≡ seal_block s (i + j) (previous s.size w j page) (part s.size j xs)
  sealed_part j zero i w xs rest lt room = absurd (omega arith)
  sealed_part zero (suc n) i w xs rest lt room =
      let b = s.size in
      let y = seal_block s i w (take b xs) in
      let more = joined (sealed s (suc i) y (blocks b n (drop b xs))) in
      part_first b ((y ++ more) ++ rest) ∙ ap (take b) (append_assoc y more rest) ∙ take_at y (more ++ rest) b (long_sealed n i w xs room)
      ∙ ap (λ k. seal_block s k w (take b xs)) {x = i} {y = i + 0} (omega arith) ∙ ap (seal_block s (i + 0) w) (sym (part_first b xs))
  sealed_part (suc j) (suc n) i w xs rest lt room =
      let b = s.size in
      let y = seal_block s i w (take b xs) in
      let more = joined (sealed s (suc i) y (blocks b n (drop b xs))) in
      let page = (y ++ more) ++ rest in
      let front : take b page ≡ y = ap (take b) (append_assoc y more rest) ∙ take_at y (more ++ rest) b (long_sealed n i w xs room) in
      let back : drop b page ≡ more ++ rest = ap (drop b) (append_assoc y more rest) ∙ drop_at y (more ++ rest) b (long_sealed n i w xs room) in
      let before : previous b y j (more ++ rest) ≡ previous b w (suc j) page =
      ap (λ u. previous b u j (more ++ rest)) (sym front) ∙ ap (previous b (take b page) j) (sym back) ∙ previous_shift b w j page in
      part_next b j page ∙ ap (part b j) back ∙ sealed_part j n (suc i) y (drop b xs) rest (omega arith) (omega (arith, suc-mul n b, length-drop b xs))
      ∙ ap (λ k. seal_block s k (previous b y j (more ++ rest)) (part b j (drop b xs))) {x = suc i + j} {y = i + suc j} (omega arith)
      ∙ ap (λ u. seal_block s (i + suc j) u (part b j (drop b xs))) before ∙ ap (seal_block s (i + suc j) (previous b w (suc j) page)) (sym (part_next b j xs))

module _ (s : Scheme) (keeps : (x : List ℕ) → length x ≡ s.size → length (s.dec x) ≡ s.size) where
  long_opened : (n i : ℕ) (w xs : List ℕ) → suc n * s.size ≤ length xs → length (open_block s i w (take s.size xs)) ≡ s.size
  long_opened n i w xs room =
      length-xor _ (s.first s.start i w) ∙ keeps _ (length-xor _ (s.last s.start i w) ∙ length-take-le s.size xs (omega (arith, suc-mul n s.size)))

  pub length_opened_row : (n i : ℕ) (w xs : List ℕ) → n * s.size ≤ length xs → length (joined (opened s i w (blocks s.size n xs))) ≡ n * s.size
  length_opened_row zero i w xs room = sym (zero-mul s.size)
  length_opened_row (suc n) i w xs room =
      let b = s.size in
      let y = open_block s i w (take b xs) in
      let more = length_opened_row n (suc i) (take b xs) (drop b xs) (omega (arith, suc-mul n b, length-drop b xs)) in
      omega (arith, length-append y (joined (opened s (suc i) (take b xs) (blocks b n (drop b xs)))), suc-mul n b, long_opened n i w xs room)

  -- each reading is that of its block, after the block before it
  pub opened_part : (j n i : ℕ) (w xs : List ℕ) → j < n → n * s.size ≤ length xs
      → part s.size j (joined (opened s i w (blocks s.size n xs))) ≡ open_block s (i + j) (previous s.size w j xs) (part s.size j xs)
  opened_part j zero i w xs lt room = absurd (omega arith)
  opened_part zero (suc n) i w xs lt room =
      let b = s.size in
      let y = open_block s i w (take b xs) in
      let more = joined (opened s (suc i) (take b xs) (blocks b n (drop b xs))) in
      part_first b (y ++ more) ∙ take_at y more b (long_opened n i w xs room)
      ∙ ap (λ k. open_block s k w (take b xs)) {x = i} {y = i + 0} (omega arith) ∙ ap (open_block s (i + 0) w) (sym (part_first b xs))
  opened_part (suc j) (suc n) i w xs lt room =
      let b = s.size in
      let y = open_block s i w (take b xs) in
      let more = joined (opened s (suc i) (take b xs) (blocks b n (drop b xs))) in
      part_next b j (y ++ more) ∙ ap (part b j) (drop_at y more b (long_opened n i w xs room))
      ∙ opened_part j n (suc i) (take b xs) (drop b xs) (omega arith) (omega (arith, suc-mul n b, length-drop b xs))
      ∙ ap (λ k. open_block s k (previous b (take b xs) j (drop b xs)) (part b j (drop b xs))) {x = suc i + j} {y = i + suc j} (omega arith)
      ∙ ap (λ u. open_block s (i + suc j) u (part b j (drop b xs))) (previous_shift b w j xs) ∙ ap (open_block s (i + suc j) (previous b w (suc j) xs)) (sym (part_next b j xs))
