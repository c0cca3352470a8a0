-- The page at which readings stand: their sealed blocks joined, then zeros.
use Rattle.std.proofs.Common.{◌≡◌, ℕ, ◌+◌, ◌-◌, ◌*◌, ◌≤◌, List, ◌++◌, length, take, drop, replicate, sym, ap, ◌∙◌, append_assoc, length-append, take_at, drop_at, arith}
use Rattle.std.proofs.lemmas.List.{length-replicate}
use Rattle.ublock.specs.Laws.{Block}
use Rattle.modes.specs.Sealing.{Scheme, Lawful, AllBlocks, AllLong, sealed, opened, joined, blocks, last_block, previous}
use Rattle.modes.proofs.Rows.{all_long, block_last, joined_append, length_joined, blocks_joined, previous_joined, length_sealed, sealed_append, sealed_are_blocks, sealed_long, opened_sealed}
use Rattle.beatlog.specs.Calls.{before_block, readings_from}

-- the sealed blocks of a page, and the last of them
abbrev pub sealed_row : Scheme → List (List ℕ) → List (List ℕ)
sealed_row s ps = sealed s 0 s.start ps

abbrev pub last_sealed : Scheme → List (List ℕ) → List ℕ
last_sealed s ps = last_block s.start (sealed_row s ps)

-- what follows them on a page of L bytes
abbrev pub zeros : Scheme → ℕ → List (List ℕ) → List ℕ
zeros s L ps = replicate (L - length ps * s.size) 0

abbrev pub image : Scheme → ℕ → List (List ℕ) → List ℕ
image s L ps = joined (sealed_row s ps) ++ zeros s L ps

module _ (s : Scheme) (ok : Lawful s) where
  row_long : (ps : List (List ℕ)) → AllBlocks s.size ps → AllLong s.size (sealed_row s ps)
  row_long ps h = sealed_long s ok 0 s.start ps (all_long s.size ps h)

  pub last_is_block : (ps : List (List ℕ)) → AllBlocks s.size ps → Block s.size (last_sealed s ps)
  last_is_block ps h = block_last s.size s.start (sealed_row s ps) ok.start (sealed_are_blocks s ok 0 s.start ps ok.start h)

  length_joined_row : (ps : List (List ℕ)) → AllBlocks s.size ps → length (joined (sealed_row s ps)) ≡ length ps * s.size
  length_joined_row ps h = length_joined s.size (sealed_row s ps) (row_long ps h) ∙ ap (λ n. n * s.size) (length_sealed s 0 s.start ps)

  pub length_image : (L : ℕ) (ps : List (List ℕ)) → AllBlocks s.size ps → length ps * s.size ≤ L → length (image s L ps) ≡ L
  length_image L ps h le =
      omega (arith, length-append (joined (sealed_row s ps)) (zeros s L ps), length_joined_row ps h, length-replicate {A = ℕ} (L - length ps * s.size) 0)

  pub image_blocks : (L : ℕ) (ps : List (List ℕ)) → AllBlocks s.size ps → blocks s.size (length ps) (image s L ps) ≡ sealed_row s ps
  image_blocks L ps h =
      ap (λ n. blocks s.size n (image s L ps)) (sym (length_sealed s 0 s.start ps)) ∙ blocks_joined s.size (sealed_row s ps) (zeros s L ps) (row_long ps h)

  pub image_zeros : (L : ℕ) (ps : List (List ℕ)) → AllBlocks s.size ps → drop (length ps * s.size) (image s L ps) ≡ zeros s L ps
  image_zeros L ps h = drop_at (joined (sealed_row s ps)) (zeros s L ps) (length ps * s.size) (length_joined_row ps h)

-- ---- readings in two parts: the sealed blocks of the second, after those of the first
abbrev rest_sealed : Scheme → List (List ℕ) → List (List ℕ) → List (List ℕ)
rest_sealed s ps qs = sealed s (length ps) (last_sealed s ps) qs

pub image_split : (s : Scheme) (L : ℕ) (ps qs : List (List ℕ)) → image s L (ps ++ qs) ≡ joined (sealed_row s ps) ++ (joined (rest_sealed s ps qs) ++ zeros s L (ps ++ qs))
image_split s L ps qs =
    let front = sealed_row s ps in
    let rest = rest_sealed s ps qs in
    let past = zeros s L (ps ++ qs) in
    ap (λ z. joined z ++ past) (sealed_append s 0 s.start ps qs ∙ ap (λ k. front ++ sealed s k (last_sealed s ps) qs) {x = 0 + length ps} {y = length ps} (omega arith))
    ∙ ap (λ z. z ++ past) (joined_append front rest) ∙ append_assoc (joined front) (joined rest) past

module _ (s : Scheme) (ok : Lawful s) (L : ℕ) (ps qs : List (List ℕ)) (hp : AllBlocks s.size ps) where
  abbrev page : List ℕ
  page = image s L (ps ++ qs)

  abbrev past : List ℕ
  past = joined (rest_sealed s ps qs) ++ zeros s L (ps ++ qs)

  pub image_front : take (length ps * s.size) page ≡ joined (sealed_row s ps)
  image_front = ap (take (length ps * s.size)) (image_split s L ps qs) ∙ take_at (joined (sealed_row s ps)) past (length ps * s.size) (length_joined_row s ok ps hp)

  image_rest : drop (length ps * s.size) page ≡ past
  image_rest = ap (drop (length ps * s.size)) (image_split s L ps qs) ∙ drop_at (joined (sealed_row s ps)) past (length ps * s.size) (length_joined_row s ok ps hp)

  pub image_before : before_block s (length ps) page ≡ last_sealed s ps
  image_before =
      ap (previous s.size s.start (length ps)) (image_split s L ps qs)
      ∙ ap (λ n. previous s.size s.start n (joined (sealed_row s ps) ++ past)) (sym (length_sealed s 0 s.start ps))
      ∙ previous_joined s.size s.start (sealed_row s ps) past (row_long s ok ps hp)

  -- the readings of the second part
  pub image_readings : AllBlocks s.size qs → readings_from s (length ps) (length (ps ++ qs)) page ≡ qs
  image_readings hq =
      let b = s.size in
      let before = last_sealed s ps in
      let hb = last_is_block s ok ps hp in
      let rest = rest_sealed s ps qs in
      let n : length (ps ++ qs) - length ps ≡ length rest = omega (arith, length-append ps qs, length_sealed s (length ps) before qs) in
      let cut : blocks b (length (ps ++ qs) - length ps) (drop (length ps * b) page) ≡ rest =
      ap (λ k. blocks b k (drop (length ps * b) page)) n ∙ ap (blocks b (length rest)) image_rest
      ∙ blocks_joined b rest (zeros s L (ps ++ qs)) (sealed_long s ok (length ps) before qs (all_long b qs hq)) in
      ap (λ w. opened s (length ps) w (blocks b (length (ps ++ qs) - length ps) (drop (length ps * b) page))) image_before
      ∙ ap (opened s (length ps) before) cut ∙ opened_sealed s ok (length ps) before qs hb hq
