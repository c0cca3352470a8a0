-- What an accepted call makes of the page at which readings stand.
use Rattle.std.proofs.Common.{◌≡◌, ℕ, suc, ◌+◌, ◌-◌, ◌*◌, ◌≤◌, List, [], ◌∷◌, ◌++◌, length, take, drop, replicate, refl, sym, ap, ◌∙◌, append_assoc, append-nil, length-append, drop-drop, suc-mul, add-mul, arith}
use Rattle.std.proofs.lemmas.List.{length_push, drop-replicate}
use Rattle.ublock.specs.Laws.{Block}
use Rattle.modes.specs.Sealing.{Scheme, Lawful, AllBlocks, seal_block, joined}
use Rattle.beatlog.specs.Calls.{before_block, readings_from, page_after}
use Rattle.beatlog.specs.Refusals.{append, amend, cut}
use Rattle.agreement.proofs.Rows.{each_append}
use Rattle.agreement.proofs.Images.{image, sealed_row, last_sealed, zeros, length_image, image_zeros, image_split, image_front, image_before, image_readings}

-- of a page of L bytes, behind one block more
room_left : (L b n m : ℕ) → m ≡ n + 1 → L - n * b - b ≡ L - m * b
room_left L b n m e = omega (arith, ap (λ k. k * b) e, add-mul n 1 b)

module _ (s : Scheme) (ok : Lawful s) (L : ℕ) where
  pub image_append : (ps : List (List ℕ)) (p : List ℕ) → AllBlocks s.size ps → page_after s (length ps) (image s L ps) (append p) ≡ image s L (ps ++ p ∷ [])
  image_append ps p hp =
      let b = s.size in
      let n = length ps in
      let page = image s L ps in
      let same : page ≡ image s L (ps ++ []) = ap (image s L) (sym (append-nil ps)) in
      let before : take (n * b) page ≡ joined (sealed_row s ps) = ap (take (n * b)) same ∙ image_front s ok L ps [] hp in
      let last : before_block s n page ≡ last_sealed s ps = ap (before_block s n) same ∙ image_before s ok L ps [] hp in
      let past : drop (suc n * b) page ≡ zeros s L (ps ++ p ∷ []) =
      ap (λ m. drop m page) (suc-mul n b) ∙ sym (drop-drop b (n * b) page) ∙ ap (drop b) (image_zeros s ok L ps hp)
      ∙ drop-replicate b (L - n * b) 0 ∙ ap (λ m. replicate m 0) (room_left L b n (length (ps ++ p ∷ [])) (length_push ps p)) in
      rw (before, last, past, image_split s L ps (p ∷ []), append-nil (seal_block s n (last_sealed s ps) p)) refl

  pub image_cut : (ps qs : List (List ℕ)) (n : ℕ) → AllBlocks s.size ps → AllBlocks s.size qs → length (ps ++ qs) * s.size ≤ L
      → page_after s n (image s L (ps ++ qs)) (cut (length ps)) ≡ image s L ps
  image_cut ps qs n hp hq le = rw (image_front s ok L ps qs hp, length_image s ok L (ps ++ qs) (each_append (Block s.size) ps qs hp hq) le) refl

  -- the readings behind the amended one are opened and sealed anew
  pub image_amend : (ps : List (List ℕ)) (q p : List ℕ) (qs : List (List ℕ)) (work : List ℕ) → AllBlocks s.size ps → AllBlocks s.size (q ∷ qs)
      → page_after s (length (ps ++ q ∷ qs)) (image s L (ps ++ q ∷ qs)) (amend (length ps) p work) ≡ image s L (ps ++ p ∷ qs)
  image_amend ps q p qs work hp hq =
      let b = s.size in
      let j = length ps in
      let n = length (ps ++ q ∷ qs) in
      let page = image s L (ps ++ q ∷ qs) in
      let upto = ps ++ q ∷ [] in
      let before : take (j * b) page ≡ joined (sealed_row s ps) = image_front s ok L ps (q ∷ qs) hp in
      let last : before_block s j page ≡ last_sealed s ps = image_before s ok L ps (q ∷ qs) hp in
      let later : readings_from s (suc j) n page ≡ qs =
      ap (λ z. readings_from s (suc j) (length z) (image s L z)) (sym (append_assoc ps (q ∷ []) qs))
      ∙ ap (λ k. readings_from s k (length (upto ++ qs)) (image s L (upto ++ qs))) {x = suc j} {y = length upto} (omega (arith, length-append ps (q ∷ [])))
      ∙ image_readings s ok L upto qs (each_append (Block b) ps (q ∷ []) hp (hq.0, tt)) hq.1 in
      let past : drop (n * b) page ≡ zeros s L (ps ++ p ∷ qs) =
      image_zeros s ok L (ps ++ q ∷ qs) (each_append (Block b) ps (q ∷ qs) hp hq) ∙ ap (λ m. replicate (L - m * b) 0) (length-append ps (q ∷ qs) ∙ sym (length-append ps (p ∷ qs))) in
      rw (before, last, later, past, image_split s L ps (p ∷ qs)) refl
