-- The page at which readings stand is those readings sealed; it is what one call seals of them, and it opens to them.
use Rattle.std.proofs.Common.{◌≡◌, ℕ, ◌+◌, ◌*◌, ◌/◌, ◌%◌, ◌<◌, ◌≤◌, true, Some, Option, List, [], length, get_or, take, ◌==◌, refl, sym, ap, ap₂, subst, ◌∙◌, append-nil, mul-div_cancel, le-div_iff_mul-le, arith}
use Rattle.std.proofs.Math.Nat.{mul-mod_left}
use Rattle.std.proofs.lemmas.Bool.{eq-eqb}
use Rattle.std.proofs.lemmas.Simd.{Each1-get_or}
use Rattle.std.proofs.lemmas.Bool.Decides.{nat_tests}
use Rattle.ublock.specs.Laws.{Block}
use Rattle.ublock.specs.Parts.{part}
use Rattle.cipher.specs.Engines.{Answer}
use Rattle.modes.specs.Sealing.{Scheme, Lawful, AllBlocks, seal_block, open_block, joined, blocks, last_block}
use Rattle.modes.proofs.Rows.{all_long, length_joined, blocks_joined, last_of_blocks, opened_sealed, open_seal_block}
use Rattle.beatlog.specs.Refusals.{seal_refusal, open_refusal}
use Rattle.beatlog.specs.Calls.{before_block, reading_of}
use Rattle.beatlog.proofs.Leads.{take_blocks}
use Rattle.agreement.specs.Agreements.{answered, HoldsSealed, SealTo, OpenTo}
use Rattle.agreement.proofs.Laws.{size_positive}
use Rattle.agreement.proofs.Images.{image, last_sealed, last_is_block, length_image, image_blocks, image_zeros}
use Rattle.agreement.proofs.Rows.{each_take, blocks_at, sealed_take, sealed_at}

pub answer_is : (answer : Answer ℕ) (k : ℕ) → answer.value ≡ Some k → answer.number ≡ 0 → answer ≡ answered k
answer_is answer k v n = ap₂ (λ (x : Option ℕ) (y : ℕ). let z : Answer ℕ = record { value = x; number = y } in z) v n

-- ---- no row of the table of refusals applies
seal_fine : (b start readings page : ℕ) → start ≡ b → readings % b ≡ 0 → page % b ≡ 0 → page ≤ 2048 * b → readings ≤ page
    → seal_refusal b start readings page ≡ 0
seal_fine b start readings page a c d e f = grind (arith, nat_tests)

open_fine : (b start page n place : ℕ) → start ≡ b → place ≡ n * b → page % b ≡ 0 → page ≤ 2048 * b → n ≤ page / b → open_refusal b start page n place ≡ 0
open_fine b start page n place a c d e f = grind (arith, nat_tests)

-- a page of L bytes that a log takes, and readings that have room there
pub record Room (b L : ℕ) (rs : List (List ℕ)) : Type 0 where
  pub whole : L % b ≡ 0
  pub few : L ≤ 2048 * b
  pub fits : length rs * b ≤ L
  pub blocks : AllBlocks b rs

module _ (s : Scheme) (ok : Lawful s) (L : ℕ) (rs : List (List ℕ)) (room : Room s.size L rs) where
  pub image_long : length (image s L rs) ≡ L
  image_long = length_image s ok L rs room.blocks room.fits

  pub image_whole : length (image s L rs) % s.size ≡ 0
  image_whole = ap (λ k. k % s.size) image_long ∙ room.whole

  pub image_few : length (image s L rs) ≤ 2048 * s.size
  image_few = omega (arith, image_long, room.few)

  pub image_has_all : length rs ≤ length (image s L rs) / s.size
  image_has_all = subst (λ k. length rs ≤ k / s.size) (sym image_long) ((le-div_iff_mul-le (size_positive s ok)).1 room.fits)

  -- the sealed block before block i
  before_of_page : (i : ℕ) → i < length rs → before_block s i (image s L rs) ≡ last_sealed s (take i rs)
  before_of_page i lt =
      let page = image s L rs in
      sym (last_of_blocks s.size s.start i page)
      ∙ ap (last_block s.start) (sym (take_blocks s.size i (length rs) page (omega arith)) ∙ ap (take i) (image_blocks s ok L rs room.blocks) ∙ sealed_take s 0 s.start i rs)

  block_of_page : (i : ℕ) → i < length rs → part s.size i (image s L rs) ≡ seal_block s i (before_block s i (image s L rs)) (get_or rs i [])
  block_of_page i lt =
      sym (blocks_at s.size (length rs) i (image s L rs) lt) ∙ ap (λ z. get_or z i []) (image_blocks s ok L rs room.blocks) ∙ sealed_at s 0 s.start rs i lt
      ∙ ap (λ k. seal_block s k (last_sealed s (take i rs)) (get_or rs i [])) {x = 0 + i} {y = i} (omega arith)
      ∙ ap (λ w. seal_block s i w (get_or rs i [])) (sym (before_of_page i lt))

  pub reading_of_page : (i : ℕ) → i < length rs → reading_of s i (image s L rs) ≡ get_or rs i []
  reading_of_page i lt =
      let before = before_block s i (image s L rs) in
      let hb : Block s.size before = subst (Block s.size) (sym (before_of_page i lt)) (last_is_block s ok (take i rs) (each_take (Block s.size) i rs room.blocks)) in
      ap (open_block s i before) (block_of_page i lt)
      ∙ open_seal_block s ok i before (get_or rs i []) hb (Each1-get_or (Block s.size) rs i [] lt room.blocks)

  pub holds_sealed : HoldsSealed s L rs (image s L rs)
  holds_sealed = record { long = image_long; fits = room.fits; blocks = block_of_page; zeros = image_zeros s ok L rs room.blocks }

  pub seal_to : SealTo s rs (image s L rs)
  seal_to before after answer long c =
      let b = s.size in
      let row = joined rs in
      let n : length row ≡ length rs * b = length_joined b rs (all_long b rs room.blocks) in
      let l : length before ≡ L = long ∙ image_long in
      let row_whole : length row % b ≡ 0 = ap (λ k. k % b) n ∙ mul-mod_left (length rs) b in
      let page_whole : length before % b ≡ 0 = ap (λ k. k % b) l ∙ room.whole in
      let fine = seal_fine b (length s.start) (length row) (length before) ok.start.long row_whole page_whole (omega (arith, room.few)) (omega (arith, room.fits)) in
      let zero : answer.number ≡ 0 = c.number ∙ fine in
      let t : (answer.number == 0) ≡ true = eq-eqb answer.number 0 zero in
      let count : length row / b ≡ length rs = ap (λ k. k / b) n ∙ mul-div_cancel (length rs) (size_positive s ok) in
      let cut : blocks b (length row / b) row ≡ rs =
      ap (λ k. blocks b k row) count ∙ ap (blocks b (length rs)) (sym (append-nil row)) ∙ blocks_joined b rs [] (all_long b rs room.blocks) in (
        answer_is answer (length rs) (c.value ∙ rw t (ap (λ k. Some k) count)) zero,
        c.leaves ∙ rw (t, cut, l, n) refl,
      )

  pub open_to : OpenTo s (image s L rs) rs
  open_to place after answer long c =
      let b = s.size in
      let page = image s L rs in
      let fine = open_fine b (length s.start) (length page) (length rs) (length place) ok.start.long long image_whole image_few image_has_all in
      let zero : answer.number ≡ 0 = c.number ∙ fine in
      let t : (answer.number == 0) ≡ true = eq-eqb answer.number 0 zero in (
        answer_is answer (length rs) (c.value ∙ rw t refl) zero,
        c.leaves ∙ rw (t, image_blocks s ok L rs room.blocks, opened_sealed s ok 0 s.start rs ok.start room.blocks) refl,
      )
