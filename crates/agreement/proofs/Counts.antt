-- Of two pages, each sealed from its readings, as many leading sealed blocks are alike as leading readings, and that is what is counted.
use Rattle.std.proofs.Common.{◌≡◌, ℕ, ◌*◌, ◌/◌, ◌%◌, ◌≤◌, true, Some, None, Option, List, length, is_some, IfSome, refl, sym, ap, subst₂, ◌∙◌, ⊎_elim, arith}
use Rattle.std.proofs.lemmas.Bool.{eq-eqb}
use Rattle.std.proofs.lemmas.Bool.Decides.{nat_tests}
use Rattle.modes.specs.Modes.{BlockLength}
use Rattle.modes.specs.Sealing.{Scheme, Lawful, blocks}
use Rattle.beatlog.specs.Refusals.{common_refusal}
use Rattle.beatlog.specs.Pages.{Leading}
use Rattle.agreement.specs.Agreements.{CountAlike}
use Rattle.agreement.proofs.Images.{image, image_blocks}
use Rattle.agreement.proofs.Leads.{leading, leading_unique, leading_sealed}
use Rattle.agreement.proofs.Pages.{Room, answer_is, image_whole, image_few, image_has_all}

common_fine : (b x n y m : ℕ) → BlockLength b → x % b ≡ 0 → x ≤ 2048 * b → y % b ≡ 0 → y ≤ 2048 * b → n ≤ x / b → m ≤ y / b
    → common_refusal b x n y m ≡ 0
common_fine b x n y m size a c d e f g = ⊎_elim (λ z. grind (arith, nat_tests)) (λ z. grind (arith, nat_tests)) size

found : (v : Option ℕ) (P : ℕ → Type 0) → is_some v ≡ true → IfSome v P → (k : ℕ) × (v ≡ Some k) × P k
found None P e h = absurd (cc)
found (Some k) P e h = (k, refl, h)

module _ (s : Scheme) (ok : Lawful s) (L L' : ℕ) (ps qs : List (List ℕ)) (room : Room s.size L ps) (room' : Room s.size L' qs) where
  abbrev x : List ℕ
  x = image s L ps

  abbrev y : List ℕ
  y = image s L' qs

  blocks_lead : Leading (blocks s.size (length ps) x) (blocks s.size (length qs) y) (leading ps qs).0
  blocks_lead =
      subst₂ (λ a c. Leading a c (leading ps qs).0) (sym (image_blocks s ok L ps room.blocks)) (sym (image_blocks s ok L' qs room'.blocks))
      (leading_sealed s ok ps qs room.blocks room'.blocks (leading ps qs).0 (leading ps qs).1)

  pub count_alike : CountAlike s.size x ps y qs
  count_alike = record {
    count = (leading ps qs).0;
    of_readings = (leading ps qs).1;
    of_blocks = blocks_lead;
    number = λ n m answer c. c.number;
    common = λ answer c.
        let b = s.size in
        let zero : answer.number ≡ 0 =
        c.number ∙ common_fine b (length x) (length ps) (length y) (length qs) ok.length (image_whole s ok L ps room) (image_few s ok L ps room)
        (image_whole s ok L' qs room') (image_few s ok L' qs room') (image_has_all s ok L ps room) (image_has_all s ok L' qs room') in
        let k = found answer.value (λ k. Leading (blocks b (length ps) x) (blocks b (length qs) y) k) (c.given ∙ eq-eqb answer.number 0 zero) c.value in
        answer_is answer (leading ps qs).0 (k.1 ∙ ap (λ n. Some n) (leading_unique _ _ k.0 (leading ps qs).0 k.2 blocks_lead)) zero;
  }
