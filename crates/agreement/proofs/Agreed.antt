-- Recorder and bench agree, whatever engine and mode they have, where these have their laws.
use Rattle.std.proofs.Common.{◌≡◌, ℕ, suc, ◌-◌, ◌*◌, List, [], ◌∷◌, ◌++◌, length, replicate, refl, sym, ap, subst, subst₂, ◌∙◌}
use Rattle.ublock.specs.Laws.{Block}
use Rattle.ublock.specs.Cipher.{xor}
use Rattle.modes.specs.Sealing.{Scheme, Lawful, AllBlocks, seal_block, sealed, joined}
use Rattle.modes.proofs.Rows.{first_masked, seal_block_is_block}
use Rattle.beatlog.specs.Refusals.{Call}
use Rattle.beatlog.specs.Calls.{State, Outcome}
use Rattle.agreement.specs.Standing.{standing}
use Rattle.agreement.specs.Agreements.{Kept, SameMeaning, HoldsSealed, SealTo, OpenTo, PagesAgree, CountAlike, Agreement, Agree}
use Rattle.agreement.proofs.Laws.{LawfulMeaning}
use Rattle.agreement.proofs.Images.{image}
use Rattle.agreement.proofs.Pages.{holds_sealed, seal_to, open_to, image_long}
use Rattle.agreement.proofs.KeptLogs.{stands, log_tells}
use Rattle.agreement.proofs.Counts.{count_alike}

-- t with another block length and start block
abbrev fitted : Scheme → ℕ → List ℕ → Scheme
fitted t b v = record t { size = b; start = v }

-- ---- schemes of one meaning seal alike
module _ (s t : Scheme) (ok : Lawful s) (same : SameMeaning s t) where
  abbrev u : Scheme
  u = fitted t s.size s.start

  seal_alike : (i : ℕ) (before p : List ℕ) → Block s.size before → Block s.size p → seal_block s i before p ≡ seal_block u i before p
  seal_alike i before p hb hp =
      rw (← same.first s.start i before ok.start hb, ← same.last s.start i before ok.start hb, ← same.enc (xor p (s.first s.start i before)) (first_masked s ok i before p hb hp)) refl

  sealed_alike : (i : ℕ) (before : List ℕ) (ps : List (List ℕ)) → Block s.size before → AllBlocks s.size ps → sealed s i before ps ≡ sealed u i before ps
  sealed_alike i before [] hb h = refl
  sealed_alike i before (p ∷ ps) hb h =
      let x = seal_block s i before p in
      ap (λ z. x ∷ z) (sealed_alike (suc i) x ps (seal_block_is_block s ok i before p hb h.0) h.1)
      ∙ ap (λ z. z ∷ sealed u (suc i) z ps) (seal_alike i before p hb h.0)

  image_alike : (L : ℕ) (ps : List (List ℕ)) → AllBlocks s.size ps → image s L ps ≡ image u L ps
  image_alike L ps h = ap (λ z. joined z ++ replicate (L - length ps * s.size) 0) (sealed_alike 0 s.start ps ok.start h)

-- ---- a recorder s, and a bench of t's engine and mode
module _ (s t : Scheme) (laws : LawfulMeaning s) (same : SameMeaning s t) (laws_of_bench : LawfulMeaning (fitted t s.size s.start)) where
  abbrev bench : Scheme
  bench = fitted t s.size s.start

  pages_agree : (L : ℕ) (calls : List Call) (outcomes : List Outcome) (last : State) → Kept s L calls outcomes last → PagesAgree s bench L (standing s.size L calls) last.page
  pages_agree L calls outcomes last k =
      let rs = standing s.size L calls in
      let at = stands s laws L calls outcomes last k in
      let ok = at.lawful in
      let ok' = laws_of_bench.with_start s.start ok.start in
      let alike = image_alike s t ok same L rs at.room.blocks in
      let on_bench : last.page ≡ image bench L rs = at.holds.page ∙ alike in
      record {
        sealed_by_rule = subst (HoldsSealed s L rs) (sym at.holds.page) (holds_sealed s ok L rs at.room);
        bench_seals = subst (SealTo bench rs) (sym on_bench) (seal_to bench ok' L rs at.room);
        bench_opens = subst (λ p. OpenTo bench p rs) (sym on_bench) (open_to bench ok' L rs at.room);
        recorder_opens = λ before after answer long c.
            let is = (seal_to bench ok' L rs at.room before after answer (long ∙ sym (image_long bench ok' L rs at.room)) c).1 in
            subst (λ p. OpenTo s p rs) (sym (is ∙ sym alike)) (open_to s ok L rs at.room);
      }

  counts_agree : (L L' : ℕ) (calls calls' : List Call) (outcomes outcomes' : List Outcome) (last last' : State)
      → Kept s L calls outcomes last → Kept bench L' calls' outcomes' last'
      → CountAlike s.size last.page (standing s.size L calls) last'.page (standing s.size L' calls')
  counts_agree L L' calls calls' outcomes outcomes' last last' k k' =
      let rs = standing s.size L calls in
      let rs' = standing s.size L' calls' in
      let at = stands s laws L calls outcomes last k in
      let at' = stands bench laws_of_bench L' calls' outcomes' last' k' in
      let alike = image_alike s t at.lawful same L' rs' at'.room.blocks in
      subst₂ (λ x y. CountAlike s.size x rs y rs') (sym at.holds.page) (sym (at'.holds.page ∙ sym alike)) (count_alike s at.lawful L L' rs rs' at.room at'.room)

same_as_itself : (s : Scheme) → SameMeaning s s
same_as_itself s = record { size = refl; enc = λ x h. refl; first = λ v i before h g. refl; last = λ v i before h g. refl; start = refl }

agreed : (s t : Scheme) (laws : LawfulMeaning s) (same : SameMeaning s t) (laws_of_bench : LawfulMeaning (fitted t s.size s.start)) → Agreement s (fitted t s.size s.start)
agreed s t laws same laws_of_bench = record {
  pages_agree = pages_agree s t laws same laws_of_bench;
  counts_agree = counts_agree s t laws same laws_of_bench;
  counts_agree_at_home = counts_agree s s laws (same_as_itself s) laws;
  log_tells = log_tells s laws;
}

pub agreement : (recorder bench : Scheme) → LawfulMeaning recorder → LawfulMeaning bench → Agree recorder bench
agreement s t laws laws_of_bench same =
    subst₂ (λ b v. LawfulMeaning (fitted t b v) → Agreement s (fitted t b v)) same.size same.start (agreed s t laws same) laws_of_bench
