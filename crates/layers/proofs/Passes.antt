-- A layer's passes over a run, and what they come to.
use Rattle.std.specs.Prelude.{◌≡◌, ℕ, ◌*◌, ◌/◌, ◌%◌, ◌≤◌, cond, true, false, List, ◌++◌, length, take, drop, Ok, Err, Result, if◌then◌else◌, is_ok, refl}
use Rattle.std.proofs.Common.{sym, ap, subst, ◌∙◌, arith}
use Rattle.std.proofs.lemmas.Bool.Decides.{nat_tests}
use Rattle.std.proofs.lemmas.List.{append-nil, drop_all, drop_at, length-append, length-drop}
use Rattle.std.proofs.lemmas.Nat.{div-add-mod'}
use Rattle.ublock.specs.Cipher.{xor}
use Rattle.ublock.proofs.Bytes.{xor_twice}
use Rattle.cipher.specs.Engines.{Answer, Ran, each, refused, engine_answer}
use Rattle.cipher.specs.declared.engine.EngineFault.{EngineFault}
use Rattle.cipher.specs.declared.engine.EngineFault.TheVariants.{RunLength}
use Rattle.cipher.proofs.EngineRuns.{length-each}
use Rattle.layers.specs.Layers.{whitened, added_to_blocks}
use Rattle.layers.proofs.Sums.{keeps_added}
use Rattle.layers.proofs.Blocks.{Keeps, each_each, each-each, each_same, whole}

-- ---- what an answer's number says
accepted : (b w n : ℕ) (answer : Answer Unit) → answer.number ≡ cond (refused b w n) 4 0 → answer.number ≡ 0 → refused b w n ≡ false
accepted b w n answer is zero = grind (arith, nat_tests)

declined : (b w n : ℕ) (answer : Answer Unit) → answer.number ≡ cond (refused b w n) 4 0 → answer.number ≡ 4 → refused b w n ≡ true
declined b w n answer is four = grind (arith, nat_tests)

whole_run : (b w n : ℕ) → refused b w n ≡ false → n / b * b ≡ n
whole_run b w n fine = let e : n % b ≡ 0 = grind (arith, nat_tests) in whole b n e

-- ---- one engine after the other
pub second_pass : (b w : ℕ) (f g : List ℕ → List ℕ) (was mid now : List ℕ) (answer last : Answer Unit) → Keeps b f
    → Ran b w f was mid answer → answer.number ≡ 0 → Ran b w g mid now last → Ran b w (λ x. g (f x)) was now last
second_pass b w f g was mid now answer last keeps p zero q =
    let n = length was / b in
    let fine : refused b w (length was) ≡ false = accepted b w (length was) answer p.number zero in
    let all : n * b ≡ length was = whole_run b w (length was) fine in
    let first : mid ≡ each b f n was = p.run ∙ rw fine in
    let long : length mid ≡ length was = ap length first ∙ length-each b f keeps n was (omega arith) ∙ all in
    record {
      number = q.number ∙ ap (λ m. cond (refused b w m) 4 0) long;
      run = q.run ∙ rw (long, fine) (ap (each b g n) first ∙ each-each b f g keeps n was (omega arith));
    }

-- ---- values added
blocks_within : (b : ℕ) (run : List ℕ) → length run / b * b ≤ length run
blocks_within b run = omega (arith, div-add-mod' (length run) b)

length-added : (b : ℕ) (value run : List ℕ) → length (added_to_blocks b value run) ≡ length run
length-added b value run =
    let n = length run / b in
    let front = each b (λ x. xor x (take b value)) n run in
    let long : length front ≡ n * b = length-each b (λ x. xor x (take b value)) (keeps_added b value) n run (blocks_within b run) in
    omega (arith, length-append front (drop (n * b) run), length-drop (n * b) run, blocks_within b run)

-- a value added twice changes nothing
added_twice : (b : ℕ) (value run : List ℕ) → added_to_blocks b value (added_to_blocks b value run) ≡ run
added_twice b value run =
    let n = length run / b in
    let f : List ℕ → List ℕ = λ x. xor x (take b value) in
    let front = each b f n run in
    let past = drop (n * b) run in
    let within = blocks_within b run in
    let long : length front ≡ n * b = length-each b f (keeps_added b value) n run within in
    ap (λ m. each b f (m / b) (front ++ past) ++ drop (m / b * b) (front ++ past)) (length-added b value run)
    ∙ ap (λ z. z ++ drop (n * b) (front ++ past)) (each_each b f f (keeps_added b value) n run past within)
    ∙ ap (λ z. each b (λ x. f (f x)) n run ++ z) (drop_at front past (n * b) long)
    ∙ each_same b (λ x. f (f x)) (λ x. xor_twice x (take b value)) n run

module _ (b w : ℕ) (first last : List ℕ) (enc : List ℕ → List ℕ) (was mid out now : List ℕ) (answer : Answer Unit) where
  after_refusal : mid ≡ added_to_blocks b first was → Ran b w enc mid out answer → answer.number ≡ 4 → now ≡ added_to_blocks b first out
      → Ran b w (whitened b first last enc) was now answer
  after_refusal added ran four back =
      let long : length mid ≡ length was = ap length added ∙ length-added b first was in
      let bad : refused b w (length mid) ≡ true = declined b w (length mid) answer ran.number four in
      let stays : out ≡ mid = ran.run ∙ rw bad in
      let same : now ≡ was = back ∙ ap (added_to_blocks b first) (stays ∙ added) ∙ added_twice b first was in
      let bad_was : refused b w (length was) ≡ true = ap (refused b w) (sym long) ∙ bad in
      record { number = ran.number ∙ ap (λ m. cond (refused b w m) 4 0) long; run = same ∙ rw bad_was }

  after_acceptance : Keeps b enc → mid ≡ added_to_blocks b first was → Ran b w enc mid out answer → answer.number ≡ 0 → now ≡ added_to_blocks b last out
      → Ran b w (whitened b first last enc) was now answer
  after_acceptance keeps added ran zero more =
      let n = length was / b in
      let f : List ℕ → List ℕ = λ x. xor x (take b first) in
      let g : List ℕ → List ℕ = λ x. xor x (take b last) in
      let h : List ℕ → List ℕ = λ x. enc (f x) in
      let within = blocks_within b was in
      let keeps_h : Keeps b h = λ x e. keeps (f x) (keeps_added b first x e) in
      let long : length mid ≡ length was = ap length added ∙ length-added b first was in
      let fine : refused b w (length was) ≡ false = ap (refused b w) (sym long) ∙ accepted b w (length mid) answer ran.number zero in
      let all : n * b ≡ length was = whole_run b w (length was) fine in
      let second : out ≡ each b h n was = ran.run ∙ rw (long, fine) (ap (each b enc n) added ∙ each_each b f enc (keeps_added b first) n was (drop (n * b) was) within) in
      let long_out : length out ≡ length was = ap length second ∙ length-each b h keeps_h n was within ∙ all in
      let third : now ≡ each b g n out = more ∙ ap (λ m. each b g (m / b) out ++ drop (m / b * b) out) long_out
      ∙ ap (λ z. each b g n out ++ z) (drop_all (n * b) out (omega arith)) ∙ append-nil (each b g n out) in
      record {
        number = ran.number ∙ ap (λ m. cond (refused b w m) 4 0) long;
        run = third ∙ ap (each b g n) second ∙ each-each b h g keeps_h n was within ∙ rw fine;
      }

-- ---- an engine between two values; c is what it answers for its block length
pub finished : (b c w : ℕ) (first last : List ℕ) (enc : List ℕ → List ℕ) (was mid out now : List ℕ) (answer result : Result Unit EngineFault)
    → c ≡ b → Keeps b enc → mid ≡ added_to_blocks c first was → Ran b w enc mid out (engine_answer answer)
    → result ≡ answer → now ≡ added_to_blocks c (if is_ok answer then last else first) out
    → Ran b w (whitened b first last enc) was now (engine_answer result)
finished b c w first last enc was mid out now (Ok u) result e keeps added ran same more =
    subst (λ r. Ran b w (whitened b first last enc) was now (engine_answer r)) (sym same)
    (after_acceptance b w first last enc was mid out now (engine_answer (Ok u)) keeps
    (added ∙ ap (λ k. added_to_blocks k first was) e) ran refl (more ∙ ap (λ k. added_to_blocks k last out) e))
finished b c w first last enc was mid out now (Err RunLength) result e keeps added ran same more =
    subst (λ r. Ran b w (whitened b first last enc) was now (engine_answer r)) (sym same)
    (after_refusal b w first last enc was mid out now (engine_answer (Err RunLength))
    (added ∙ ap (λ k. added_to_blocks k first was) e) ran refl (more ∙ ap (λ k. added_to_blocks k first out) e))
