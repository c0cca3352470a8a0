use Rattle.std.proofs.Common.{◌≡◌, ℕ, ◌+◌, ◌*◌, ◌<◌, ◌≤◌, List, [], ◌∷◌, ◌++◌, length, get_or, set, take, ap, ◌∙◌, arith}
use Rattle.std.proofs.lemmas.List.{take_more_set, append_assoc, length-append, length-set}
use Rattle.ublock.specs.Cipher.{nibbles, paired, permute}
use Rattle.ublock.specs.Variants.{parameters}
use Rattle.ublock.proofs.VariantFacts.{bounded}
use Rattle.schedule.proofs.register.Register.permute_front.Goals as goal

-- one more byte, from the two sources that are next
more : (front left rest two ns all : List ℕ) (n v : ℕ) → length two ≡ 2 → left ≡ two ++ rest → n < length front
    → v ≡ get_or ns (get_or two 0 0) 0 * 16 + get_or ns (get_or two 1 0) 0
    → take n front ++ paired (permute left ns) ≡ all → take (n + 1) (set front n v) ++ paired (permute rest ns) ≡ all
more front left rest [] ns all n v l e h ev i = absurd (omega arith)
more front left rest (x ∷ []) ns all n v l e h ev i = absurd (omega arith)
more front left rest (x ∷ y ∷ z ∷ zs) ns all n v l e h ev i = absurd (omega arith)
more front left rest (x ∷ y ∷ []) ns all n v l e h ev i =
    rw (take_more_set front n v h, append_assoc) (ap (λ m. take n front ++ (m ∷ paired (permute rest ns))) ev ∙ rw e at i)

pub loop-j-preserved : goal.loop-j-preserved
loop-j-preserved c =
    let step = c.in-Some.ensures.steps in
    let ns = nibbles c.args.self.bytes in
    let left = c.loop-j.j-iterator.iter.rest.now in
    let rest = c.next.new.self.iter.rest.now in
    let two = c.in-Some.pair.now in
    let n = c.loop-j.j-iterator.count in
    let cut : length left ≡ length two + length rest = rw step.0.1.0 (length-append two rest) in
    let is_two : length two ≡ 2 = step.0.1.1 ∙ c.loop-j.invariant.size in
    let few : length (parameters c.args.self.variant).PK ≤ 32 = omega (arith, (bounded c.args.self.variant).PK_long, (bounded c.args.self.variant).key_fits) in
    record {
      long = length-set c.loop-j.front c.in-Some.j _ ∙ c.loop-j.invariant.long;
      size = step.0.0 ∙ c.loop-j.invariant.size;
      count = omega (arith, is_two, cut, step.2);
      bytes = rw (step.1, step.2)
          (more c.loop-j.front left rest two ns _ n (c.nibble.result * 16 + c.nibble-in-loop-j.result) is_two step.0.1.0 (omega (arith, is_two, cut)) (cc) c.loop-j.invariant.bytes);
    }
