use Rattle.std.proofs.Common.{◌≡◌, ◌+◌, ◌*◌, length, get_or, take, sym, ap, ◌∙◌, subst, arith, rules}
use lib.Bits.{bit_xor}
use Rattle.std.proofs.lemmas.List.{take-take}
use Rattle.ublock.specs.Cipher.{S, on_nibbles, be4, nibbles, permute, RC}
use Rattle.ublock.specs.Variants.{parameters}
use Rattle.ublock.proofs.VariantFacts.{bounded}
use Rattle.schedule.specs.Registers.{padded}
use Rattle.schedule.proofs.Nibbles.{permute-nibbles-take}
use Rattle.schedule.proofs.Padding.{get_or-padded}
use Rattle.schedule.proofs.Quarters.{Written, quarters, quarters_cut, written_none, written_more, written_all}
use Rattle.schedule.proofs.register.Register.step.Goals as goal

pub loop-j-init : goal.loop-j-init
loop-j-init c = written_none _ _

pub loop-j-preserved : goal.loop-j-preserved
loop-j-preserved c =
    let q = c.quarter_len-quarter.result in
    let j = c.loop-j.j in
    let rc = be4 (get_or RC c.args.taken 0) in
    let k0 = c.split_at.result.0.now in
    let k1 = c.split_at.result.1.now in
    let k2 = c.split_at-2.result.0.now in
    let k3 = c.split_at-2.result.1.now in
    let long1 : length k1 ≡ q = search rules in
    let long3 : length k3 ≡ q = search rules in
    let constant : get_or c.padded-constant.result j 0 ≡ get_or rc j 0 =
    ap (λ xs. get_or xs j 0) (c.padded-constant.ensures ∙ ap (λ xs. padded (take 32 xs)) (c.to_be_bytes.ensures ∙ ap be4 c.round_constant.ensures.value)) ∙ get_or-padded rc j in
    written_more q k0 k1 k2 k3 rc c.quarter_len-quarter.ensures.small c.split_at.ensures.front_len long1 c.split_at-2.ensures.front_len long3 j c.loop-j.next
    c.substitute.result c.double.result c.loop-j.invariant (omega arith)
    (c.substitute.ensures ∙ ap (λ n. on_nibbles S (bit_xor (get_or k0 j 0) n)) constant) c.double.ensures

pub returns-clause-bytes : goal.returns-clause-bytes
returns-clause-bytes c =
    let p = parameters c.args.self.variant in
    let bounds = bounded c.args.self.variant in
    let q = c.quarter_len-quarter.result in
    let rc = be4 (get_or RC c.args.taken 0) in
    let bytes = c.args.self.bytes in
    let k0 = c.split_at.result.0.now in
    let k1 = c.split_at.result.1.now in
    let k2 = c.split_at-2.result.0.now in
    let k3 = c.split_at-2.result.1.now in
    let long1 : length k1 ≡ q = search rules in
    let long3 : length k3 ≡ q = search rules in
    let done : c.loop-j.j ≡ q = omega arith in
    let written = written_all q k0 k1 k2 k3 rc c.quarter_len-quarter.ensures.small c.split_at.ensures.front_len long1 c.split_at-2.ensures.front_len long3 c.loop-j.next
    (subst (λ n. Written q n c.loop-j.next (quarters k0 k1 k2 k3 rc)) done c.loop-j.invariant) in
    let cut = quarters_cut q c.permute_front.new.front bytes k0 k1 k2 k3 rc c.split_at.ensures.front c.split_at.ensures.back c.split_at-2.ensures.front c.split_at-2.ensures.back in
    let front : permute p.PK (nibbles bytes) ≡ permute p.PK (nibbles (take (p.quarter + p.quarter) (take (p.quarter * 4) bytes))) =
    sym (ap (λ xs. permute p.PK (nibbles xs)) (take-take (p.quarter + p.quarter) (p.quarter * 4) bytes (omega arith))
    ∙ permute-nibbles-take (p.quarter + p.quarter) p.PK bytes (λ i h. omega (arith, bounds.PK_within i (omega arith)))) in
    cc
