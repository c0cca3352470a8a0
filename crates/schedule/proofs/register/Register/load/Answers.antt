use Rattle.std.proofs.Common.{◌≡◌, length, refl, ◌∙◌, arith}
use Rattle.ublock.specs.Cipher.{key_length}
use Rattle.ublock.specs.Variants.{parameters}
use Rattle.schedule.proofs.Padding.{padded_whole}
use Rattle.ublock.proofs.VariantFacts.{bounded}
use Rattle.schedule.proofs.register.Register.load.Goals as goal

pub returns : goal.returns
returns c =
    let e : length c.args.key.now ≡ key_length (parameters c.args.variant) = omega arith in
    (e, refl, c.padded.ensures ∙ padded_whole c.args.key.now (omega (arith, (bounded c.args.variant).key_fits)))
