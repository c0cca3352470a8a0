use Rattle.ublock.specs.Cipher.{block_length}
use Rattle.engines.proofs.Same.{one_permutation}
use Rattle.engines.proofs.fill_both.Goals as goal

pub returns-clause-one_permutation : goal.returns-clause-one_permutation
returns-clause-one_permutation g c =
    let plain = c.in_ok-fill.ensures.cipher in
    one_permutation (block_length g.H.Half.layout) c.args.variant c.args.key.now _ _ _ _ plain.number plain.cipher c.in_ok-fill-2.ensures.cipher.cipher
