use Rattle.std.proofs.Common.{◌≡◌, ◌*◌, ◌/◌, take, ap, ◌∙◌, arith}
use Rattle.ublock.specs.Cipher.{block_length}
use Rattle.words.specs.Words.{words}
use Rattle.words.proofs.Numbers.{words_front}
use Rattle.plain.proofs.key_halves.first.Goals as goal

pub returns : goal.returns
returns g c =
    let numbers = c.args.numbers.now in
    let whole : c.block_len.result / 4 * 4 ≡ block_length g.H.Half.layout = omega (arith, c.block_len.ensures, g.met.H.Half.sized) in
    (rw c.unwrap.ensures at c.from_numbers.ensures.value) ∙ words_front (c.block_len.result / 4) numbers ∙ ap (λ n. take n (words numbers)) whole
