use Rattle.std.proofs.Common.{◌≡◌, ℕ, ◌<◌, length, get_or, rules}
use Rattle.packed.proofs.Words.{word64_of_bytes}
use Rattle.packed.proofs.word_bytes.word_of.Goals as goal

pub returns : goal.returns
returns c =
    let long : length c.args.bytes ≡ 8 = search rules in
    let small : (k : ℕ) → get_or c.args.bytes k 0 < 256 = λ k. search rules in
    word64_of_bytes c.args.bytes c.from_be_bytes.result long small c.from_be_bytes.ensures
