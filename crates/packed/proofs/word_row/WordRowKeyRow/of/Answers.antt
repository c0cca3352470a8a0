use Rattle.std.proofs.Common.{◌≡◌, length, sym, arith, rules}
use Rattle.std.proofs.lemmas.List.{drop_all}
use Rattle.packed.proofs.Words.{word_before}
use Rattle.packed.proofs.word_row.WordRowKeyRow.of.Goals as goal

pub returns : goal.returns
returns c =
    let b = c.args.row.now.bytes in
    let long : length b ≡ 32 = search rules in
    word_before b 0 _ _ c.word_at.ensures (word_before b 8 _ _ c.word_at-2.ensures (word_before b 16 _ _ c.word_at-3.ensures (word_before b 24 _ _ c.word_at-4.ensures
    (sym (drop_all 32 b (omega (arith, long)))))))
