use Rattle.std.proofs.Common.{ap, ◌∙◌, arith}
use Rattle.ublock.specs.Cipher.{xor}
use Rattle.words.specs.Words.{word}
use Rattle.words.proofs.WordFacts.{word-xor, word_rotated}
use Rattle.words.proofs.word.add_rotated.Goals as goal

pub returns : goal.returns
returns c =
    word-xor c.args.piece.number c.rotate_left.result
    ∙ ap (xor (word c.args.piece.number)) (word_rotated c.args.by c.args.other.number c.rotate_left.result (omega arith) (omega arith) c.rotate_left.ensures)
