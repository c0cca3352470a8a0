use Rattle.std.proofs.Common.{arith}
use Rattle.words.proofs.WordFacts.{word_of_bytes}
use Rattle.words.proofs.word.Word.of.Goals as goal

pub returns : goal.returns
returns c = word_of_bytes c.args.a c.args.b c.args.c c.args.d _ (omega arith) (omega arith) (omega arith) (omega arith) (omega arith)
