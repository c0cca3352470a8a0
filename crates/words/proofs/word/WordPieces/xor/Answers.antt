use Rattle.words.proofs.WordFacts.{word-xor}
use Rattle.words.proofs.word.WordPieces.xor.Goals as goal

pub returns : goal.returns
returns c = word-xor c.args.self.number c.args.other.number
