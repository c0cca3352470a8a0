-- The bytes of a word.
use Rattle.std.specs.Prelude.{ℕ, List, refl}
use Rattle.std.proofs.Common.{arith}
use Rattle.ublock.specs.Laws.{Block}
use Rattle.words.specs.Words.{word}
use Rattle.words.specs.declared.word.Word.{Word}

abbrev pub word_bytes : Word → List ℕ
word_bytes w = word w.number

-- The lemma stands here since the proof of a law may cite no file of its crate but those of specs/.
pub word_block : (w : Word) → Block 4 (word_bytes w)
unfolding word
word_block w = record { long = refl; bytes = (omega arith, (omega arith, (omega arith, (omega arith, tt)))) }
