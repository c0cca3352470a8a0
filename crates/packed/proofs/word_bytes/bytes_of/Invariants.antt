use Rattle.std.proofs.Common.{◌≡◌, ◌*◌, ◌++◌, length, take, drop, replicate}
use Rattle.vectors.specs.Vectors.{vector_bytes}
use Rattle.packed.proofs.word_bytes.bytes_of.Given as goal

-- the bytes of the words so far, and zeros after them
abbrev pub invariant-loop-k : goal.invariant-loop-k
invariant-loop-k l = (length l.bytes ≡ 64) × (l.bytes ≡ vector_bytes (take l.k l.fn.words) ++ drop (l.k * 8) (replicate 64 0))
