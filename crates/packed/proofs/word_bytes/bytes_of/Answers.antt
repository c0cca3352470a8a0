use Rattle.std.proofs.Common.{◌≡◌, ◌+◌, ◌-◌, ◌*◌, ◌++◌, length, drop, replicate, take, get_or, ap, ◌∙◌, arith, rules}
use Rattle.std.proofs.lemmas.List.{append-nil, take_all}
use Rattle.vectors.specs.Vectors.{vector_bytes}
use Rattle.packed.proofs.Words.{word_written, length_written, word64_bytes}
use Rattle.packed.proofs.word_bytes.bytes_of.Goals as goal

pub loop-k-preserved : goal.loop-k-preserved
loop-k-preserved c =
    let words = c.args.words.now in
    let k = c.loop-k.k in
    let long : length words ≡ 8 = search rules in
    let word = c.copy_from_slice.ensures.after ∙ c.to_be_bytes.ensures ∙ word64_bytes (get_or words k 0) in
    let next = word_written words (replicate 64 0) c.loop-k.bytes _ k (k * 8 + 8 - k * 8) (omega (arith, long)) (omega arith) c.loop-k.invariant.1 word in
    (length_written words (replicate 64 0) _ (k + 1) (omega (arith, long)) (omega arith) next, next)

pub returns : goal.returns
returns c =
    let words = c.args.words.now in
    let all : c.loop-k.k ≡ 8 = omega arith in
    let long : length words ≡ 8 = search rules in
    c.loop-k.invariant.1 ∙ ap (λ n. vector_bytes (take n words) ++ drop (n * 8) (replicate 64 0)) all ∙ append-nil (vector_bytes (take 8 words)) ∙ ap vector_bytes (take_all 8 words (omega (arith, long)))
