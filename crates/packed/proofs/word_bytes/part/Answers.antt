use Rattle.std.proofs.Common.{◌≡◌, length, min, take, ap, ◌∙◌, arith}
use Rattle.std.proofs.lemmas.List.{length-take, take_min, take_at}
use Rattle.packed.proofs.word_bytes.part.Goals as goal

pub returns : goal.returns
returns c =
    let xs = c.args.run.now in
    let front = c.copy_from_slice.new.self in
    let len = c.min-len.result in
    let is : len ≡ length (take 64 xs) = omega (arith, c.min-len.ensures, length-take 64 xs) in
    let long : length front ≡ min (length xs) 64 = ap length c.copy_from_slice.ensures.after ∙ length-take len xs ∙ omega (arith, c.min-len.ensures) in
    take_at front _ (min (length xs) 64) long ∙ c.copy_from_slice.ensures.after ∙ ap (λ n. take n xs) (is ∙ length-take 64 xs) ∙ take_min 64 xs
