use Rattle.std.proofs.Common.{◌≡◌, length, take, ap, ◌∙◌, arith}
use Rattle.std.proofs.lemmas.List.{length-take, take_min}
use Rattle.schedule.proofs.register.padded.Goals as goal

pub returns : goal.returns
returns c =
    let xs = c.args.bytes.now in
    let len = c.min-len.result in
    let is : len ≡ length (take 32 xs) = omega (arith, c.min-len.ensures, length-take 32 xs) in
    let front : take len xs ≡ take 32 xs = ap (λ n. take n xs) (is ∙ length-take 32 xs) ∙ take_min 32 xs in
    cc (c.copy_from_slice.ensures.after, front, is)
