-- The bytes written stand after those that were kept.
use Rattle.std.proofs.Common.{◌≡◌, ℕ, ◌+◌, ◌-◌, ◌≤◌, min, List, ◌++◌, length, take, sym, ap, ◌∙◌, arith, rules}
use Rattle.std.proofs.Math.Seq.{take-append-add}
use Rattle.std.proofs.lemmas.List.{length-take-le, take_min}
use Rattle.std.proofs.lemmas.Slice.{take-put_mid}
use borrow.Rule.Slice.PartMut.{put_mid}
use Rattle.lines.proofs.buffer.keep.Goals as goal

written : (k n m : ℕ) (buffer new bytes : List ℕ) → k ≤ length buffer → n ≡ min (length buffer - k) (length bytes) → length new ≡ n → new ≡ take n bytes
    → take (k + n) (put_mid k m buffer new) ≡ take (length buffer) (take k buffer ++ bytes)
written k n m buffer new bytes h is long copied =
    let front = take k buffer in
    let room = length buffer - k in
    let all : length buffer ≡ length front + room = omega (arith, length-take-le k buffer h) in
    take-put_mid k m buffer new (k + n) (omega arith) h
    ∙ ap (λ t. front ++ t) (copied ∙ ap (λ j. take j bytes) is ∙ take_min room bytes)
    ∙ sym (take-append-add front bytes room) ∙ ap (λ j. take j (front ++ bytes)) (sym all)

pub returns-clause-bytes : goal.returns-clause-bytes
returns-clause-bytes c =
    written c.args.kept c.min-n.result _ c.args.buffer.now c.copy_from_slice.new.self c.args.bytes.now c.requires c.min-n.ensures (search rules) (c.copy_from_slice.ensures.after)
