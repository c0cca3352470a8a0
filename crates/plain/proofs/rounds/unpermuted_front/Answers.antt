use Rattle.std.proofs.Common.{◌≡◌, ◌++◌, length, take, ap, ◌∙◌, rules}
use Rattle.ublock.specs.Cipher.{block_length, permute}
use Rattle.keyed.specs.Lawful.{invertible_of}
use Rattle.plain.proofs.Permuted.{unpermuted_of}
use Rattle.plain.proofs.rounds.unpermuted_front.Goals as goal

pub returns : goal.returns
returns g c =
    let l = g.H.Half.layout in
    let block = take (block_length l) c.args.row.now in
    let left = c.split_at.result.0.now in
    let right = c.split_at.result.1.now in
    let whole : left ++ right ≡ block = search rules in
    let left_long : length left ≡ l.half = search rules in
    let right_long : length right ≡ l.half = search rules in
    let first : g.H.Pieces.bytes c.unwrap.result ≡ permute l.PL_inverse left = (rw c.unwrap.ensures at c.gather.ensures.value) ∙ ap (λ places. permute places left) c.permutations-places.ensures.inverse_left in
    let second : g.H.Pieces.bytes c.unwrap-2.result ≡ permute l.PR_inverse right = (rw c.unwrap-2.ensures at c.gather-2.ensures.value) ∙ ap (λ places. permute places right) c.permutations-places.ensures.inverse_right in
    unpermuted_of l (invertible_of l g.met.H.Half.published) left right _ _ left_long right_long first second ∙ whole
