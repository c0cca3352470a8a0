use Rattle.std.proofs.Common.{◌≡◌, ◌+◌, ◌-◌, length, drop, ap, ◌∙◌, arith, rules}
use Rattle.std.proofs.lemmas.List.{take_all, length-drop}
use Rattle.plain.proofs.Permuted.{numbers_front, numbers_rest, halves_long}
use Rattle.plain.proofs.key_halves.numbers_of.Goals as goal

pub returns-in-Some-clause-front : goal.returns-in-Some-clause-front
returns-in-Some-clause-front g c =
    let halves = c.args.halves in
    let whole = g.met.H.Pieces.whole in
    let long = halves_long g.H.Half.layout _ _ g.H.Pieces.count (whole halves.first).long (whole halves.second).long g.met.H.Half.sized in
    let room : length c.split_at_mut-front.result.0.now ≡ g.H.Pieces.count + g.H.Pieces.count = search rules in
    numbers_front _ c.write_numbers.new.row c.write_numbers-in-Some.new.row _ (c.write_numbers.ensures.written room) long

pub returns-in-Some-clause-rest : goal.returns-in-Some-clause-rest
returns-in-Some-clause-rest g c =
    let halves = c.args.halves in
    let whole = g.met.H.Pieces.whole in
    let n = c.block_len-2.result in
    let row = c.args.row.now in
    let long = halves_long g.H.Half.layout _ _ g.H.Pieces.count (whole halves.first).long (whole halves.second).long g.met.H.Half.sized in
    let long_row : length row ≡ 32 = search rules in
    let room : length c.split_at_mut-front.result.0.now ≡ g.H.Pieces.count + g.H.Pieces.count = search rules in
    let past : length c.split_at_mut-front.result.1.now ≡ g.H.Pieces.count + g.H.Pieces.count = search rules in
    numbers_rest _ c.write_numbers.new.row c.write_numbers-in-Some.new.row _ (c.write_numbers.ensures.written room) long
    ∙ c.write_numbers-in-Some.ensures.written past ∙ c.in-Some.ensures.value
    ∙ take_all (32 - n) (drop n row) (omega (arith, length-drop n row, long_row)) ∙ ap (λ k. drop k row) c.block_len-2.ensures
