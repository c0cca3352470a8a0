use Rattle.std.proofs.Common.{◌≡◌, ◌*◌, ◌/◌, ◌≤◌, length, take, refl, arith, rules}
use Rattle.std.proofs.lemmas.Nat.{div-add-mod'}
use Rattle.modes.proofs.Rows.{previous_kept}
use Rattle.modes.proofs.sealer.Sealer.position.Goals as goal

pub returns-clause-there : goal.returns-clause-there
returns-clause-there g c =
    let b = c.block_len-b.result in
    let page = c.args.page.now in
    let n = length page / b in
    let w = take b c.args.self.now.start.bytes in
    let long : length w ≡ b = search rules in
    let room : n * b ≤ length page = omega (arith, div-add-mod' (length page) b) in
    (refl, rw c.block_len-b.ensures at (previous_kept b c.args.index n w page _ c.of-before.result.bytes long (omega arith) room c.previous_block.ensures c.of-before.ensures))
