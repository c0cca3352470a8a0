use Rattle.std.proofs.Common.{take, sym, arith}
use Rattle.ublock.specs.Cipher.{xor}
use Rattle.layers.proofs.Blocks.{each_none, each_turn}
use Rattle.layers.proofs.Sums.{keeps_added}
use Rattle.layers.proofs.fixed.FixedValue.add_to_blocks.Goals as goal

pub loop-i-init : goal.loop-i-init
loop-i-init c = sym (each_none c.args.b _ c.args.run.now)

pub loop-i-preserved : goal.loop-i-preserved
loop-i-preserved c =
    let b = c.args.b in
    let value = c.args.self.now.bytes in
    each_turn b _ (λ x. xor x (take b value)) (keeps_added b value) c.loop-i.i c.args.run.now c.loop-i.run c.add.new.row
    (omega arith) c.loop-i-test.true c.loop-i.invariant c.add.ensures
