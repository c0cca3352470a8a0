use Rattle.std.proofs.Common.{ℕ, length, take, sym, ap, arith, length-take, length-set, append-nil}
use Rattle.protocol.specs.Replies.{hex_text}
use Rattle.protocol.proofs.Written.{hex_written}
use Rattle.protocol.proofs.reply.Reply.push_hex.Goals as goal

pub loop-b-init : goal.loop-b-init
unfolding hex_text
loop-b-init c = record {
  at = omega arith;
  room = omega (arith, c.requires, ap length c.self.view_is, length-take c.self.inside.len c.self.inside.bytes, c.self.invariant, c.self.told);
  size = c.self.told;
  so_far = sym (append-nil (take c.self.inside.len c.self.inside.bytes));
}

pub loop-b-preserved : goal.loop-b-preserved
loop-b-preserved c =
    let was = c.loop-b.invariant in
    record {
      at = omega (arith, was.at);
      room = was.room;
      size = omega (arith, was.size, length-set {A = ℕ});
      so_far = hex_written _ c.loop-b.self-inside.bytes c.args.block.now c.loop-b.len c.loop-b.b-index c.digit.result c.digit-in-loop-b.result
          c.loop-b-test.true (omega (arith, was.at, was.room, was.size, c.loop-b-test.true)) was.so_far c.digit.ensures c.digit-in-loop-b.ensures;
    }
