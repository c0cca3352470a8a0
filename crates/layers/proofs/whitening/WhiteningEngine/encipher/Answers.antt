use Rattle.std.proofs.Common.{rules}
use Rattle.layers.proofs.Passes.{finished}
use Rattle.layers.proofs.whitening.WhiteningEngine.encipher.Goals as goal

pub returns : goal.returns
returns g c =
    let engine = c.args.self.now in
    finished g.E.Engine.block_length _ g.E.Engine.lane_count engine.first.bytes engine.last.bytes (g.E.Engine.enc engine.engine) c.args.run.now _ _ _ _ _
    c.block_len-b.ensures (g.met.E.Engine.permutes engine.engine).enc_long c.add_to_blocks.ensures (search rules)
    c.finish.ensures.answer c.finish.ensures.run
