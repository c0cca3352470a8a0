use Rattle.std.proofs.Common.{rules}
use Rattle.layers.proofs.Passes.{finished}
use Rattle.layers.proofs.whitening.WhiteningEngine.decipher.Goals as goal

pub returns : goal.returns
returns g c =
    let engine = c.args.self.now in
    finished g.E.Engine.block_length _ g.E.Engine.lane_count engine.last.bytes engine.first.bytes (g.E.Engine.dec engine.engine) c.args.run.now _ _ _ _ _
    c.block_len-b.ensures (g.met.E.Engine.permutes engine.engine).dec_long c.add_to_blocks.ensures (search rules)
    c.finish.ensures.answer c.finish.ensures.run
