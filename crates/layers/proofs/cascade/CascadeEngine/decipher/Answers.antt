use Rattle.std.proofs.Common.{refl}
use Rattle.layers.proofs.Passes.{second_pass}
use Rattle.layers.proofs.cascade.CascadeEngine.decipher.Goals as goal

pub returns : goal.returns
returns g c =
    let engine = c.args.self.now in
    second_pass g.E.Engine.block_length g.E.Engine.lane_count (g.E.Engine.dec engine.outer) (g.E.Engine.dec engine.inner) c.args.run.now _ _ _ _
    (g.met.E.Engine.permutes engine.outer).dec_long c.in_ok-decipher.ensures refl c.decipher-2.ensures
