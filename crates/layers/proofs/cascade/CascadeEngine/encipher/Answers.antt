use Rattle.std.proofs.Common.{refl}
use Rattle.layers.proofs.Passes.{second_pass}
use Rattle.layers.proofs.cascade.CascadeEngine.encipher.Goals as goal

pub returns : goal.returns
returns g c =
    let engine = c.args.self.now in
    second_pass g.E.Engine.block_length g.E.Engine.lane_count (g.E.Engine.enc engine.inner) (g.E.Engine.enc engine.outer) c.args.run.now _ _ _ _
    (g.met.E.Engine.permutes engine.inner).enc_long c.in_ok-encipher.ensures refl c.encipher-2.ensures
