use Rattle.std.proofs.Common.{ap, ◌∙◌, arith}
use Rattle.ublock.specs.Cipher.{S, on_nibbles}
use Rattle.vectors.specs.Vectors.{vector_bytes}
use Rattle.vectors.specs.Circuits.{run64}
use Rattle.vectors.specs.Circuits.Gate.{first, second}
use Rattle.vectors.proofs.Words.{vector_bytes-zip, vector_bytes-zip_right}
use Rattle.vectors.proofs.Gates.{forward, forward_through, forward_first, forward_second}
use Rattle.vectors.proofs.circuit.substitute.Goals as goal

pub returns-clause-left : goal.returns-clause-left
returns-clause-left c =
    let through = forward_through _ _ _ _ _ _ _ _ _ _ (omega arith) (omega arith) c.exchanged.ensures c.two_gates.ensures c.two_gates-2.ensures c.exchanged-2.ensures in
    ap vector_bytes through.0 ∙ vector_bytes-zip (run64 first forward) (on_nibbles S) forward_first c.args.left c.args.right (omega (arith, c.fits-left.0, c.fits-right.0))

pub returns-clause-right : goal.returns-clause-right
returns-clause-right c =
    let through = forward_through _ _ _ _ _ _ _ _ _ _ (omega arith) (omega arith) c.exchanged.ensures c.two_gates.ensures c.two_gates-2.ensures c.exchanged-2.ensures in
    ap vector_bytes through.1 ∙ vector_bytes-zip_right (run64 second forward) (on_nibbles S) forward_second c.args.left c.args.right (omega (arith, c.fits-left.0, c.fits-right.0))
