use Rattle.std.proofs.Common.{ap, ◌∙◌, arith}
use Rattle.ublock.specs.Cipher.{S_inverse, on_nibbles}
use Rattle.vectors.specs.Vectors.{vector_bytes}
use Rattle.vectors.specs.Circuits.{run64}
use Rattle.vectors.specs.Circuits.Gate.{first, second}
use Rattle.vectors.proofs.Words.{vector_bytes-zip, vector_bytes-zip_right}
use Rattle.vectors.proofs.Gates.{backward, backward_through, backward_first, backward_second}
use Rattle.vectors.proofs.circuit.unsubstitute.Goals as goal

pub returns-clause-left : goal.returns-clause-left
returns-clause-left c =
    let through = backward_through _ _ _ _ _ _ _ _ _ _ (omega arith) (omega arith) c.exchanged.ensures c.two_gates_reversed.ensures c.two_gates_reversed-2.ensures c.exchanged-2.ensures in
    ap vector_bytes through.0 ∙ vector_bytes-zip (run64 first backward) (on_nibbles S_inverse) backward_first c.args.left c.args.right (omega (arith, c.fits-left.0, c.fits-right.0))

pub returns-clause-right : goal.returns-clause-right
returns-clause-right c =
    let through = backward_through _ _ _ _ _ _ _ _ _ _ (omega arith) (omega arith) c.exchanged.ensures c.two_gates_reversed.ensures c.two_gates_reversed-2.ensures c.exchanged-2.ensures in
    ap vector_bytes through.1 ∙ vector_bytes-zip_right (run64 second backward) (on_nibbles S_inverse) backward_second c.args.left c.args.right (omega (arith, c.fits-left.0, c.fits-right.0))
