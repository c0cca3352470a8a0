use Rattle.std.proofs.Common.{◌<◌, length, sym, subst, arith}
use Rattle.std.proofs.lemmas.Simd.{Each1-replicate}
use Rattle.ublock.specs.Laws.{Bytes}
use Rattle.ublock.proofs.Bytes.{bytes-append, bytes-drop, bytes_from}
use Rattle.modes.proofs.Rows.{byte_at}
use Rattle.modes.proofs.kept_block.KeptBlock.of.Goals as goal

pub invariant_of-result : goal.invariant_of-result
invariant_of-result c =
    let n = length c.args.block.now in
    let front = subst Bytes (sym c.copy_from_slice.ensures.after) (bytes_from c.args.block.now (λ k. omega (arith, c.type_inv.block k))) in
    let rest = bytes-drop n c.zeros-bytes.result (subst Bytes (sym c.zeros-bytes.ensures) (Each1-replicate (λ z. z < 256) 32 0 (omega arith))) in
    record { of_bytes = byte_at _ (bytes-append _ _ front rest) }
