use Rattle.std.proofs.Common.{◌≡◌, ◌+◌, ◌*◌, ◌≤◌, length, take}
use Rattle.protocol.specs.Fields.{bytes_of}
use Rattle.protocol.proofs.Digits.{after_bytes}
use Rattle.protocol.proofs.byte_field.byte_field.Given as goal

abbrev pub invariant-loop-rest : goal.invariant-loop-rest
invariant-loop-rest l = record {
  room : 2 * l.len + length l.rest ≤ 200;
  size : length l.bytes ≡ 100;
  so_far : after_bytes (take l.len l.bytes) (bytes_of l.rest) ≡ bytes_of l.digits;
}

abbrev pub decreases-loop-rest : goal.decreases-loop-rest
decreases-loop-rest l = length l.rest
