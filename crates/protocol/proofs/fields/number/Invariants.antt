use Rattle.std.proofs.Common.{◌≡◌, ◌^◌, ◌<◌, drop}
use Rattle.protocol.specs.Fields.{read_on}
use Rattle.protocol.proofs.fields.number.Given as goal

abbrev pub invariant-loop-c : goal.invariant-loop-c
invariant-loop-c l = record {
  so_far : read_on l.n (drop l.c-index l.field) ≡ read_on 0 l.field;
  small : l.n < 10 ^ l.c-index;
}
