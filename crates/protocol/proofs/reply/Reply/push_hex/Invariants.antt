use Rattle.std.proofs.Common.{◌≡◌, ◌+◌, ◌*◌, ◌≤◌, ◌++◌, length, take}
use Rattle.protocol.specs.Replies.{hex_text}
use Rattle.protocol.proofs.reply.Reply.push_hex.Given as goal

abbrev pub invariant-loop-b : goal.invariant-loop-b
invariant-loop-b l = record {
  at : l.len ≡ l.initial.len + 2 * l.b-index;
  room : l.initial.len + 2 * length l.block ≤ 80;
  size : length l.self-inside.bytes ≡ 80;
  so_far : take l.len l.self-inside.bytes ≡ take l.initial.len l.initial.self-inside.bytes ++ hex_text (take l.b-index l.block);
}
