use Rattle.std.proofs.Common.{◌≡◌, ◌++◌, take}
use Rattle.protocol.proofs.reply.Reply.push_all.Given as goal

abbrev pub invariant-loop-b : goal.invariant-loop-b
invariant-loop-b l = l.self ≡ l.initial.self ++ take l.b-index l.text
