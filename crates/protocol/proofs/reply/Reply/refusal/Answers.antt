use Rattle.std.proofs.Common.{ℕ, ap, arith, length, length-append}
use Rattle.protocol.proofs.Written.{decimal_short}
use Rattle.protocol.proofs.reply.Reply.refusal.Goals as goal

pub push_all-requires-2 : goal.push_all-requires-2
push_all-requires-2 c =
    omega (arith, ap length c.nothing-reply.ensures, ap length c.push_all.ensures, ap length c.push_decimal.ensures, ap length c.push.ensures, decimal_short c.args.line c.ranges.line.fits, length-append {A = ℕ})

pub push-requires-2 : goal.push-requires-2
push-requires-2 c =
    omega (arith, ap length c.nothing-reply.ensures, ap length c.push_all.ensures, ap length c.push_decimal.ensures, ap length c.push.ensures, ap length c.push_all-2.ensures, decimal_short c.args.line c.ranges.line.fits, length-append {A = ℕ})

pub push_decimal-requires-2 : goal.push_decimal-requires-2
push_decimal-requires-2 c =
    omega (arith, ap length c.nothing-reply.ensures, ap length c.push_all.ensures, ap length c.push_decimal.ensures, ap length c.push.ensures, ap length c.push_all-2.ensures, ap length c.push-2.ensures, decimal_short c.args.line c.ranges.line.fits, length-append {A = ℕ}, decimal_short c.from.result c.from.type_inv)

pub push-requires-3 : goal.push-requires-3
push-requires-3 c =
    omega (arith, ap length c.nothing-reply.ensures, ap length c.push_all.ensures, ap length c.push_decimal.ensures, ap length c.push.ensures, ap length c.push_all-2.ensures, ap length c.push-2.ensures, ap length c.push_decimal-2.ensures, decimal_short c.args.line c.ranges.line.fits, length-append {A = ℕ}, decimal_short c.from.result c.from.type_inv)
