use Rattle.std.proofs.Common.{ℕ, ◌+◌, ◌/◌, ◌%◌, ◌∷◌, [], ◌++◌, ap, sym, ◌∙◌, append_assoc, arith, decimal, length, length-append}
use Rattle.protocol.proofs.Written.{decimal_last, decimal_longer}
use Rattle.protocol.proofs.reply.Reply.+push_decimal.Goals as goal

pub push-requires-else-n-lt10 : goal.push-requires-else-n-lt10
push-requires-else-n-lt10 t c =
    omega (arith, ap length c.push_decimal.ensures, length-append {A = ℕ}, decimal_longer c.args.n c.if-n-lt10.false c.ranges.n.fits)

pub returns-else-n-lt10 : goal.returns-else-n-lt10
returns-else-n-lt10 t c =
    let n = c.args.n in
    c.push-else-n-lt10.ensures
    ∙ ap (λ z. z ++ (48 + n % 10) ∷ []) c.push_decimal.ensures
    ∙ append_assoc c.args.self.now (decimal (n / 10)) ((48 + n % 10) ∷ [])
    ∙ ap (λ z. c.args.self.now ++ z) (sym (decimal_last n c.if-n-lt10.false c.ranges.n.fits))
