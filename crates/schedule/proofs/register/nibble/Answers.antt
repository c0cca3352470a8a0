use Rattle.std.proofs.Common.{◌≡◌, suc, ◌*◌, ◌/◌, ◌%◌, ap, arith, rules}
use Rattle.ublock.proofs.Nibbles.{nibbles_high, nibbles_low}
use Rattle.schedule.proofs.register.nibble.Goals as goal

pub returns-then-i-eq0-clause-value : goal.returns-then-i-eq0-clause-value
returns-then-i-eq0-clause-value c =
    let e : c.args.i / 2 * 2 ≡ c.args.i = omega arith in
    rw (← e) (rw nibbles_high (ap (λ n. n / 16) (search rules)))

pub returns-else-i-eq0-clause-value : goal.returns-else-i-eq0-clause-value
returns-else-i-eq0-clause-value c =
    let e : suc (c.args.i / 2 * 2) ≡ c.args.i = omega arith in
    rw (← e) (rw nibbles_low (ap (λ n. n % 16) (search rules)))
