-- Rounds undone one after the other.
use Rattle.std.specs.Prelude.{◌≡◌, ℕ, suc, ◌+◌, ◌-◌, ◌<◌, List}
use Rattle.std.proofs.Common.{sym, ap, ◌∙◌, arith}
use Rattle.ublock.specs.Cipher.{Layout, inverse_round, inverse_rounds}

-- one round more undone, after the last k of n
pub undone_more : (l : Layout) (rk : ℕ → List ℕ) (n k : ℕ) (x y z : List ℕ) → k < n → y ≡ inverse_round l (rk (n - 1 - k)) x
    → inverse_rounds l rk (n - k) x ≡ z → inverse_rounds l rk (n - (k + 1)) y ≡ z
undone_more l rk n k x y z h e is =
    let more : n - k ≡ suc (n - 1 - k) = omega arith in
    let left : n - (k + 1) ≡ n - 1 - k = omega arith in
    ap (λ m. inverse_rounds l rk m y) left ∙ ap (inverse_rounds l rk (n - 1 - k)) e ∙ sym (ap (λ m. inverse_rounds l rk m x) more) ∙ is
