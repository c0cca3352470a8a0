-- A test at each number below a bound, which the checker computes.
use Rattle.std.proofs.Common.{◌≡◌, ℕ, zero, suc, ◌<◌, Bool, true, false, ◌&&◌, T, eqb, ltb, sym, subst, ⊎_elim, arith, eqb→eq, ltb→lt}
use Rattle.std.proofs.lemmas.Bool.{cases_eq}

pub both : (a b : Bool) → T (a && b) → T a × T b
both true b t = (tt, t)
both false b t = absurd t

abbrev pub all : (ℕ → Bool) → ℕ → Bool
all p zero = true
all p (suc n) = p n && all p n

pub all_at : (p : ℕ → Bool) (n : ℕ) → T (all p n) → (k : ℕ) → k < n → T (p k)
all_at p zero t k h = absurd (omega arith)
all_at p (suc n) t k h =
    let ts = both (p n) (all p n) t in
    ⊎_elim (λ e. subst (λ m. T (p m)) (sym e) ts.0) (λ ne. all_at p n ts.1 k (omega arith)) (cases_eq k n)

-- two functions that agree below n
pub agree : (f g : ℕ → ℕ) (n : ℕ) → T (all (λ k. eqb (f k) (g k)) n) → (k : ℕ) → k < n → f k ≡ g k
agree f g n t k h = eqb→eq (f k) (g k) (all_at (λ k. eqb (f k) (g k)) n t k h)

-- a function that stays below m at every number below n
pub bounded : (f : ℕ → ℕ) (m n : ℕ) → T (all (λ k. ltb (f k) m) n) → (k : ℕ) → k < n → f k < m
bounded f m n t k h = ltb→lt (f k) m (all_at (λ k. ltb (f k) m) n t k h)
