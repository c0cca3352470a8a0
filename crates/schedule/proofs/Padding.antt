-- Bytes at the front of a place of 32.
use Rattle.std.proofs.Common.{◌≡◌, ℕ, zero, suc, ◌+◌, ◌-◌, ◌≤◌, List, length, get_or, take, drop, replicate, sym, refl, ap, ◌∙◌, ⊎_elim, arith}
use Rattle.std.proofs.lemmas.List.{length-append, length-drop, take_all, take_at, get_or_append_left, get_or-append_right, get_or-drop, get_or_past}
use Rattle.std.proofs.lemmas.Bool.{cases_lt}
use Rattle.schedule.specs.Registers.{padded}

pub padded_whole : (xs : List ℕ) → length xs ≤ 32 → padded (take 32 xs) ≡ padded xs
padded_whole xs h = ap padded (take_all 32 xs h)

pub padded_front : (xs : List ℕ) (n : ℕ) → length xs ≡ n → take n (padded xs) ≡ xs
padded_front xs n e = take_at xs (drop (length xs) (replicate 32 0)) n e

pub length-padded : (xs : List ℕ) → length xs ≤ 32 → length (padded xs) ≡ 32
length-padded xs h = simp (length-append, length-drop) (omega arith)

zeros_at : (n i : ℕ) → get_or (replicate {A = ℕ} n 0) i 0 ≡ 0
zeros_at zero i = refl
zeros_at (suc n) zero = refl
zeros_at (suc n) (suc i) = zeros_at n i

-- zeros past the end change no place
pub get_or-padded : (xs : List ℕ) (i : ℕ) → get_or (padded xs) i 0 ≡ get_or xs i 0
get_or-padded xs i =
    ⊎_elim
    (λ lt. get_or_append_left xs (drop (length xs) (replicate 32 0)) 0 i lt)
    (λ ge. get_or-append_right xs (drop (length xs) (replicate 32 0)) (length xs) i 0 refl ge
    ∙ get_or-drop (length xs) (replicate 32 0) (i - length xs) 0 ∙ zeros_at 32 (length xs + (i - length xs)) ∙ sym (get_or_past xs i 0 ge))
    (cases_lt i (length xs))
