-- Digits, read one after the other.
use Rattle.std.proofs.Common.{◌≡◌, ℕ, zero, suc, ◌+◌, ◌-◌, ◌*◌, ◌^◌, ◌<◌, ◌≤◌, List, [], ◌∷◌, ◌++◌, length, get_or, take, drop, set, Option, Some, None, option_map, refl, ap, arith, add-one, drop-cons, append_assoc}
use Rattle.std.proofs.lemmas.List.{append-nil, drop_all, take_more_set}
use Rattle.protocol.proofs.Texts.{past}
use Rattle.protocol.specs.Fields.{read_on, digit_of, bytes_of, hex_digit_of, ◌>>=◌}

-- ---- decimal digits
pub read_on_next : (cs : List ℕ) (n i : ℕ) → i < length cs → read_on n (drop i cs) ≡ (digit_of (get_or cs i 0) >>= λ d. read_on (10 * n + d) (drop (i + 1) cs))
unfolding read_on
read_on_next cs n i h = rw (add-one, drop-cons cs i 0)

pub read_on_end : (cs : List ℕ) (n i : ℕ) → length cs ≤ i → read_on n (drop i cs) ≡ Some n
unfolding read_on
read_on_end cs n i h = rw (drop_all i cs h)

-- a number of i digits with one more, where there are five at most
pub small_step : (n i d : ℕ) → i < 5 → n < 10 ^ i → d < 10 → (10 * n + d < 10 ^ (i + 1)) × (10 * n + d < 100000)
small_step n zero d h m s = (omega arith, omega arith)
small_step n (suc zero) d h m s = (omega arith, omega arith)
small_step n (suc (suc zero)) d h m s = (omega arith, omega arith)
small_step n (suc (suc (suc zero))) d h m s = (omega arith, omega arith)
small_step n (suc (suc (suc (suc zero)))) d h m s = (omega arith, omega arith)
small_step n (suc (suc (suc (suc (suc i))))) d h m s = absurd (omega arith)

pub ruleset decimal_digits = (read_on_next, read_on_end, small_step)

-- ---- pairs of hex digits: what the rest says, after the bytes so far
abbrev pub after_bytes : List ℕ → Option (List ℕ) → Option (List ℕ)
after_bytes front more = option_map (λ bytes. front ++ bytes) more

by_map : (b : ℕ) (more : Option (List ℕ)) → (more >>= λ bytes. Some (b ∷ bytes)) ≡ after_bytes (b ∷ []) more
by_map b None = refl
by_map b (Some bytes) = refl

twice : (front : List ℕ) (b : ℕ) (more : Option (List ℕ)) → after_bytes (front ++ b ∷ []) more ≡ after_bytes front (after_bytes (b ∷ []) more)
twice front b None = refl
twice front b (Some bytes) = ap Some (append_assoc front (b ∷ []) bytes)

bytes_next : (rest : List ℕ) (high low : ℕ) → 2 ≤ length rest → hex_digit_of (get_or rest 0 0) ≡ Some high → hex_digit_of (get_or rest 1 0) ≡ Some low
    → bytes_of rest ≡ after_bytes ((16 * high + low) ∷ []) (bytes_of (drop 2 rest))
unfolding bytes_of
bytes_next [] high low h p q = absurd (omega arith)
bytes_next (c ∷ []) high low h p q = absurd (omega arith)
bytes_next (c ∷ d ∷ cs) high low h p q = rw (p, q) (by_map (16 * high + low) (bytes_of cs))

pub bytes_bad_high : (rest : List ℕ) → 2 ≤ length rest → hex_digit_of (get_or rest 0 0) ≡ None → bytes_of rest ≡ None
unfolding bytes_of
bytes_bad_high [] h p = absurd (omega arith)
bytes_bad_high (c ∷ []) h p = absurd (omega arith)
bytes_bad_high (c ∷ d ∷ cs) h p = rw p

pub bytes_bad_low : (rest : List ℕ) (high : ℕ) → 2 ≤ length rest → hex_digit_of (get_or rest 0 0) ≡ Some high → hex_digit_of (get_or rest 1 0) ≡ None → bytes_of rest ≡ None
unfolding bytes_of
bytes_bad_low [] high h p q = absurd (omega arith)
bytes_bad_low (c ∷ []) high h p q = absurd (omega arith)
bytes_bad_low (c ∷ d ∷ cs) high h p q = rw (p, q)

bytes_end : (rest : List ℕ) → length rest ≡ 0 → bytes_of rest ≡ Some []
unfolding bytes_of
bytes_end [] h = refl
bytes_end (c ∷ cs) h = absurd (omega arith)

pub bytes_odd : (rest : List ℕ) → length rest ≡ 1 → bytes_of rest ≡ None
unfolding bytes_of
bytes_odd [] h = absurd (omega arith)
bytes_odd (c ∷ []) h = refl
bytes_odd (c ∷ d ∷ cs) h = absurd (omega arith)

-- one byte more
pub bytes_more : (bytes rest : List ℕ) (len high low : ℕ) → len < length bytes → 2 ≤ length rest
    → hex_digit_of (get_or rest 0 0) ≡ Some high → hex_digit_of (get_or rest 1 0) ≡ Some low
    → after_bytes (take (len + 1) (set bytes len (16 * high + low))) (bytes_of (take (length rest - 2) (drop 2 rest))) ≡ after_bytes (take len bytes) (bytes_of rest)
bytes_more bytes rest len high low h k p q =
    let b = 16 * high + low in
    rw (bytes_next rest high low k p q, past 2 rest, take_more_set bytes len b h) (twice (take len bytes) b (bytes_of (drop 2 rest)))

pub bytes_whole : (front rest : List ℕ) → length rest ≡ 0 → after_bytes front (bytes_of rest) ≡ Some front
bytes_whole front rest h = rw (bytes_end rest h, append-nil front)

pub ruleset hex_digits = (bytes_more, bytes_bad_high, bytes_bad_low, bytes_whole, bytes_odd)
