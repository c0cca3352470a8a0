-- What is written, digit by digit.
use Rattle.std.proofs.Common.{◌≡◌, ℕ, ◌+◌, ◌*◌, ◌/◌, ◌%◌, ◌^◌, ◌<◌, ◌≤◌, List, [], ◌∷◌, ◌++◌, length, get_or, set, take, refl, ap, append_assoc, ◌∙◌, arith, decimal, length-append}
use Rattle.std.proofs.lemmas.List.{take_more, take_more_set, length-set}
use Rattle.std.proofs.lemmas.Fmt.{decimal_step, decimal_digit, length-decimal-le}
use Rattle.protocol.specs.Replies.{hex_text, hex_digit}

pub length_hex_text : (bs : List ℕ) → length (hex_text bs) ≡ 2 * length bs
unfolding hex_text
length_hex_text [] = refl
length_hex_text (b ∷ bs) = omega (arith, length_hex_text bs)

hex_text_push : (bs : List ℕ) (b : ℕ) → hex_text (bs ++ b ∷ []) ≡ hex_text bs ++ hex_digit (b / 16) ∷ hex_digit (b % 16) ∷ []
unfolding hex_text
hex_text_push [] b = refl
hex_text_push (c ∷ bs) b = ap (λ t. hex_digit (c / 16) ∷ hex_digit (c % 16) ∷ t) (hex_text_push bs b)

-- two digits more, written one by one
pub hex_written : (start bytes bs : List ℕ) (len i d e : ℕ) → i < length bs → len + 1 < length bytes → take len bytes ≡ start ++ hex_text (take i bs)
    → d ≡ hex_digit (get_or bs i 0 / 16) → e ≡ hex_digit (get_or bs i 0 % 16)
    → take (len + 2) (set (set bytes len d) (len + 1) e) ≡ start ++ hex_text (take (i + 1) bs)
hex_written start bytes bs len i d e h room so_far one two =
    let b = get_or bs i 0 in
    let more : hex_text (take (i + 1) bs) ≡ hex_text (take i bs) ++ hex_digit (b / 16) ∷ hex_digit (b % 16) ∷ [] = ap hex_text (take_more bs i 0 h) ∙ hex_text_push (take i bs) b in
    ap (λ n. take n (set (set bytes len d) (len + 1) e)) {x = len + 2} {y = len + 1 + 1} (omega arith)
    ∙ take_more_set (set bytes len d) (len + 1) e (omega (arith, room, length-set {A = ℕ})) ∙ ap (λ t. t ++ e ∷ []) (take_more_set bytes len d (omega (arith, room)))
    ∙ rw (one, two, so_far, more) (simp append_assoc)

pub decimal_last : (n : ℕ) → 10 ≤ n → n < 2 ^ 64 → decimal n ≡ decimal (n / 10) ++ (48 + n % 10) ∷ []
decimal_last n h k = decimal_step n h k

pub decimal_one : (n : ℕ) → n < 10 → decimal n ≡ (48 + n) ∷ []
decimal_one n h = decimal_digit n h

pub decimal_longer : (n : ℕ) → 10 ≤ n → n < 2 ^ 64 → length (decimal n) ≡ length (decimal (n / 10)) + 1
decimal_longer n h k = ap length (decimal_step n h k) ∙ length-append (decimal (n / 10)) ((48 + n % 10) ∷ [])

pub ruleset more_digits = (decimal_one, decimal_longer)

pub decimal_short : (n : ℕ) → n < 2 ^ 64 → length (decimal n) ≤ 20
decimal_short n h = length-decimal-le 20 n (omega arith) (omega arith) h
