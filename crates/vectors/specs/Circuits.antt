-- Circuits of shifts and masks on two words, as data: the steps that S takes on two vectors at once.
use Rattle.std.specs.Prelude.{◌≡◌, ℕ, ◌*◌, ◌/◌, ◌%◌, ◌^◌, List, [], ◌∷◌, bit_and, bit_or, bit_xor}
use Rattle.std.specs.Simd.Lanes.{zip2}

pub data Operation : Type 0 where
  and : Operation
  or : Operation
  xor : Operation

-- the one number or the other; the mask b in each nibble; what a gate gives, shifted up or down by k bits, under the mask b in
-- each nibble; an operation on what two gates give
pub data Gate : Type 0 where
  first : Gate
  second : Gate
  mask : ℕ → Gate
  up : ℕ → ℕ → Gate → Gate
  down : ℕ → ℕ → Gate → Gate
  on_both : Operation → Gate → Gate → Gate

-- what takes the place of either number
pub data Step : Type 0 where
  step : Gate → Gate → Step

abbrev pub apply : Operation → ℕ → ℕ → ℕ
apply and a b = bit_and a b
apply or a b = bit_or a b
apply xor a b = bit_xor a b

-- at numbers of so many bits, where `ones` has a 1 in each nibble
module _ (bits ones : ℕ) where
  abbrev pub value : Gate → ℕ → ℕ → ℕ
  value first u v = u
  value second u v = v
  value (mask b) u v = ones * b
  value (up k b g) u v = bit_and (value g u v * 2 ^ k % 2 ^ bits) (ones * b)
  value (down k b g) u v = bit_and (value g u v / 2 ^ k) (ones * b)
  value (on_both f g h) u v = apply f (value g u v) (value h u v)

  -- the one number or the other after the steps
  abbrev pub run : Gate → List Step → ℕ → ℕ → ℕ
  run out [] u v = value out u v
  run out (step g h ∷ ss) u v = run out ss (value g u v) (value h u v)

-- a circuit on the words of two vectors
abbrev pub run64 : Gate → List Step → ℕ → ℕ → ℕ
run64 = run 64 0x1111111111111111

-- two vectors, of the words after the steps
abbrev pub Through : List Step → List ℕ → List ℕ → List ℕ → List ℕ → Type 0
Through ss us vs us' vs' = (us' ≡ zip2 (run64 first ss) us vs) × (vs' ≡ zip2 (run64 second ss) us vs)

-- the upper two bits of the one number's nibbles change places with the lower two of the other's
abbrev moved : Gate
moved = on_both xor (down 2 3 first) (on_both and second (mask 3))

abbrev pub exchange : List Step
exchange = step (on_both xor first (up 2 12 moved)) (on_both xor second moved) ∷ []

-- the even bits of the one take not (both bits of the other)
abbrev even_bits : Step
even_bits = step (on_both xor first (on_both xor (on_both and second (down 1 5 second)) (mask 5))) second

-- the odd bits of the other take its even bits or the odd ones of the one
abbrev odd_bits : Step
odd_bits = step first (on_both xor second (on_both or (on_both and first (mask 10)) (up 1 10 second)))

abbrev pub two_gates : List Step
two_gates = even_bits ∷ odd_bits ∷ []

abbrev pub two_gates_reversed : List Step
two_gates_reversed = odd_bits ∷ even_bits ∷ []
