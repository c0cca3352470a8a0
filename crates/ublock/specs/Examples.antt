-- Worked examples: what the definitions give, beside what is published.
use Rattle.std.specs.Prelude.{◌≡◌, ℕ, List, [], ◌∷◌, ◌++◌, replicate, slice_index, Some, None, Option}
use Rattle.std.specs.Simd.Lanes.{Each1}
use Rattle.std.specs.List.{range_with_len}
use Rattle.ublock.specs.Cipher.{S, rotate, permute, be4, nibbles, PK1, RC, RK, E, D, rounds, ublock128_128, layout128, double}
use Rattle.ublock.specs.Variants.{parameters, numbered}
use Rattle.ublock.specs.declared.variant.Variant.{Variant}

pub record Example : Type 0 where
  pub computed : List ℕ
  pub published : List ℕ

-- key and plaintext of the first published example
abbrev pub key : List ℕ
key = 0x01 ∷ 0x23 ∷ 0x45 ∷ 0x67 ∷ 0x89 ∷ 0xab ∷ 0xcd ∷ 0xef ∷ 0xfe ∷ 0xdc ∷ 0xba ∷ 0x98 ∷ 0x76 ∷ 0x54 ∷ 0x32 ∷ 0x10 ∷ []

abbrev pub ciphertext : List ℕ
ciphertext = 0x32 ∷ 0x12 ∷ 0x2b ∷ 0xed ∷ 0xd0 ∷ 0x23 ∷ 0xc4 ∷ 0x29 ∷ 0x02 ∷ 0x34 ∷ 0x70 ∷ 0xe1 ∷ 0x15 ∷ 0x8c ∷ 0x14 ∷ 0x7d ∷ []

-- of the other two variants: the key goes on from that with the bytes 0 to 15, and so does a plaintext of 256 bits
abbrev pub long_key : List ℕ
long_key = key ++ range_with_len 0 16

abbrev pub ciphertext_2 : List ℕ
ciphertext_2 = 0x64 ∷ 0xac ∷ 0xcd ∷ 0x6e ∷ 0x34 ∷ 0xca ∷ 0xc8 ∷ 0x4d ∷ 0x38 ∷ 0x4c ∷ 0xd4 ∷ 0xba ∷ 0x7a ∷ 0xea ∷ 0xdd ∷ 0x19 ∷ []

abbrev pub ciphertext_3 : List ℕ
ciphertext_3 =
    0xd8 ∷ 0xe9 ∷ 0x35 ∷ 0x1c ∷ 0x5f ∷ 0x4d ∷ 0x27 ∷ 0xea ∷ 0x84 ∷ 0x21 ∷ 0x35 ∷ 0xca ∷ 0x16 ∷ 0x40 ∷ 0xad ∷ 0x4b
    ∷ 0x0c ∷ 0xe1 ∷ 0x19 ∷ 0xbc ∷ 0x25 ∷ 0xc0 ∷ 0x3e ∷ 0x7c ∷ 0x32 ∷ 0x9e ∷ 0xa8 ∷ 0xfe ∷ 0x93 ∷ 0xe7 ∷ 0xbd ∷ 0xfe ∷ []

abbrev pub RK_1 : List ℕ
RK_1 = 0xa1 ∷ 0xa8 ∷ 0x87 ∷ 0x60 ∷ 0xf7 ∷ 0xe0 ∷ 0x64 ∷ 0xff ∷ 0x49 ∷ 0xc2 ∷ 0xb3 ∷ 0x7e ∷ 0x60 ∷ 0x8d ∷ 0x1f ∷ 0x5a ∷ []

-- a block enciphered by the variant of a number; empty where no variant has the number
abbrev pub enciphered_by : Option Variant → List ℕ → List ℕ → List ℕ
enciphered_by None k x = []
enciphered_by (Some v) k x = E (parameters v) k x

abbrev pub enciphered : ℕ → List ℕ → List ℕ → List ℕ
enciphered number = enciphered_by (numbered number)

abbrev pub examples : List Example
examples =
    record { computed = slice_index S 0 ∷ []; published = 7 ∷ [] }
    ∷ record { computed = double 0x9 ∷ []; published = 0x1 ∷ [] }
    ∷ record { computed = double 0xe ∷ []; published = 0xf ∷ [] }
    ∷ record { computed = rotate 20 (0x01 ∷ 0x23 ∷ 0x45 ∷ 0x67 ∷ []); published = 0x56 ∷ 0x70 ∷ 0x12 ∷ 0x34 ∷ [] }
    ∷ record { computed = be4 (slice_index RC 0); published = 0x98 ∷ 0x8c ∷ 0xc9 ∷ 0xdd ∷ [] }
    ∷ record { computed = be4 (slice_index RC 23); published = 0x1f ∷ 0x0b ∷ 0x4e ∷ 0x5a ∷ [] }
    ∷ record { computed = permute PK1 (range_with_len 0 16); published = 0x6 ∷ 0x0 ∷ 0x8 ∷ 0xd ∷ 0x1 ∷ 0xf ∷ 0x5 ∷ 0xa ∷ 0x4 ∷ 0x9 ∷ 0xc ∷ 0x2 ∷ 0xb ∷ 0x3 ∷ 0x7 ∷ 0xe ∷ [] }
    ∷ record { computed = RK ublock128_128 key 1; published = RK_1 }
    ∷ record { computed = nibbles (rounds layout128 (RK ublock128_128 key) 1 key); published = replicate 32 7 }
    ∷ record { computed = enciphered 1 key key; published = ciphertext }
    ∷ record { computed = D ublock128_128 key ciphertext; published = key }
    ∷ record { computed = enciphered 2 long_key key; published = ciphertext_2 }
    ∷ record { computed = enciphered 3 long_key long_key; published = ciphertext_3 }
    ∷ []

abbrev pub ExamplesHold : Type 0
ExamplesHold = Each1 (λ (e : Example). e.computed ≡ e.published) examples
