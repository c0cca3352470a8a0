-- The worked examples of the modes hold, by those of the cipher.
use Rattle.std.proofs.Common.{◌≡◌, ℕ, zero, suc, ◌<◌, sym, ap, arith}
use Rattle.ublock.specs.Cipher.{E, D, xor, ublock128_128}
use Rattle.ublock.specs.Examples.{key, ciphertext}
use Rattle.ublock.specs.Parts.{part}
use Rattle.ublock.proofs.Examples.{examples_hold}
use Rattle.pages.specs.Examples.{PagesAsWorked, page, plaintexts, chained}

enciphered : E ublock128_128 key key ≡ ciphertext
enciphered = examples_hold.1.1.1.1.1.1.1.1.1.0

deciphered : D ublock128_128 key ciphertext ≡ key
deciphered = examples_hold.1.1.1.1.1.1.1.1.1.1.0

ecb_block : (j : ℕ) → j < 2 → part 16 j page ≡ E ublock128_128 key (part 16 j plaintexts)
ecb_block zero lt = sym enciphered
ecb_block (suc zero) lt = sym enciphered
ecb_block (suc (suc j)) lt = absurd (omega arith)

ecb_block_back : (j : ℕ) → j < 2 → part 16 j plaintexts ≡ D ublock128_128 key (part 16 j page)
ecb_block_back zero lt = sym deciphered
ecb_block_back (suc zero) lt = sym deciphered
ecb_block_back (suc (suc j)) lt = absurd (omega arith)

cbc_block : (j : ℕ) → suc j < 2 → part 16 (suc j) page ≡ E ublock128_128 key (xor (part 16 (suc j) chained) (part 16 j page))
cbc_block zero lt = sym enciphered
cbc_block (suc j) lt = absurd (omega arith)

cbc_block_back : (j : ℕ) → suc j < 2 → part 16 (suc j) chained ≡ xor (D ublock128_128 key (part 16 (suc j) page)) (part 16 j page)
cbc_block_back zero lt = sym (ap (λ x. xor x ciphertext) deciphered)
cbc_block_back (suc j) lt = absurd (omega arith)

pub pages_as_worked : PagesAsWorked
pages_as_worked = record {
  ecb = record { each = ecb_block };
  ecb_back = record { each = ecb_block_back };
  cbc = record { first = λ lt. sym enciphered; later = cbc_block };
  cbc_back = record { first = λ lt. sym (ap (λ x. xor x key) deciphered); later = cbc_block_back };
}
