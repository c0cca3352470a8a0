-- A worked example of each mode, from the first published example of uBlock: there the plaintext is the key, and E takes it to
-- the ciphertext.
use Rattle.std.specs.Prelude.{ℕ, List, ◌++◌, replicate}
use Rattle.ublock.specs.Cipher.{E, D, xor, ublock128_128}
use Rattle.ublock.specs.Examples.{key, ciphertext}
use Rattle.pages.specs.Standard.{EcbEncrypted, EcbDecrypted, CbcEncrypted, CbcDecrypted}

-- a page of two blocks alike
abbrev pub page : List ℕ
page = ciphertext ++ ciphertext

-- its readings in ECB
abbrev pub plaintexts : List ℕ
plaintexts = key ++ key

-- and in CBC, with the plaintext as start block: zeros, and what the ciphertext before turns into the plaintext
abbrev pub chained : List ℕ
chained = replicate 16 0 ++ xor ciphertext key

pub record PagesAsWorked : Type 0 where
  pub ecb : EcbEncrypted (E ublock128_128 key) 16 2 plaintexts page
  pub ecb_back : EcbDecrypted (D ublock128_128 key) 16 2 page plaintexts
  pub cbc : CbcEncrypted (E ublock128_128 key) 16 2 key chained page
  pub cbc_back : CbcDecrypted (D ublock128_128 key) 16 2 key page chained
