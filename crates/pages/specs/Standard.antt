-- The electronic codebook and cipher block chaining modes as NIST SP 800-38A states them, over rows of n blocks of b bytes.
-- Blocks are counted from 0 here; E is the forward cipher under the key, D its inverse.
use Rattle.std.specs.Prelude.{◌≡◌, ℕ, suc, ◌<◌, List}
use Rattle.ublock.specs.Cipher.{xor}
use Rattle.ublock.specs.Parts.{part}

-- ECB encryption: C_j = E(P_j)
pub record EcbEncrypted (E : List ℕ → List ℕ) (b n : ℕ) (P C : List ℕ) : Type 0 where
  pub each : (j : ℕ) → j < n → part b j C ≡ E (part b j P)

-- ECB decryption: P_j = D(C_j)
pub record EcbDecrypted (D : List ℕ → List ℕ) (b n : ℕ) (C P : List ℕ) : Type 0 where
  pub each : (j : ℕ) → j < n → part b j P ≡ D (part b j C)

-- CBC encryption: the first block is E(P_0 ⊕ IV), each later one C_j = E(P_j ⊕ C_(j-1))
pub record CbcEncrypted (E : List ℕ → List ℕ) (b n : ℕ) (IV P C : List ℕ) : Type 0 where
  pub first : 0 < n → part b 0 C ≡ E (xor (part b 0 P) IV)
  pub later : (j : ℕ) → suc j < n → part b (suc j) C ≡ E (xor (part b (suc j) P) (part b j C))

-- CBC decryption: the first block is D(C_0) ⊕ IV, each later one P_j = D(C_j) ⊕ C_(j-1)
pub record CbcDecrypted (D : List ℕ → List ℕ) (b n : ℕ) (IV C P : List ℕ) : Type 0 where
  pub first : 0 < n → part b 0 P ≡ xor (D (part b 0 C)) IV
  pub later : (j : ℕ) → suc j < n → part b (suc j) P ≡ xor (D (part b (suc j) C)) (part b j C)
