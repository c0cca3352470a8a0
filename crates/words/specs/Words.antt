-- Bytes in pieces of four.
use Rattle.std.specs.Prelude.{◌≡◌, ℕ, ◌+◌, ◌*◌, List, [], ◌∷◌, ◌++◌}
use Rattle.std.proofs.Common.{subst, arith}
use Rattle.ublock.specs.Cipher.{be4, Halves}
use Rattle.ublock.specs.Laws.{Block}
use Rattle.ublock.proofs.Bytes.{block-append}

-- the four bytes of a 32-bit number, the highest first
unfoldable pub word : ℕ → List ℕ
word n = be4 n

-- the bytes of 32-bit numbers
abbrev pub words : List ℕ → List ℕ
words [] = []
words (n ∷ ns) = word n ++ words ns

abbrev pub halves : List ℕ → List ℕ → Halves
halves l r = record { left = l; right = r }

-- n pieces beside n pieces. The lemma stands here since the proof of a law may cite no file of its crate but those of specs/.
pub block_beside : (n : ℕ) (xs ys : List ℕ) → Block (n * 4) xs → Block (n * 4) ys → Block ((n + n) * 4) (xs ++ ys)
block_beside n xs ys b c =
    let e : n * 4 + n * 4 ≡ (n + n) * 4 = omega arith in
    subst (λ m. Block m (xs ++ ys)) e (block-append (n * 4) (n * 4) xs ys b c)
