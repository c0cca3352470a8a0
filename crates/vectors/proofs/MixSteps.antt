-- The mixing and its reverse, from what each step gives.
use Rattle.std.proofs.Common.{◌≡◌, List, ℕ}
use Rattle.ublock.specs.Cipher.{xor, rotate, mixing, mixed, unmixed}
use Rattle.words.specs.Words.{halves}
use Rattle.vectors.specs.Vectors.{vector_bytes}
use Rattle.vectors.proofs.Pieces.{unrotated}

pub mixed_is : (l r l1 r1 l2 r2 l3 r3 : List ℕ)
    → vector_bytes r1 ≡ xor (vector_bytes r) (vector_bytes l) → vector_bytes l1 ≡ xor (vector_bytes l) (rotate 4 (vector_bytes r1))
    → vector_bytes r2 ≡ xor (vector_bytes r1) (rotate 8 (vector_bytes l1)) → vector_bytes l2 ≡ xor (vector_bytes l1) (rotate 8 (vector_bytes r2))
    → vector_bytes r3 ≡ xor (vector_bytes r2) (rotate 20 (vector_bytes l2)) → vector_bytes l3 ≡ xor (vector_bytes l2) (vector_bytes r3)
    → halves (vector_bytes l3) (vector_bytes r3) ≡ mixed mixing (halves (vector_bytes l) (vector_bytes r))
mixed_is l r l1 r1 l2 r2 l3 r3 a b c d e f = cc (unrotated l, unrotated r3)

pub unmixed_is : (l r l1 r1 l2 r2 l3 r3 : List ℕ)
    → vector_bytes l1 ≡ xor (vector_bytes l) (vector_bytes r) → vector_bytes r1 ≡ xor (vector_bytes r) (rotate 20 (vector_bytes l1))
    → vector_bytes l2 ≡ xor (vector_bytes l1) (rotate 8 (vector_bytes r1)) → vector_bytes r2 ≡ xor (vector_bytes r1) (rotate 8 (vector_bytes l2))
    → vector_bytes l3 ≡ xor (vector_bytes l2) (rotate 4 (vector_bytes r2)) → vector_bytes r3 ≡ xor (vector_bytes r2) (vector_bytes l3)
    → halves (vector_bytes l3) (vector_bytes r3) ≡ unmixed mixing (halves (vector_bytes l) (vector_bytes r))
unmixed_is l r l1 r1 l2 r2 l3 r3 a b c d e f = cc (unrotated r, unrotated l3)
