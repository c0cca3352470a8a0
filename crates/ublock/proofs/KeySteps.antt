-- The key register stays a block, so every round key is one.
use Rattle.std.proofs.Common.{◌≡◌, ℕ, zero, suc, ◌+◌, ◌*◌, ◌/◌, ◌%◌, ◌<◌, List, map, length, get_or, take, drop, refl, ◌∙◌, subst, arith}
use lib.Bits.{bit_xor, bit_and}
use Rattle.std.proofs.lemmas.List.{length-take-le, length-drop, length-append}
use Rattle.ublock.specs.Cipher.{S, on_nibbles, substitute, xor, permute, nibbles, paired, double_nibbles, be4, key_step, RC, Parameters, ublock128_128, ublock128_256, ublock256_256, register, RK, block_length, key_length}
use Rattle.ublock.specs.Laws.{Bytes, Block, VariantPermutes}
use Rattle.ublock.proofs.Check.{agree, bounded}
use Rattle.ublock.proofs.Bytes.{length-xor, block-xor, block-append, block-take, block-drop, block-map, bytes-map, bytes-take, bounded-permute}
use Rattle.ublock.proofs.Nibbles.{length_picked, nibbles_small, paired_bytes}
use Rattle.ublock.proofs.TableRules.{substitution_undone, layouts_invertible}
use Rattle.ublock.proofs.Rounds.{cipher_permutes}

pub doubled : (b : ℕ) → b < 256 → bit_xor (bit_xor (bit_and (b * 2 % 256) 0xee) (bit_and (b / 8) 0x11)) (bit_and (b / 4) 0x22) ≡ double_nibbles b
doubled = agree (λ b. bit_xor (bit_xor (bit_and (b * 2 % 256) 0xee) (bit_and (b / 8) 0x11)) (bit_and (b / 4) 0x22)) double_nibbles 256 tt

double_byte : (b : ℕ) → b < 256 → double_nibbles b < 256
double_byte = bounded double_nibbles 256 256 tt

front_block : (q : ℕ) (pk k : List ℕ) → length pk ≡ q * 4 → Bytes k → Block (q + q) (paired (permute pk (nibbles (take (q + q) k))))
front_block q pk k l t =
    let ns = nibbles (take (q + q) k) in
    record {
      long = length_picked pk (take (q + q) k) (q + q) (omega arith);
      bytes = paired_bytes (permute pk ns) (bounded-permute 16 (omega arith) pk ns (nibbles_small (take (q + q) k) (bytes-take (q + q) k t)));
    }

be4_bytes : (n : ℕ) → Bytes (be4 n)
be4_bytes n = (omega arith, (omega arith, (omega arith, (omega arith, tt))))

step_block : (q rc : ℕ) (pk k : List ℕ) → length pk ≡ q * 4 → Block (q * 4) k → Block (q * 4) (key_step pk q rc k)
step_block q rc pk k l b =
    let a = paired (permute pk (nibbles (take (q + q) k))) in
    let fb = front_block q pk k l b.bytes in
    let k0 = block-take q (q + q) a (omega arith) fb in
    let k1 = block-drop q (q + q) q a refl fb in
    let back = block-drop (q + q) (q * 4) (q + q) k (omega arith) b in
    let old2 = block-take q (q + q) (drop (q + q) k) (omega arith) back in
    let old3 = block-drop q (q * 4) (q + q + q) k (omega arith) b in
    let s = block-map q (on_nibbles S) (xor (take q a) (be4 rc)) substitution_undone.S_byte (block-xor q (take q a) (be4 rc) k0 (be4_bytes rc)) in
    let k2 = block-xor q (take q (drop (q + q) k)) (substitute S (xor (take q a) (be4 rc))) old2 s.bytes in
    let k3 = block-xor q (drop (q + q + q) k) (map double_nibbles (drop q a)) old3 (bytes-map double_nibbles double_byte (drop q a) k1.bytes) in
    let e : q + (q + (q + q)) ≡ q * 4 = omega arith in
    subst (λ n. Block n (key_step pk q rc k)) e (block-append q (q + (q + q)) _ _ k2 (block-append q (q + q) _ _ k3 (block-append q q _ _ k1 k0)))

register_block : (p : Parameters) (key : List ℕ) → length p.PK ≡ p.quarter * 4 → Block (key_length p) key → (j : ℕ) → Block (key_length p) (register p key j)
register_block p key l b zero = b
register_block p key l b (suc j) = step_block p.quarter (get_or RC j 0) p.PK (register p key j) l (register_block p key l b j)

pub round_key_bytes : (p : Parameters) (key : List ℕ) → length p.PK ≡ p.quarter * 4 → Block (key_length p) key → (j : ℕ) → Bytes (RK p key j)
round_key_bytes p key l b j = bytes-take (block_length p.layout) (register p key j) (register_block p key l b j).bytes

pub variants_permute : VariantPermutes ublock128_128 × VariantPermutes ublock128_256 × VariantPermutes ublock256_256
variants_permute = (
  λ key b. cipher_permutes ublock128_128.layout layouts_invertible.0 (RK ublock128_128 key) (round_key_bytes ublock128_128 key refl b) 16,
  λ key b. cipher_permutes ublock128_256.layout layouts_invertible.0 (RK ublock128_256 key) (round_key_bytes ublock128_256 key refl b) 24,
  λ key b. cipher_permutes ublock256_256.layout layouts_invertible.1 (RK ublock256_256 key) (round_key_bytes ublock256_256 key refl b) 24,
)

-- ---- by length alone
key_step_long : (pk : List ℕ) (q rc : ℕ) (k : List ℕ) → length pk ≡ q * 4 → length k ≡ q * 4 → length (key_step pk q rc k) ≡ q * 4
key_step_long pk q rc k lp lk =
    let a = paired (permute pk (nibbles (take (q + q) k))) in
    let la = length_picked pk (take (q + q) k) (q + q) (omega arith) in
    let k0 = length-take-le q a (omega arith) in
    let k1 = length-drop q a in
    let k2 = length-xor (take q (drop (q + q) k)) (substitute S (xor (take q a) (be4 rc))) ∙ length-take-le q (drop (q + q) k) (simp length-drop (omega arith)) in
    let k3 = length-xor (drop (q + q + q) k) (map double_nibbles (drop q a)) ∙ length-drop (q + q + q) k in
    simp length-append (omega (arith, k0, k1, k2, k3))

pub register_long : (p : Parameters) (key : List ℕ) → length p.PK ≡ p.quarter * 4 → length key ≡ key_length p → (j : ℕ) → length (register p key j) ≡ key_length p
register_long p key l e zero = e
register_long p key l e (suc j) = key_step_long p.PK p.quarter (get_or RC j 0) (register p key j) l (register_long p key l e j)
