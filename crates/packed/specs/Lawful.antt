-- The packed engine keeps the laws of an engine. This lemma stands here since a law that an impl proves may cite no file of its
-- crate but those of specs/.
use Rattle.std.specs.Prelude.{◌≡◌, ℕ, ◌*◌}
use Rattle.std.proofs.Common.{ap, inl, inr, ⊎_elim, arith}
use Rattle.ublock.specs.Cipher.{Layout, block_length}
use Rattle.cipher.specs.Engines.{Shape}
use Rattle.halves.specs.Halves.{IsUblockLayout}

-- with as many lanes as halves fill a vector
pub lanes_shape : (l : Layout) (n : ℕ) → IsUblockLayout l → n * l.half ≡ 32 → Shape (block_length l) n
lanes_shape l n p e = record {
  length_of_block = ⊎_elim (λ q. inl (ap block_length q)) (λ q. inr (ap block_length q)) p;
  one_lane = ⊎_elim (λ q. let h = ap (λ (k : Layout). n * k.half) q in omega arith) (λ q. let h = ap (λ (k : Layout). n * k.half) q in omega arith) p;
  eight_lanes = ⊎_elim (λ q. let h = ap (λ (k : Layout). n * k.half) q in omega arith) (λ q. let h = ap (λ (k : Layout). n * k.half) q in omega arith) p;
}
