-- The plain engine keeps the laws of an engine. These lemmas stand here since a law that an impl proves may cite no file of its
-- crate but those of specs/.
use Rattle.std.proofs.Common.{ℕ, List, take, drop, ap, inl, inr, ⊎_elim, arith}
use Rattle.ublock.specs.Cipher.{Layout, block_length}
use Rattle.ublock.specs.Laws.{Bytes}
use Rattle.ublock.proofs.Bytes.{bounded-permute, bytes-append, bytes-drop, bytes-take, bytes_from}
use Rattle.schedule.specs.declared.row.Row.{Row}
use Rattle.words.specs.Words.{words}
use Rattle.words.proofs.Numbers.{words_bytes}
use Rattle.plain.specs.Unpermuted.{permuted_halves, row_of}
use Rattle.cipher.specs.Engines.{Shape}
use Rattle.halves.specs.Halves.{IsUblockLayout}

-- both block lengths are an engine's, with one lane
pub one_lane_shape : (l : Layout) → IsUblockLayout l → Shape (block_length l) 1
one_lane_shape l p = record {
  length_of_block = ⊎_elim (λ e. inl (ap block_length e)) (λ e. inr (ap block_length e)) p;
  one_lane = omega arith;
  eight_lanes = omega arith;
}

-- a key's bytes, from the halves at the front of numbers
key_of_bytes : (l : Layout) (numbers : List ℕ) → Bytes (permuted_halves l (take l.half (words numbers)) (take l.half (drop l.half (words numbers))))
key_of_bytes l numbers =
    let bytes = words_bytes numbers in
    bytes-append _ _ (bounded-permute 256 (omega arith) l.PL _ (bytes-take l.half _ bytes)) (bounded-permute 256 (omega arith) l.PR _ (bytes-take l.half _ (bytes-drop l.half _ bytes)))

-- a row of bytes
pub row_of_bytes : (l : Layout) (numbers : List ℕ) (row : Row) → Bytes (row_of l (words numbers) row.bytes)
row_of_bytes l numbers row = bytes-append _ _ (key_of_bytes l numbers) (bytes-drop (block_length l) row.bytes (bytes_from row.bytes row.of_bytes))

-- a row whose numbers go on past the key
pub numbers_of_bytes : (l : Layout) (numbers : List ℕ) → Bytes (row_of l (words numbers) (words numbers))
numbers_of_bytes l numbers =
    let bytes = words_bytes numbers in
    bytes-append _ _ (key_of_bytes l numbers) (bytes-drop (block_length l) _ bytes)
