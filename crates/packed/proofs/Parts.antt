-- The blocks that a run holds, as parts of it.
use Rattle.std.specs.Prelude.{◌≡◌, ℕ, suc, ◌+◌, ◌-◌, ◌*◌, ◌<◌, ◌≤◌, List, ◌++◌, length, take, drop, min}
use Rattle.std.proofs.Common.{sym, ap, ◌∙◌, inl, inr, arith}
use Rattle.std.proofs.lemmas.List.{drop-take, take-take}
use Rattle.ublock.specs.Cipher.{Layout, block_length, xor}
use Rattle.ublock.proofs.Bytes.{xor-append}
use Rattle.halves.specs.Halves.{IsUblockLayout}
use Rattle.ublock.specs.Parts.{part}
use Rattle.vectors.proofs.Parts.{length-part, part-xor}

-- a part that ends within the first n
pub part-take : (m i n : ℕ) (xs : List ℕ) → suc i * m ≤ n → part m i (take n xs) ≡ part m i xs
part-take m i n xs h =
    let split : n ≡ i * m + (n - i * m) = omega arith in
    ap (λ k. part m i (take k xs)) split ∙ ap (take m) (drop-take (i * m) (n - i * m) xs) ∙ take-take m (n - i * m) (drop (i * m) xs) (omega arith)

-- a part of a run, in bytes that begin with the run
pub part_of_padded : (m i : ℕ) (run bytes : List ℕ) → suc i * m ≤ length run → length run ≤ 64 → take (min (length run) 64) bytes ≡ take 64 run → part m i bytes ≡ part m i run
part_of_padded m i run bytes h few e =
    sym (part-take m i (min (length run) 64) bytes (omega arith)) ∙ ap (part m i) e ∙ part-take m i 64 run (omega arith)

-- a block within 64 bytes has a lane
pub lane_of_block : (l : Layout) (lanes i n : ℕ) → IsUblockLayout l → lanes * l.half ≡ 32 → suc i * block_length l ≤ n → n ≤ 64 → i < lanes
lane_of_block l lanes i n (inl e) filled h few = omega (arith, rw e at filled, rw e at h)
lane_of_block l lanes i n (inr e) filled h few = omega (arith, rw e at filled, rw e at h)

-- the exclusive or of a block in two halves, of which each row holds `count`
pub xor_of_halves : (m i count : ℕ) (left right other_left other_right x y : List ℕ) → i < count → length left ≡ count * m → length other_left ≡ count * m
    → x ≡ xor left other_left → y ≡ xor right other_right
    → part m i x ++ part m i y ≡ xor (part m i left ++ part m i right) (part m i other_left ++ part m i other_right)
xor_of_halves m i count left right other_left other_right x y h l k e f =
    ap (λ z. part m i z ++ part m i y) e ∙ ap (λ z. part m i (xor left other_left) ++ part m i z) f
    ∙ ap (λ z. z ++ part m i (xor right other_right)) (part-xor m i left other_left) ∙ ap (λ z. xor (part m i left) (part m i other_left) ++ z) (part-xor m i right other_right)
    ∙ sym (xor-append (part m i left) (part m i other_left) (part m i right) (part m i other_right) (length-part m i count left h l ∙ sym (length-part m i count other_left h k)))
