-- Rows by their parts.
use Rattle.std.proofs.Common.{◌≡◌, ℕ, zero, suc, ◌+◌, ◌*◌, ◌<◌, ◌≤◌, List, ◌++◌, length, take, drop, sym, ap, ◌∙◌, arith, length-drop}
use Rattle.std.proofs.Math.Nat.{zero-mul, suc-mul}
use Rattle.std.proofs.Math.Seq.{take-add}
use Rattle.std.proofs.lemmas.List.{length-take-le, take-append-drop, take_all}
use Rattle.std.proofs.lemmas.Nat.{mul-le}
use Rattle.ublock.specs.Laws.{Bytes, Block}
use Rattle.ublock.specs.Parts.{part}
use Rattle.ublock.proofs.Bytes.{bytes-take, bytes-drop}
use Rattle.cipher.proofs.EngineRuns.{drop_past}

pub part_first : (b : ℕ) (xs : List ℕ) → part b 0 xs ≡ take b xs
part_first b xs = ap (λ k. take b (drop k xs)) (zero-mul b)

pub part_next : (b i : ℕ) (xs : List ℕ) → part b (suc i) xs ≡ part b i (drop b xs)
part_next b i xs = ap (take b) (sym (drop_past b i xs))

pub block_part : (b n j : ℕ) (xs : List ℕ) → Bytes xs → n * b ≤ length xs → j < n → Block b (part b j xs)
block_part b n j xs h room lt = record {
  long = length-take-le b (drop (j * b) xs) (omega (arith, length-drop (j * b) xs, suc-mul j b, mul-le (suc j) b n b (omega arith) (omega arith)));
  bytes = bytes-take b (drop (j * b) xs) (bytes-drop (j * b) xs h);
}

split : (b n : ℕ) (xs : List ℕ) → take (suc n * b) xs ≡ take b xs ++ take (n * b) (drop b xs)
split b n xs = ap (λ k. take k xs) {x = suc n * b} {y = b + n * b} (omega (arith, suc-mul n b)) ∙ take-add b (n * b) xs

-- rows with the same first n parts
pub same_parts : (b n : ℕ) (xs ys : List ℕ) → ((j : ℕ) → j < n → part b j xs ≡ part b j ys) → take (n * b) xs ≡ take (n * b) ys
same_parts b zero xs ys h = ap (λ k. take k xs) (zero-mul b) ∙ sym (ap (λ k. take k ys) (zero-mul b))
same_parts b (suc n) xs ys h =
    let first = sym (part_first b xs) ∙ h 0 (omega arith) ∙ part_first b ys in
    let more = same_parts b n (drop b xs) (drop b ys) (λ j lt. sym (part_next b j xs) ∙ h (suc j) (omega arith) ∙ part_next b j ys) in
    split b n xs ∙ ap (λ z. z ++ take (n * b) (drop b xs)) first ∙ ap (λ z. take b ys ++ z) more ∙ sym (split b n ys)

-- and with nothing after them
pub same_rows : (b n : ℕ) (xs ys : List ℕ) → length xs ≡ n * b → length ys ≡ n * b → ((j : ℕ) → j < n → part b j xs ≡ part b j ys) → xs ≡ ys
same_rows b n xs ys lx ly h = sym (take_all (n * b) xs (omega arith)) ∙ same_parts b n xs ys h ∙ take_all (n * b) ys (omega arith)

-- or with the same after them
pub same_to_end : (b n : ℕ) (xs ys : List ℕ) → ((j : ℕ) → j < n → part b j xs ≡ part b j ys) → drop (n * b) xs ≡ drop (n * b) ys → xs ≡ ys
same_to_end b n xs ys h end =
    sym (take-append-drop (n * b) xs) ∙ ap (λ z. z ++ drop (n * b) xs) (same_parts b n xs ys h) ∙ ap (λ z. take (n * b) ys ++ z) end ∙ take-append-drop (n * b) ys
