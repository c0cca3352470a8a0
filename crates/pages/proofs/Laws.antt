-- What the equations of a page leave no choice in: the page, and the readings that it gives back.
use Rattle.std.proofs.Common.{◌≡◌, ℕ, ◌-◌, ◌*◌, ◌/◌, Some, List, length, replicate, sym, ap, subst, ◌∙◌, arith}
use Rattle.ublock.specs.Cipher.{E, D}
use Rattle.ublock.specs.Laws.{Bytes, VariantPermutes}
use Rattle.ublock.specs.Variants.{parameters}
use Rattle.ublock.specs.declared.variant.Variant.{Variant}
use Rattle.ublock.specs.declared.variant.Variant.TheVariants.{Block128Key128, Block128Key256, Block256Key256}
use Rattle.ublock.proofs.KeySteps.{variants_permute}
use Rattle.cipher.specs.Engines.{Answer}
use Rattle.beatlog.specs.Refusals.{open_refusal}
use Rattle.pages.specs.Calls.{Terms, SealedPage, OpenedPage, OnePage, GivesBack, refusal_by, size}
use Rattle.pages.proofs.Equations.{one_encrypted, decrypted_back}
use Rattle.pages.proofs.Numbers.{key_accepted, open_accepted}
use Rattle.pages.proofs.Parts.{same_rows, same_to_end}
use Rattle.pages.proofs.Calls.{few_blocks}

permutes_by : (v : Variant) → VariantPermutes (parameters v)
permutes_by Block128Key128 = variants_permute.0
permutes_by Block128Key256 = variants_permute.1
permutes_by Block256Key256 = variants_permute.2

pub one_page : (t : Terms) (readings page after : List ℕ) (answer : Answer ℕ) → SealedPage t readings page after answer → OnePage t readings after answer
one_page t readings page after answer call is v named other long held =
    let b = size v in
    let n = length readings / b in
    let left = (call.accepted is v named).holds in
    same_to_end b n other after (one_encrypted t.mode (E (parameters v) t.key) b n t.start readings other after held.blocks left.blocks)
    (held.zeros ∙ ap (λ k. replicate (k - n * b) 0) long ∙ sym left.zeros)

pub gives_back : (t : Terms) → Bytes t.key → Bytes t.start → (page : List ℕ) → Bytes page → (n : ℕ) (place after : List ℕ) (answer : Answer ℕ)
    → OpenedPage t page n place after answer → GivesBack t page n after answer
gives_back t key start page bytes n place after answer call is v named readings of_bytes held =
    let b = size v in
    let left = call.accepted is v named in
    let later : ℕ → ℕ = λ k. open_refusal k (length t.start) (length page) n (length place) in
    let zero : refusal_by (Some v) (length t.key) later ≡ 0 = subst (λ o. refusal_by o (length t.key) later ≡ 0) named (sym call.number ∙ is) in
    let taken = key_accepted v (length t.key) later zero in
    let fine = open_accepted b (length t.start) (length page) n (length place) taken.1 in
    let permutes = permutes_by v t.key (record { long = taken.0; bytes = key }) in
    same_rows b n after readings left.long held.whole
    (decrypted_back b n (E (parameters v) t.key) (D (parameters v) t.key) permutes t.start readings page after (record { long = fine.0; bytes = start }) of_bytes bytes
    (omega (arith, held.whole)) (few_blocks b n (length page) fine.2 fine.3) t.mode held.blocks left.blocks)
