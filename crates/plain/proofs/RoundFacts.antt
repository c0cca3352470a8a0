-- A round undone in two halves.
use Rattle.std.specs.Prelude.{◌≡◌, ℕ, List, ◌++◌, length}
use Rattle.std.proofs.Common.{sym, ap, ◌∙◌}
use Rattle.ublock.specs.Cipher.{Layout, Halves, S_inverse, substitute, xor, permute, mixing, unmixed, joined, permuted, inverse_round}
use Rattle.ublock.proofs.Rounds.{split-joined}
use Rattle.words.specs.Words.{halves}

pub inverse_round_from : (l : Layout) (x y key p q s t a z : List ℕ) → l.mixing ≡ mixing → length x ≡ l.half
    → p ≡ permute l.PL_inverse x → q ≡ permute l.PR_inverse y → halves s t ≡ unmixed mixing (halves p q)
    → a ≡ substitute S_inverse (s ++ t) → z ≡ xor a key → z ≡ inverse_round l key (x ++ y)
inverse_round_from l x y key p q s t a z m e ep eq em ea ez =
    let undo : Halves → List ℕ = λ h. xor (substitute S_inverse (joined h)) key in
    ez ∙ ap (λ w. xor w key) ea ∙ ap undo em
    ∙ ap (λ w. undo (unmixed mixing (halves w q))) ep ∙ ap (λ w. undo (unmixed mixing (halves (permute l.PL_inverse x) w))) eq
    ∙ ap (λ ss. undo (unmixed ss (halves (permute l.PL_inverse x) (permute l.PR_inverse y)))) (sym m)
    ∙ ap (λ h. undo (unmixed l.mixing (permuted l.PL_inverse l.PR_inverse h))) (sym (split-joined l.half (halves x y) e))
