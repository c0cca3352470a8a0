-- Texts cut at line feeds, and what the first bytes of a line tell of it.
use Rattle.std.proofs.Common.{◌≡◌, ℕ, zero, suc, false, eqb, List, [], ◌∷◌, ◌++◌, map, take, refl, sym, ap, ◌∙◌}
use Rattle.std.specs.List.{onto_first}
use Rattle.std.proofs.lemmas.List.{append-nil}
use Rattle.std.proofs.lemmas.List.Elements.{All-head, All-tail}
use Rattle.lines.specs.Lines.{HasNoFeed, split_lines, first_lines}

-- bytes put before the first line
abbrev onto : List ℕ → List (List ℕ) → List (List ℕ)
onto [] ls = ls
onto (x ∷ h) ls = onto_first x (onto h ls)

onto_line : (h l : List ℕ) (ls : List (List ℕ)) → onto h (l ∷ ls) ≡ (h ++ l) ∷ ls
onto_line [] l ls = refl
onto_line (x ∷ h) l ls = ap (onto_first x) (onto_line h l ls)

onto_none : (x : ℕ) (h : List ℕ) → onto (x ∷ h) [] ≡ (x ∷ h) ∷ []
onto_none x [] = refl
onto_none x (y ∷ h) = ap (onto_first x) (onto_none y h)

split-append : (h xs : List ℕ) → HasNoFeed h → split_lines (h ++ xs) ≡ onto h (split_lines xs)
split-append [] xs u = refl
split-append (x ∷ h) xs u = rw (All-head (λ y. eqb y 10 ≡ false) x h u) (ap (onto_first x) (split-append h xs (All-tail (λ y. eqb y 10 ≡ false) x h u)))

-- a line feed ends the line
pub split_feed : (h xs : List ℕ) → HasNoFeed h → split_lines (h ++ (10 ∷ xs)) ≡ h ∷ split_lines xs
split_feed h xs u = split-append h (10 ∷ xs) u ∙ onto_line h [] (split_lines xs) ∙ ap (λ l. l ∷ split_lines xs) (append-nil h)

-- bytes with no line feed are a line, or none if they are empty
pub split_last : (x : ℕ) (h : List ℕ) → HasNoFeed (x ∷ h) → split_lines (x ∷ h) ≡ (x ∷ h) ∷ []
split_last x h u = ap split_lines (sym (append-nil (x ∷ h))) ∙ split-append (x ∷ h) [] u ∙ onto_none x h

take_front : (w : ℕ) (h l : List ℕ) → take w (take w h ++ l) ≡ take w (h ++ l)
take_front zero h l = refl
take_front (suc w) [] l = refl
take_front (suc w) (x ∷ h) l = ap (λ t. x ∷ t) (take_front w h l)

take_twice : (w : ℕ) (h : List ℕ) → take w (take w h) ≡ take w h
take_twice zero h = refl
take_twice (suc w) [] = refl
take_twice (suc w) (x ∷ h) = ap (λ t. x ∷ t) (take_twice w h)

onto_front : (w n : ℕ) (h : List ℕ) (ls : List (List ℕ)) → map (take (suc w)) (take n (onto (take (suc w) h) ls)) ≡ map (take (suc w)) (take n (onto h ls))
onto_front w zero h ls = refl
onto_front w (suc n) h (l ∷ ls) = rw (onto_line (take (suc w) h) l ls, onto_line h l ls, take_front (suc w) h l)
onto_front w (suc n) [] [] = refl
onto_front w (suc n) (x ∷ h) [] = rw (onto_none x (take w h), onto_none x h, take_twice w h)

-- of an unfinished line its first bytes tell all
pub lines_front : (n : ℕ) (h xs : List ℕ) → HasNoFeed h → HasNoFeed (take 201 h) → first_lines n (split_lines (take 201 h ++ xs)) ≡ first_lines n (split_lines (h ++ xs))
lines_front n h xs u v = rw (split-append (take 201 h) xs v, split-append h xs u) (onto_front 200 n h (split_lines xs))
