-- The mixing and its reverse undo each other, whatever the rotations; halves side by side mix each alone.
use Rattle.std.proofs.Common.{◌≡◌, ℕ, zero, suc, ◌*◌, List, [], ◌∷◌, ◌++◌, length, sym, refl, ap, ◌∙◌, arith}
use Rattle.std.specs.Int.Digits.{number_from_digits}
use Rattle.ublock.specs.Cipher.{xor, be4, rotated, rotate, Halves, Step, step, mixed, unmixed}
use Rattle.ublock.specs.Cipher.Step.{into_right, into_left}
use Rattle.ublock.specs.Laws.{Bytes}
use Rattle.ublock.proofs.Bytes.{xor_twice, length-xor, length-rotate, xor-append, bytes-xor, bytes-rotate}

step_twice : (s : Step) (h : Halves) → step s (step s h) ≡ h
step_twice (into_right b) h = ap (λ r. record { left = h.left; right = r }) (xor_twice h.right (rotate b h.left))
step_twice (into_left b) h = ap (λ l. record { left = l; right = h.right }) (xor_twice h.left (rotate b h.right))

pub unmixed-mixed : (ss : List Step) (h : Halves) → unmixed ss (mixed ss h) ≡ h
unmixed-mixed [] h = refl
unmixed-mixed (s ∷ ss) h = ap (step s) (unmixed-mixed ss (step s h)) ∙ step_twice s h

pub mixed-unmixed : (ss : List Step) (h : Halves) → mixed ss (unmixed ss h) ≡ h
mixed-unmixed [] h = refl
mixed-unmixed (s ∷ ss) h = ap (mixed ss) (step_twice s (unmixed ss h)) ∙ mixed-unmixed ss h

-- ---- both halves keep their length
pub record Long (m : ℕ) (h : Halves) : Type 0 where
  pub left : length h.left ≡ m
  pub right : length h.right ≡ m

step_long : (m : ℕ) (s : Step) (h : Halves) → Long m h → Long m (step s h)
step_long m (into_right b) h l = record { left = l.left; right = length-xor h.right (rotate b h.left) ∙ l.right }
step_long m (into_left b) h l = record { left = length-xor h.left (rotate b h.right) ∙ l.left; right = l.right }

pub mixed_long : (m : ℕ) (ss : List Step) (h : Halves) → Long m h → Long m (mixed ss h)
mixed_long m [] h l = l
mixed_long m (s ∷ ss) h l = mixed_long m ss (step s h) (step_long m s h l)

pub unmixed_long : (m : ℕ) (ss : List Step) (h : Halves) → Long m h → Long m (unmixed ss h)
unmixed_long m [] h l = l
unmixed_long m (s ∷ ss) h l = step_long m s (unmixed ss h) (unmixed_long m ss h l)

-- ---- and stay bytes
pub record BothBytes (h : Halves) : Type 0 where
  pub left : Bytes h.left
  pub right : Bytes h.right

step_bytes : (s : Step) (h : Halves) → BothBytes h → BothBytes (step s h)
step_bytes (into_right b) h p = record {
  left = p.left;
  right = bytes-xor h.right (rotate b h.left) p.right (bytes-rotate b h.left p.left);
}
step_bytes (into_left b) h p = record {
  left = bytes-xor h.left (rotate b h.right) p.left (bytes-rotate b h.right p.right);
  right = p.right;
}

pub mixed_bytes : (ss : List Step) (h : Halves) → BothBytes h → BothBytes (mixed ss h)
mixed_bytes [] h p = p
mixed_bytes (s ∷ ss) h p = mixed_bytes ss (step s h) (step_bytes s h p)

pub unmixed_bytes : (ss : List Step) (h : Halves) → BothBytes h → BothBytes (unmixed ss h)
unmixed_bytes [] h p = p
unmixed_bytes (s ∷ ss) h p = step_bytes s (unmixed ss h) (unmixed_bytes ss h p)

-- ---- halves of whole pieces, side by side
pub rotate-append : (b n : ℕ) (xs ys : List ℕ) → length xs ≡ n * 4 → rotate b (xs ++ ys) ≡ rotate b xs ++ rotate b ys
rotate-append b n [] ys e = refl
rotate-append b n (p ∷ []) ys e = absurd (omega arith)
rotate-append b n (p ∷ q ∷ []) ys e = absurd (omega arith)
rotate-append b n (p ∷ q ∷ r ∷ []) ys e = absurd (omega arith)
rotate-append b zero (p ∷ q ∷ r ∷ s ∷ xs) ys e = absurd (omega arith)
rotate-append b (suc n) (p ∷ q ∷ r ∷ s ∷ xs) ys e =
    ap (λ zs. be4 (rotated b (number_from_digits 256 (p ∷ q ∷ r ∷ s ∷ []))) ++ zs) (rotate-append b n xs ys (omega arith))

abbrev pub beside : Halves → Halves → Halves
beside g h = record { left = g.left ++ h.left; right = g.right ++ h.right }

step_beside : (n : ℕ) (s : Step) (g h : Halves) → Long (n * 4) g → step s (beside g h) ≡ beside (step s g) (step s h)
step_beside n (into_right b) g h l =
    ap (λ r. record { left = g.left ++ h.left; right = r })
    (ap (xor (g.right ++ h.right)) (rotate-append b n g.left h.left l.left)
    ∙ xor-append g.right (rotate b g.left) h.right (rotate b h.left) (l.right ∙ sym (length-rotate b g.left ∙ l.left)))
step_beside n (into_left b) g h l =
    ap (λ z. record { left = z; right = g.right ++ h.right })
    (ap (xor (g.left ++ h.left)) (rotate-append b n g.right h.right l.right)
    ∙ xor-append g.left (rotate b g.right) h.left (rotate b h.right) (l.left ∙ sym (length-rotate b g.right ∙ l.right)))

pub mixed_beside : (n : ℕ) (ss : List Step) (g h : Halves) → Long (n * 4) g → mixed ss (beside g h) ≡ beside (mixed ss g) (mixed ss h)
mixed_beside n [] g h l = refl
mixed_beside n (s ∷ ss) g h l =
    ap (mixed ss) (step_beside n s g h l) ∙ mixed_beside n ss (step s g) (step s h) (step_long (n * 4) s g l)

pub unmixed_beside : (n : ℕ) (ss : List Step) (g h : Halves) → Long (n * 4) g → unmixed ss (beside g h) ≡ beside (unmixed ss g) (unmixed ss h)
unmixed_beside n [] g h l = refl
unmixed_beside n (s ∷ ss) g h l =
    ap (step s) (unmixed_beside n ss g h l) ∙ step_beside n s (unmixed ss g) (unmixed ss h) (unmixed_long (n * 4) ss g l)
