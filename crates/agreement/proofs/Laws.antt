-- What the laws of an engine and of a mode give: lawful schemes.
use Rattle.std.proofs.Common.{ℕ, ◌<◌, Bool, List, ⊎_elim, arith}
use Rattle.ublock.specs.Laws.{Block, Permutes}
use Rattle.cipher.specs.Engines.{Shape}
use Rattle.modes.specs.Modes.{BlockLength, Rule}
use Rattle.modes.specs.Sealing.{Scheme, Lawful}

-- with any start block, a lawful scheme
pub record LawfulMeaning (s : Scheme) : Type 0 where
  pub with_start : (v : List ℕ) → Block s.size v → Lawful (record s { start = v })

-- of an engine's shape and permutation, and of a mode's rule, which holds for both block lengths
pub lawful_meaning : (s : Scheme) (lanes : ℕ) (chained : Bool) → Shape s.size lanes → Permutes s.size s.enc s.dec
    → ((b : ℕ) → BlockLength b → Rule b s.first s.last chained) → LawfulMeaning s
lawful_meaning s lanes chained shape permutes rule = record {
  with_start = λ v start. record { length = shape.length_of_block; permutes = permutes; chained = chained; rule = rule s.size shape.length_of_block; start = start };
}

pub size_positive : (s : Scheme) → Lawful s → 0 < s.size
size_positive s ok = ⊎_elim (λ e. omega arith) (λ e. omega arith) ok.length
