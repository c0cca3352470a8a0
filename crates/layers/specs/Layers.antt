-- What the layers do to a block and to a run.
use Rattle.std.specs.Prelude.{ℕ, ◌*◌, ◌/◌, List, ◌++◌, length, take, drop}
use Rattle.ublock.specs.Cipher.{xor}
use Rattle.cipher.specs.Engines.{each}

-- f of a block with the first b bytes of one value added to it, and those of another to what comes of it
abbrev pub whitened : ℕ → List ℕ → List ℕ → (List ℕ → List ℕ) → List ℕ → List ℕ
whitened b before after f x = xor (f (xor x (take b before))) (take b after)

-- a run with the first b bytes of a value added to each of its whole blocks of b bytes
abbrev pub added_to_blocks : ℕ → List ℕ → List ℕ → List ℕ
added_to_blocks b value run = each b (λ x. xor x (take b value)) (length run / b) run ++ drop (length run / b * b) run
