use Rattle.std.proofs.Common.{◌≡◌, ◌*◌, ◌++◌, take, drop}
use Rattle.ublock.specs.Cipher.{xor}
use Rattle.cipher.specs.Engines.{each}
use Rattle.layers.proofs.fixed.FixedValue.add_to_blocks.Given as goal

-- the blocks so far have the value added to them
abbrev pub invariant-loop-i : goal.invariant-loop-i
invariant-loop-i l = l.run ≡ each l.b (λ x. xor x (take l.b l.self.bytes)) l.i l.initial.run ++ drop (l.i * l.b) l.initial.run
