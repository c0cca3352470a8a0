use Rattle.std.proofs.Common.{◌≡◌, ◌+◌, ◌*◌, ◌++◌, length, take}
use Rattle.ublock.specs.Cipher.{nibbles, paired, permute}
use Rattle.ublock.specs.Variants.{parameters}
use Rattle.schedule.proofs.register.Register.permute_front.Given as goal

-- the bytes so far, and those that the sources that are left will give, are all of the bytes
abbrev pub invariant-loop-j : goal.invariant-loop-j
invariant-loop-j l =
    let pk = (parameters l.self.variant).PK in
    let left = l.j-iterator.iter.rest.now in
    let ns = nibbles l.self.bytes in
    record {
      long : length l.front ≡ 16;
      size : l.j-iterator.iter.size ≡ 2;
      count : l.j-iterator.count * 2 + length left ≡ length pk;
      bytes : take l.j-iterator.count l.front ++ paired (permute left ns) ≡ paired (permute pk ns);
    }
