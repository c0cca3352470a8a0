use Rattle.std.proofs.Common.{◌≡◌, ℕ, length, take, sym, ap, ◌∙◌, arith, length-drop, length-set}
use Rattle.std.proofs.lemmas.Bool.Decides.{nat_tests}
use Rattle.protocol.proofs.Digits.{bytes_more, bytes_whole}
use Rattle.protocol.proofs.Texts.{past}
use Rattle.protocol.proofs.byte_field.byte_field.Goals as goal

pub loop-rest-preserved : goal.loop-rest-preserved
loop-rest-preserved c =
    let digits = c.loop-rest.rest.now in
    let bytes = c.loop-rest.bytes in
    let len = c.loop-rest.len in
    record {
      room = omega (arith, ap length (past 2 digits), length-drop 2 digits);
      size = omega (arith, length-set {A = ℕ});
      so_far = bytes_more bytes digits len c.in_ok-hex_digit.field-0 c.in_ok-bytes.field-0 (omega arith) (omega arith) (sym c.in_ok-hex_digit.ensures.digit) (sym c.in_ok-bytes.ensures.digit)
          ∙ c.loop-rest.invariant.so_far;
    }

pub returns-then-is_empty : goal.returns-then-is_empty
returns-then-is_empty c =
    let none_left : length c.loop-rest.rest.now ≡ 0 = grind (arith, nat_tests) in
    sym (bytes_whole (take c.loop-rest.len c.loop-rest.bytes) c.loop-rest.rest.now none_left) ∙ c.loop-rest.invariant.so_far
