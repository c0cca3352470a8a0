-- The worked examples hold: the checker computes them.
use Rattle.std.proofs.Common.{refl}
use Rattle.std.specs.Fmt.{digits}
use Rattle.protocol.specs.Examples.{LinesAsWorked, TextsAsWorked}
use Rattle.protocol.specs.Fields.{fields, alone, read_on, number_of, bytes_of, letter_of, engine_of, mode_of}
use Rattle.protocol.specs.Lines.{new_from, new_of, append_of, amend_of, number_alone, cut_of, read_of, show_of, of_fields, command_of}
use Rattle.protocol.specs.Replies.{hex_text}

pub lines_as_worked : LinesAsWorked
unfolding command_of of_fields fields alone new_of new_from append_of amend_of cut_of read_of show_of number_alone bytes_of number_of read_on engine_of mode_of letter_of
lines_as_worked = record { shaped = refl; misshapen = refl }

pub texts_as_worked : TextsAsWorked
unfolding hex_text digits
texts_as_worked = refl
