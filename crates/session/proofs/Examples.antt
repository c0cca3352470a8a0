-- The worked example holds: the checker computes it.
use Rattle.std.proofs.Common.{refl}
use Rattle.std.specs.Fmt.{digits}
use Rattle.protocol.specs.Fields.{fields, alone, read_on, number_of, bytes_of, letter_of, engine_of, mode_of}
use Rattle.protocol.specs.Lines.{new_from, new_of, append_of, number_alone, show_of, of_fields, command_of}
use Rattle.protocol.specs.Replies.{hex_text}
use Rattle.session.specs.Examples.{SessionAsWorked}

pub session_as_worked : SessionAsWorked
unfolding command_of of_fields fields alone new_of new_from append_of show_of number_alone bytes_of number_of read_on engine_of mode_of letter_of hex_text digits
session_as_worked = refl
