-- A call is what playing leaves as it is, and what its buffer holds.
use Rattle.std.proofs.Common.{◌≡◌}
use Rattle.agreement.specs.Played.{CallIsBareAndBuffer, bare, buffer, call_of}
use Rattle.agreement.specs.declared.play.Call.{Call}
use Rattle.agreement.specs.declared.play.Call.TheVariants.{Append, Amend, Cut, Read}

pub call_is_bare_and_buffer : CallIsBareAndBuffer
call_is_bare_and_buffer (Append r) (Append r') e f = e
call_is_bare_and_buffer (Append r) (Amend j' r' w') e f = cc
call_is_bare_and_buffer (Append r) (Cut m') e f = cc
call_is_bare_and_buffer (Append r) (Read j' p') e f = cc
call_is_bare_and_buffer (Amend j r w) (Append r') e f = cc
call_is_bare_and_buffer (Amend j r w) (Amend j' r' w') e f = cc
call_is_bare_and_buffer (Amend j r w) (Cut m') e f = cc
call_is_bare_and_buffer (Amend j r w) (Read j' p') e f = cc
call_is_bare_and_buffer (Cut m) (Append r') e f = cc
call_is_bare_and_buffer (Cut m) (Amend j' r' w') e f = cc
call_is_bare_and_buffer (Cut m) (Cut m') e f = e
call_is_bare_and_buffer (Cut m) (Read j' p') e f = cc
call_is_bare_and_buffer (Read j p) (Append r') e f = cc
call_is_bare_and_buffer (Read j p) (Amend j' r' w') e f = cc
call_is_bare_and_buffer (Read j p) (Cut m') e f = cc
call_is_bare_and_buffer (Read j p) (Read j' p') e f = cc
