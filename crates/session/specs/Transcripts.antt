-- What holds of lines and the texts they were answered with, whatever the lines are.
use Rattle.std.specs.Prelude.{◌≡◌, ℕ, ◌+◌, ◌*◌, ◌<◌, ◌≤◌, Bool, true, false, not, List, [], ◌∷◌, ◌++◌, map, length, take, set, get_or, Option, Some, None, option_map, nat_lt, nat_le, ◌==◌, if◌then◌else◌}
use Rattle.std.specs.Str.{byte}
use Rattle.ublock.specs.Cipher.{key_length}
use Rattle.ublock.specs.Variants.{numbered, parameters}
use Rattle.ublock.specs.declared.variant.Variant.{Variant}
use Rattle.modes.specs.Sealing.{Scheme, sealed}
use Rattle.beatlog.specs.Refusals.{row}
use Rattle.agreement.specs.Agreements.{HoldsSealed}
use Rattle.pages.specs.Calls.{size}
use Rattle.protocol.specs.Lines.{command_of}
use Rattle.protocol.specs.Replies.{number_text, block_text, refusal_text}
use Rattle.protocol.specs.declared.command.Command.{Command}
use Rattle.protocol.specs.declared.command.Command.TheVariants.{New, Log}
use Rattle.protocol.specs.declared.command.NewLog.{NewLog}
use Rattle.protocol.specs.declared.command.LogCommand.{LogCommand}
use Rattle.protocol.specs.declared.command.LogCommand.TheVariants.{Append, Amend, Cut, Read, Show}
use Rattle.protocol.specs.declared.command.EngineName.TheVariants.{Plain}
use Rattle.session.specs.Session.{SessionState, beginning, answer, texts, state_after, published, mode_of_name}

-- ---- what stands, by the accepted lines alone
-- how readings are sealed, on a page of how many blocks, and the readings in their order
pub record Standing : Type 0 where
  pub scheme : Scheme
  pub blocks : ℕ
  pub readings : List (List ℕ)

-- a text begins with `ok` or `no`: its first byte tells
abbrev pub is_accepted : List ℕ → Bool
is_accepted text = get_or text 0 0 == byte "o"

-- an accepted A, M or C
abbrev pub edited : List (List ℕ) → LogCommand → List (List ℕ)
edited readings (Append reading) = readings ++ reading ∷ []
edited readings (Amend index reading) = set readings index reading
edited readings (Cut count) = take count readings
edited readings (Read index) = readings
edited readings (Show index) = readings

-- an accepted N
abbrev pub new_standing : NewLog → Variant → Standing
new_standing n v = record { scheme = published v (mode_of_name n.mode) n.key n.start; blocks = n.blocks; readings = [] }

-- what an accepted line makes of it. Nothing stands before an N
abbrev pub said : Option Standing → Option Command → Option Standing
said standing None = standing
said standing (Some (New n)) = option_map (new_standing n) (numbered n.variant)
said standing (Some (Log command)) = option_map (λ s. record { scheme = s.scheme; blocks = s.blocks; readings = edited s.readings command }) standing

-- lines, each with its text
abbrev pub standing_from : Option Standing → List (List ℕ) → List (List ℕ) → Option Standing
standing_from standing [] texts = standing
standing_from standing (line ∷ lines) [] = standing
standing_from standing (line ∷ lines) (text ∷ texts) = standing_from (if is_accepted text then said standing (command_of line) else standing) lines texts

abbrev pub standing : List (List ℕ) → List (List ℕ) → Option Standing
standing = standing_from None

-- ---- what the next line is answered
-- the answer to a line that says R
abbrev pub read_text : ℕ → Option Standing → ℕ → List ℕ
read_text k None j = refusal_text k 11
read_text k (Some s) j = if nat_lt j (length s.readings) then block_text (get_or s.readings j []) else refusal_text k 8

-- to one that says S: block j of the readings sealed, each after the sealed block before it
abbrev pub show_text : ℕ → Option Standing → ℕ → List ℕ
show_text k None j = refusal_text k 11
show_text k (Some s) j = if nat_lt j (length s.readings) then block_text (get_or (sealed s.scheme 0 s.scheme.start s.readings) j []) else refusal_text k 8

-- to one of the others that is accepted: how many readings then stand
abbrev pub count_text : Option Standing → List ℕ
count_text None = []
count_text (Some s) = number_text (length s.readings)

-- with which number a command is refused where these readings stand: the first that applies, or 0 where none does
abbrev pub log_refusal : Standing → LogCommand → ℕ
log_refusal s (Append reading) = row 5 (not (length reading == s.scheme.size)) (row 7 (nat_le s.blocks (length s.readings)) 0)
log_refusal s (Amend index reading) = row 5 (not (length reading == s.scheme.size)) (row 8 (nat_le (length s.readings) index) 0)
log_refusal s (Cut count) = row 8 (nat_lt (length s.readings) count) 0
log_refusal s (Read index) = row 8 (nat_le (length s.readings) index) 0
log_refusal s (Show index) = row 8 (nat_le (length s.readings) index) 0

-- an N where none was accepted before
abbrev pub new_refusal : NewLog → Option Variant → ℕ
new_refusal n None = 1
new_refusal n (Some v) = row 2 (not (length n.key == key_length (parameters v))) (row 3 (not (length n.start == size v)) (row 6 (nat_lt 2048 n.blocks) 0))

-- a line
abbrev pub line_refusal : Option Standing → Option Command → ℕ
line_refusal standing None = 10
line_refusal None (Some (New n)) = new_refusal n (numbered n.variant)
line_refusal None (Some (Log command)) = 11
line_refusal (Some s) (Some (New n)) = 11
line_refusal (Some s) (Some (Log command)) = log_refusal s command

-- N, A, M and C
abbrev pub Counts : Command → Type 0
Counts (New n) = Unit
Counts (Log (Append reading)) = Unit
Counts (Log (Amend index reading)) = Unit
Counts (Log (Cut count)) = Unit
Counts (Log (Read index)) = ⊥
Counts (Log (Show index)) = ⊥

-- the page: none before an N, and then the readings sealed and zeros
abbrev pub PageHolds : Option Standing → List ℕ → Type 0
PageHolds None page = page ≡ []
PageHolds (Some s) page = HoldsSealed s.scheme (s.blocks * s.scheme.size) s.readings page

-- ---- the theorems
-- what stands after these lines
abbrev pub standing_after : List (List ℕ) → Option Standing
standing_after lines = standing lines (texts beginning lines)

-- what a line after these is answered
abbrev pub text_after : List (List ℕ) → List ℕ → List ℕ
text_after lines line = (answer (state_after beginning lines) line).text

-- after any lines, what is read, shown and counted is what the accepted lines say
pub record ReadingsShown : Type 0 where
  pub read : (lines : List (List ℕ)) (line : List ℕ) (j : ℕ) → length lines < 999999 → command_of line ≡ Some (Log (Read j))
      → text_after lines line ≡ read_text (length lines + 1) (standing_after lines) j
  pub shown : (lines : List (List ℕ)) (line : List ℕ) (j : ℕ) → length lines < 999999 → command_of line ≡ Some (Log (Show j))
      → text_after lines line ≡ show_text (length lines + 1) (standing_after lines) j
  pub counted : (lines : List (List ℕ)) (line : List ℕ) (command : Command) → command_of line ≡ Some command → Counts command
      → is_accepted (text_after lines line) ≡ true → text_after lines line ≡ count_text (standing_after (lines ++ line ∷ []))
  pub page : (lines : List (List ℕ)) → PageHolds (standing_after lines) (state_after beginning lines).page

-- after any lines, which line is accepted, and with what number another is refused, is what the accepted lines say
pub record RefusalsTold : Type 0 where
  pub accepted : (lines : List (List ℕ)) (line : List ℕ) → length lines < 999999
      → is_accepted (text_after lines line) ≡ (line_refusal (standing_after lines) (command_of line) == 0)
  pub refused : (lines : List (List ℕ)) (line : List ℕ) → length lines < 999999 → is_accepted (text_after lines line) ≡ false
      → text_after lines line ≡ refusal_text (length lines + 1) (line_refusal (standing_after lines) (command_of line))
  -- after so many, nothing is answered
  pub past : (lines : List (List ℕ)) (line : List ℕ) → 999999 ≤ length lines → text_after lines line ≡ []

-- without the name of the engine: that of the plain one stands for both
abbrev pub on_plain : NewLog → NewLog
on_plain n = record { variant = n.variant; engine = Plain; mode = n.mode; blocks = n.blocks; key = n.key; start = n.start }

abbrev pub without_engine : Command → Command
without_engine (New n) = New (on_plain n)
without_engine (Log command) = Log command

-- what lines say, but for the engines
abbrev pub but_engines : List (List ℕ) → List (Option Command)
but_engines = map (λ line. option_map without_engine (command_of line))

-- lines that differ in their engines alone are answered alike, from any state, and leave the same
pub record EnginesAlike : Type 0 where
  pub texts_alike : (s : SessionState) (lines others : List (List ℕ)) → but_engines lines ≡ but_engines others → texts s lines ≡ texts s others
  pub states_alike : (s : SessionState) (lines others : List (List ℕ)) → but_engines lines ≡ but_engines others → state_after s lines ≡ state_after s others
