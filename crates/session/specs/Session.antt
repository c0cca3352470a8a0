-- What a session is: what each line is answered, and the log and the page that it leaves.
use Rattle.std.specs.Prelude.{ℕ, ◌+◌, ◌*◌, List, [], ◌∷◌, length, replicate, Option, Some, None, nat_le, ◌==◌, if◌then◌else◌}
use Rattle.ublock.specs.Cipher.{E, D}
use Rattle.ublock.specs.Parts.{part}
use Rattle.ublock.specs.Variants.{parameters, numbered}
use Rattle.ublock.specs.declared.variant.Variant.{Variant}
use Rattle.cipher.specs.Engines.{Answer}
use Rattle.modes.specs.Sealing.{Scheme}
use Rattle.modes.specs.StandardModes.{standard_first}
use Rattle.modes.specs.declared.standard.StandardMode.{StandardMode}
use Rattle.modes.specs.declared.standard.StandardMode.TheVariants as modes
use Rattle.beatlog.specs.Calls.{View, count_after, changes_after, page_after, reading_of}
use Rattle.beatlog.specs.Refusals as calls
use Rattle.beatlog.specs.Refusals.{refusal, begin_refusal}
use Rattle.pages.specs.Calls.{refusal_by, size}
use Rattle.protocol.specs.Lines.{command_of}
use Rattle.protocol.specs.Replies.{number_text, block_text, refusal_text}
use Rattle.protocol.specs.declared.command.Command.{Command}
use Rattle.protocol.specs.declared.command.Command.TheVariants.{New, Log}
use Rattle.protocol.specs.declared.command.NewLog.{NewLog}
use Rattle.protocol.specs.declared.command.LogCommand.{LogCommand}
use Rattle.protocol.specs.declared.command.LogCommand.TheVariants.{Append, Amend, Cut, Read, Show}
use Rattle.protocol.specs.declared.command.ModeName.{ModeName}
use Rattle.protocol.specs.declared.command.ModeName.TheVariants.{Ecb, Cbc}

-- what a line does: its answer, a text or the number of a refusal; the log, once there is one; and the bytes of its page
pub record Done : Type 0 where
  pub answer : Answer (List ℕ)
  pub log : Option View
  pub page : List ℕ

-- a refusal changes nothing
abbrev pub refused : Option View → List ℕ → ℕ → Done
refused log page number = record { answer = record { value = None; number = number }; log = log; page = page }

abbrev pub accepted : List ℕ → Option View → List ℕ → Done
accepted text log page = record { answer = record { value = Some text; number = 0 }; log = log; page = page }

-- ---- N
abbrev pub mode_of_name : ModeName → StandardMode
mode_of_name Ecb = modes.Ecb
mode_of_name Cbc = modes.Cbc

-- how blocks are sealed: by the published cipher, whichever engine works; the last mask of both modes is zeros
abbrev pub published : Variant → StandardMode → List ℕ → List ℕ → Scheme
published v mode key start = record {
  size = size v;
  enc = E (parameters v) key;
  dec = D (parameters v) key;
  first = standard_first mode;
  last = λ w i before. replicate (length w) 0;
  start = start;
}

-- a log of no readings, on a page of zeros
abbrev pub new_log : Option Variant → NewLog → Option View
new_log None n = None
new_log (Some v) n = Some (record { scheme = published v (mode_of_name n.mode) n.key n.start; capacity = n.blocks; count = 0; changes = 0 })

abbrev pub new_page : Option Variant → NewLog → List ℕ
new_page None n = []
new_page (Some v) n = replicate (n.blocks * size v) 0

-- 1 and 2 refuse the key, then a log's begin the rest, on a page of so many blocks
abbrev pub new_number : NewLog → ℕ
new_number n = refusal_by (numbered n.variant) (length n.key) (λ b. begin_refusal b (length n.start) (n.blocks * b))

abbrev pub begun : List ℕ → NewLog → Done
begun page n = if new_number n == 0 then accepted (number_text 0) (new_log (numbered n.variant) n) (new_page (numbered n.variant) n) else refused None page (new_number n)

-- ---- A, M, C, R and S, as calls on the log
-- an amendment is lent a buffer as long as the page, which is always enough; a reading is read into one block
abbrev pub call_of : ℕ → ℕ → LogCommand → calls.Call
call_of b page_length (Append reading) = calls.append reading
call_of b page_length (Amend index reading) = calls.amend index reading (replicate page_length 0)
call_of b page_length (Cut count) = calls.cut count
call_of b page_length (Read index) = calls.read index (replicate b 0)
call_of b page_length (Show index) = calls.read index (replicate b 0)

-- what an accepted command is answered: how many readings then stand, a reading, or a sealed block
abbrev pub text_of : View → List ℕ → LogCommand → List ℕ
text_of v page (Read index) = block_text (reading_of v.scheme index page)
text_of v page (Show index) = block_text (part v.scheme.size index page)
text_of v page command = number_text (count_after v.count (call_of v.scheme.size (length page) command))

abbrev pub log_after : View → calls.Call → View
log_after v call = record { scheme = v.scheme; capacity = v.capacity; count = count_after v.count call; changes = changes_after v.changes call }

abbrev pub on_log : View → List ℕ → LogCommand → Done
on_log v page command =
    let call = call_of v.scheme.size (length page) command in
    let number = refusal v.scheme.size v.capacity v.count (length page) call in
    if number == 0 then accepted (text_of v page command) (Some (log_after v call)) (page_after v.scheme v.count page call) else refused (Some v) page number

-- ---- a line
-- 10 is looked at first, then 11, then the others upward
abbrev pub done : Option View → List ℕ → Option Command → Done
done log page None = refused log page 10
done None page (Some (New new)) = begun page new
done None page (Some (Log command)) = refused None page 11
done (Some v) page (Some (New new)) = refused (Some v) page 11
done (Some v) page (Some (Log command)) = on_log v page command

-- how many lines were answered, the log, once there is one, and the bytes of its page
pub record SessionState : Type 0 where
  pub lines : ℕ
  pub log : Option View
  pub page : List ℕ

abbrev pub beginning : SessionState
beginning = record { lines = 0; log = None; page = [] }

-- one line: the text that it is answered with, and the state that it leaves
pub record Step : Type 0 where
  pub text : List ℕ
  pub state : SessionState

-- the text of the k-th line's answer
abbrev pub text_by : ℕ → ℕ → Option (List ℕ) → List ℕ
text_by k number None = refusal_text k number
text_by k number (Some text) = text

-- the k-th line, done: its answer written out
abbrev pub written : ℕ → Done → Step
written k d = record { text = text_by k d.answer.number d.answer.value; state = record { lines = k; log = d.log; page = d.page } }

-- past line 999,999 nothing is answered, and nothing changes
abbrev pub answer : SessionState → List ℕ → Step
answer s line = if nat_le 999999 s.lines then (record { text = []; state = s }) else written (s.lines + 1) (done s.log s.page (command_of line))

-- ---- lines one after the other
abbrev pub state_after : SessionState → List (List ℕ) → SessionState
state_after s [] = s
state_after s (line ∷ lines) = state_after (answer s line).state lines

-- the texts that they are answered with
abbrev pub texts : SessionState → List (List ℕ) → List (List ℕ)
texts s [] = []
texts s (line ∷ lines) = (answer s line).text ∷ texts (answer s line).state lines
