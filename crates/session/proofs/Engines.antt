-- Lines that differ in their engines alone are answered alike: what a line does makes no use of the engine's name.
use Rattle.std.proofs.Common.{◌≡◌, ℕ, ◌+◌, List, [], ◌∷◌, Option, Some, None, option_map, nat_le, ◌==◌, if◌then◌else◌, refl, sym, ap, ap₂, ◌∙◌}
use Rattle.ublock.specs.Variants.{numbered}
use Rattle.ublock.specs.declared.variant.Variant.{Variant}
use Rattle.beatlog.specs.Calls.{View}
use Rattle.protocol.specs.Lines.{command_of}
use Rattle.protocol.specs.Replies.{number_text}
use Rattle.protocol.specs.declared.command.Command.{Command}
use Rattle.protocol.specs.declared.command.Command.TheVariants.{New, Log}
use Rattle.protocol.specs.declared.command.NewLog.{NewLog}
use Rattle.session.specs.Session.{SessionState, Done, refused, accepted, new_log, new_page, new_number, begun, answer, written, texts, state_after, done}
use Rattle.session.specs.Transcripts.{on_plain, without_engine, but_engines, EnginesAlike}

new_alike : (o : Option Variant) (n : NewLog) → (new_log o (on_plain n) ≡ new_log o n) × (new_page o (on_plain n) ≡ new_page o n)
new_alike None n = (refl, refl)
new_alike (Some v) n = (refl, refl)

begun_alike : (page : List ℕ) (n : NewLog) → begun page (on_plain n) ≡ begun page n
begun_alike page n =
    let number = new_number n in
    let new = new_alike (numbered n.variant) n in
    ap₂ (λ log after. if number == 0 then accepted (number_text 0) log after else refused None page number) new.0 new.1

done_alike : (log : Option View) (page : List ℕ) (c : Option Command) → done log page (option_map without_engine c) ≡ done log page c
done_alike log page None = refl
done_alike None page (Some (New n)) = begun_alike page n
done_alike None page (Some (Log command)) = refl
done_alike (Some v) page (Some (New n)) = refl
done_alike (Some v) page (Some (Log command)) = refl

answer_alike : (s : SessionState) (line other : List ℕ) → option_map without_engine (command_of line) ≡ option_map without_engine (command_of other) → answer s line ≡ answer s other
answer_alike s line other e =
    let same : done s.log s.page (command_of line) ≡ done s.log s.page (command_of other) =
    sym (done_alike s.log s.page (command_of line)) ∙ ap (done s.log s.page) e ∙ done_alike s.log s.page (command_of other) in
    ap (λ (d : Done). if nat_le 999999 s.lines then (record { text = []; state = s }) else written (s.lines + 1) d) same

lines_alike : (s : SessionState) (lines others : List (List ℕ)) → but_engines lines ≡ but_engines others
    → (texts s lines ≡ texts s others) × (state_after s lines ≡ state_after s others)
lines_alike s [] [] e = (refl, refl)
lines_alike s [] (other ∷ others) e = cc
lines_alike s (line ∷ lines) [] e = cc
lines_alike s (line ∷ lines) (other ∷ others) e =
    let same = answer_alike s line other (cc) in
    let rest = lines_alike (answer s other).state lines others (cc) in (
      ap₂ (λ x y. x ∷ y) (ap (λ a. a.text) same) (ap (λ a. texts a.state lines) same ∙ rest.0),
      ap (λ a. state_after a.state lines) same ∙ rest.1,
    )

pub engines_alike : EnginesAlike
engines_alike = record { texts_alike = λ s lines others e. (lines_alike s lines others e).0; states_alike = λ s lines others e. (lines_alike s lines others e).1 }
