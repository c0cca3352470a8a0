-- Worked examples: lines beside what they say, and answers as they are written.
use Rattle.std.specs.Prelude.{◌≡◌, ℕ, List, [], ◌∷◌, ◌++◌, map, replicate, Option, Some, None, codes}
use Rattle.std.specs.Str.{byte}
use Rattle.protocol.specs.Lines.{command_of}
use Rattle.protocol.specs.Replies.{number_text, block_text, refusal_text}
use Rattle.protocol.specs.declared.command.Command.{Command}
use Rattle.protocol.specs.declared.command.Command.TheVariants.{New, Log}
use Rattle.protocol.specs.declared.command.LogCommand.TheVariants.{Append, Amend, Cut, Read, Show}
use Rattle.protocol.specs.declared.command.EngineName.TheVariants.{Plain, Packed}
use Rattle.protocol.specs.declared.command.ModeName.TheVariants.{Ecb, Cbc}

pub record LineExample : Type 0 where
  pub line : List ℕ
  pub says : Option Command

-- the last has 200 bytes
abbrev pub lines : List LineExample
lines =
    record { line = codes "N\t1\tP\tC\t2\t0123\tcdef"; says = Some (New (record { variant = 1; engine = Plain; mode = Cbc; blocks = 2; key = 0x01 ∷ 0x23 ∷ []; start = 0xcd ∷ 0xef ∷ [] })) }
    ∷ record { line = codes "N\t3\tK\tE\t02048\t\t"; says = Some (New (record { variant = 3; engine = Packed; mode = Ecb; blocks = 2048; key = []; start = [] })) }
    ∷ record { line = codes "A\t0a9f"; says = Some (Log (Append (0x0a ∷ 0x9f ∷ []))) }
    ∷ record { line = codes "A\t"; says = Some (Log (Append [])) }
    ∷ record { line = codes "M\t7\tff"; says = Some (Log (Amend 7 (0xff ∷ []))) }
    ∷ record { line = codes "C\t99999"; says = Some (Log (Cut 99999)) }
    ∷ record { line = codes "R\t0"; says = Some (Log (Read 0)) }
    ∷ record { line = codes "S\t12345"; says = Some (Log (Show 12345)) }
    ∷ record { line = codes "A\t" ++ replicate 198 (byte "0"); says = Some (Log (Append (replicate 99 0))) }
    ∷ []

-- lines of the wrong shape: the last has 201 bytes
abbrev pub misshapen : List (List ℕ)
misshapen =
    codes ""
    ∷ codes "A"
    ∷ codes "X\t1"
    ∷ codes "r\t1"
    ∷ codes "RR\t1"
    ∷ codes "R 1"
    ∷ codes "R\t"
    ∷ codes "R\t100000"
    ∷ codes "R\t-1"
    ∷ codes "R\t1a"
    ∷ codes "R\t1\r"
    ∷ codes "R\t1\t"
    ∷ codes "M\t7"
    ∷ codes "M\t7\tff\t"
    ∷ codes "A\tFF"
    ∷ codes "A\tfg"
    ∷ codes "A\tf"
    ∷ codes "N\t1\tP\tC\t2\t0123"
    ∷ codes "N\t1\tP\tC\t2\t0123\tcdef\t"
    ∷ codes "N\t1\tp\tC\t2\t0123\tcdef"
    ∷ codes "N\t1\tE\tC\t2\t0123\tcdef"
    ∷ codes "N\t1\tP\tP\t2\t0123\tcdef"
    ∷ codes "N\t1\tPK\tC\t2\t0123\tcdef"
    ∷ codes "N\t1\tP\tC\t\t0123\tcdef"
    ∷ (codes "N\t1\tP\tC\t2\t\t" ++ replicate 190 (byte "0"))
    ∷ []

pub record LinesAsWorked : Type 0 where
  pub shaped : map (λ (e : LineExample). command_of e.line) lines ≡ map (λ (e : LineExample). e.says) lines
  pub misshapen : map command_of misshapen ≡ map (λ line. None) misshapen

pub record TextExample : Type 0 where
  pub given : List ℕ
  pub text : List ℕ

abbrev pub answers : List TextExample
answers =
    record { given = number_text 0; text = codes "ok\t0\n" }
    ∷ record { given = number_text 2048; text = codes "ok\t2048\n" }
    ∷ record { given = block_text (0x00 ∷ 0x9a ∷ 0xbf ∷ []); text = codes "ok\t009abf\n" }
    ∷ record { given = refusal_text 1 1; text = codes "no\t1\tkey\t1\n" }
    ∷ record { given = refusal_text 12 2; text = codes "no\t12\tkey\t2\n" }
    ∷ record { given = refusal_text 3 3; text = codes "no\t3\tlog\t3\n" }
    ∷ record { given = refusal_text 40 9; text = codes "no\t40\tlog\t9\n" }
    ∷ record { given = refusal_text 5 10; text = codes "no\t5\tline\t10\n" }
    ∷ record { given = refusal_text 999999 11; text = codes "no\t999999\tline\t11\n" }
    ∷ []

abbrev pub TextsAsWorked : Type 0
TextsAsWorked = map (λ (e : TextExample). e.given) answers ≡ map (λ (e : TextExample). e.text) answers
