-- What refuses a line.
use Rattle.std.specs.Prelude.{Ok, Err, Result, None, Some}
use Rattle.cipher.specs.Engines.{Answer}
use Rattle.beatlog.specs.Faults.{log_answer}
use Rattle.session.specs.declared.fault.LineFault.{LineFault}
use Rattle.session.specs.declared.fault.LineFault.TheVariants.{Log, Shape, Order}

-- 10 for a wrong shape, 11 for a new log after an accepted one, or another command before; else the log's own number
abbrev pub line_answer : {T : Type 0} → Result T LineFault → Answer T
line_answer (Ok x) = record { value = Some x; number = 0 }
line_answer (Err (Log fault)) = log_answer (Err fault)
line_answer (Err Shape) = record { value = None; number = 10 }
line_answer (Err Order) = record { value = None; number = 11 }
