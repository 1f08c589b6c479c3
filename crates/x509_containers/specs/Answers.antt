-- What the program answers beside its output.
use Rattle.std.specs.Prelude.{ℕ, List, [], codes}
use Rattle.der_engine.specs.Lines.{refusal_line}
use Rattle.der_engine.specs.declared.outcome.Mode.{Mode}
use Rattle.der_engine.specs.declared.outcome.Mode.TheVariants.{Check, Rewrite}
use Rattle.der_engine.specs.declared.outcome.Outcome.{Outcome}
use Rattle.der_engine.specs.declared.outcome.Outcome.TheVariants.{Normal, Loose, Written, Refused, ReadFailed, WriteFailed}
use Rattle.x509_containers.specs.declared.program.answers.Answer.{Answer}
use Rattle.x509_containers.specs.declared.program.answers.Answer.TheVariants.{Ran, WrongWords, NoMemory}

abbrev pub outcome_status : Outcome → ℕ
outcome_status Normal = 0
outcome_status Written = 0
outcome_status Loose = 3
outcome_status (Refused e) = 1
outcome_status ReadFailed = 1
outcome_status WriteFailed = 1

-- the exit status
abbrev pub status_of : Answer → ℕ
status_of (Ran mode kind outcome) = outcome_status outcome
status_of WrongWords = 2
status_of NoMemory = 1

abbrev pub outcome_complaint : Mode → Outcome → List ℕ
outcome_complaint mode ReadFailed = codes "derbox: read failed\n"
outcome_complaint mode WriteFailed = codes "derbox: write failed\n"
outcome_complaint Rewrite (Refused e) = refusal_line Check e
outcome_complaint Check (Refused e) = []
outcome_complaint mode Normal = []
outcome_complaint mode Loose = []
outcome_complaint mode Written = []

-- what is said on standard error
abbrev pub complaint_of : Answer → List ℕ
complaint_of (Ran mode kind outcome) = outcome_complaint mode outcome
complaint_of WrongWords = codes "usage: derbox check|rewrite KIND\n"
complaint_of NoMemory = codes "refused: no memory\n"
