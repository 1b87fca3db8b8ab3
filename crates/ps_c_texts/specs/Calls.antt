-- What the exports leave in the caller's memory.
use Rattle.std.specs.Prelude.{◌≡◌, ℕ, ◌<◌, List, length, Option, Some, None, Result, IfErr, IfOk}
use Rattle.ps_resolve.specs.FaultNames.{fault_name}
use Rattle.ps_resolve.specs.FaultParts.{HasItsParts}
use Rattle.ps_resolve.specs.Sources.{order_of}
use Rattle.ps_words.specs.declared.fault.Fault.{Fault}
use Rattle.ps_resolve.specs.Standing.{IsFirst}
use Rattle.ps_linkfile.specs.LinkedFile.{LinkedFile, summary_of}
use Rattle.ps_texts.specs.declared.kinds.TextKind.{TextKind}
use Rattle.ps_c_link.specs.Rooms.{RoomBeginsWith}
use Rattle.ps_c_link.specs.Answers.{bare, linked_answer, small_answer, refusal}
use Rattle.ps_c_link.specs.Outcomes.{answer_of}
use Rattle.ps_c_link.specs.declared.answer.Answer.{Answer}
use Rattle.ps_c_link.specs.declared.answer.TheConstants.{MISUSE}
use Rattle.ps_c_link.specs.declared.outcome.Done.{Done}
use Rattle.ps_c_link.specs.declared.outcome.NotDone.{NotDone}
use Rattle.ps_c_texts.specs.Printed.{IsPrinted, WhyUnprinted}

-- the room begins with the linked file, and the answer has its summary and its length
pub record Links (host : List ℕ) (libs : List (List ℕ)) (old new : List ℕ)
    (answer : Answer) : Type 0 where
  pub file : List ℕ
  pub linked : LinkedFile host libs file
  pub begins : RoomBeginsWith file old new
  pub told : answer ≡ linked_answer (summary_of host libs) (length file)

-- the answer reports the first fault of all, with just the parts of its number and the name of what
-- it is about
pub record Refuses (host : List ℕ) (libs : List (List ℕ)) (answer : Answer) : Type 0 where
  pub fault : Fault
  pub first : IsFirst host libs fault
  pub parts : HasItsParts (order_of host) host libs fault
  pub told : answer ≡ refusal fault (fault_name host libs fault)

-- the linked file is longer than the room, and the answer has its length
pub record LinkNeeds (host : List ℕ) (libs : List (List ℕ)) (room : List ℕ)
    (answer : Answer) : Type 0 where
  pub file : List ℕ
  pub linked : LinkedFile host libs file
  pub less : length room < length file
  pub told : answer ≡ small_answer (length file)

-- What was answered of a call for this text, or for these names of units: an outcome of it, by
-- which the room begins with the text, or which says why it does not. Of a report the outcome has
-- what the same report says, and so the answer has it.
pub record IsTextAnswered (k : TextKind)
    (host libs lengths names name_lengths old new : List ℕ) (answer : Answer) : Type 0 where
  pub outcome : Result Done NotDone
  pub told : answer ≡ answer_of outcome
  pub printed : IfOk outcome (IsPrinted k host libs lengths names name_lengths old new)
  pub not_done : IfErr outcome (WhyUnprinted k old host libs lengths names name_lengths)

-- the answer of a call for a text that there may not be
abbrev pub IsAnswered : Option TextKind → List ℕ → List ℕ → List ℕ → List ℕ
    → List ℕ → List ℕ → List ℕ → Answer → Type 0
IsAnswered None host libs lengths names name_lengths old new answer = answer ≡ bare MISUSE
IsAnswered (Some k) host libs lengths names name_lengths old new answer =
    IsTextAnswered k host libs lengths names name_lengths old new answer
