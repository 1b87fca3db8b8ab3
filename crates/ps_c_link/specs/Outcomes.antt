-- The answer of a call, by what becomes of it.
use Rattle.std.specs.Prelude.{ℕ, Result, Ok, Err}
use Rattle.ps_c_link.specs.Answers.{bare, capped, capped_answer, text_answer, refusal, small_answer}
use Rattle.ps_c_link.specs.declared.answer.TheConstants.{DONE, MISUSE, NO_MEMORY, WRONG_NAMES}
use Rattle.ps_c_link.specs.declared.answer.Answer.{Answer}
use Rattle.ps_c_link.specs.declared.outcome.CallError.{CallError}
use Rattle.ps_c_link.specs.declared.outcome.CallError.TheVariants as call
use Rattle.ps_c_link.specs.declared.outcome.Done.{Done}
use Rattle.ps_c_link.specs.declared.outcome.Done.TheVariants.{Linked, Report, Text}
use Rattle.ps_c_link.specs.declared.outcome.NotDone.{NotDone}
use Rattle.ps_c_link.specs.declared.outcome.NotDone.TheVariants as not_done
use Rattle.ps_linkfile.specs.declared.unmade.Unmade.TheVariants.{Refused, Memory}
use Rattle.ps_c_link.specs.declared.outcome.Unput.{Unput}
use Rattle.ps_c_link.specs.declared.outcome.Unput.TheVariants as unput
use Rattle.ps_c_link.specs.declared.outcome.Verdict.{Verdict}
use Rattle.ps_c_link.specs.declared.outcome.Verdict.TheVariants as verdict
use Rattle.ps_c_link.specs.declared.outcome.WrongInputs.{WrongInputs}
use Rattle.ps_c_link.specs.declared.outcome.WrongInputs.TheVariants as wrong

-- the error of a call with libraries as one of any call
abbrev pub not_done_of : CallError → NotDone
not_done_of call.WrongLengths = not_done.Wrong wrong.Lengths
not_done_of (call.Unput why) = not_done.Unput why

-- what a link of files with this verdict answers, of which nothing is written
abbrev pub verdict_answer : Verdict → Answer
verdict_answer (verdict.Links summary) = capped_answer summary 0
verdict_answer (verdict.Refused r) = refusal r.fault r.name

-- a report of so many bytes and warnings was written, on files with this verdict
abbrev pub report_answer : Verdict → ℕ → ℕ → Answer
report_answer verdict warnings size = record (verdict_answer verdict) {
  status = DONE;
  warnings = capped warnings;
  size = size;
}

-- the answer of a call that was done
abbrev pub done_answer : Done → Answer
done_answer (Linked summary size) = capped_answer summary size
done_answer (Text size) = text_answer size
done_answer (Report verdict warnings size) = report_answer verdict warnings size

-- the status of wrong inputs
abbrev pub wrong_status : WrongInputs → ℕ
wrong_status wrong.Lengths = MISUSE
wrong_status wrong.Names = WRONG_NAMES

-- the answer where nothing was put in the room
abbrev pub unput_answer : Unput → Answer
unput_answer (unput.Unmade (Refused r)) = refusal r.fault r.name
unput_answer (unput.Unmade Memory) = bare NO_MEMORY
unput_answer (unput.TooSmall t) = small_answer t.size

-- the answer of a call that was not done
abbrev pub not_done_answer : NotDone → Answer
not_done_answer (not_done.Wrong why) = bare (wrong_status why)
not_done_answer (not_done.Unput why) = unput_answer why

-- the answer of a call
abbrev pub answer_of : Result Done NotDone → Answer
answer_of (Ok done) = done_answer done
answer_of (Err why) = not_done_answer why
