-- What the answer of a link says of its linked file.
use Rattle.std.proofs.Common.{◌≡◌, ℕ, List, ◌∙◌, ap, arith, length}
use Rattle.ps_c_texts.specs.Calls.{Links, LinkNeeds}
use Rattle.ps_c_link.proofs.Summaries.{is_exact}
use Rattle.ps_c_link.specs.Answers.{small_answer}
use Rattle.ps_c_link.specs.Dones.{IsLinked}
use Rattle.ps_c_link.specs.Libraries.{split}
use Rattle.ps_c_link.specs.Outcomes.{done_answer, not_done_answer, not_done_of}
use Rattle.ps_c_link.specs.WhyUnmade.{WhyCallFails, WhyLinkUnput}
use Rattle.ps_c_link.specs.declared.answer.Answer.{Answer}
use Rattle.ps_c_link.specs.declared.answer.TheConstants.{DONE, TOO_SMALL}
use Rattle.ps_c_link.specs.declared.outcome.CallError.{CallError}
use Rattle.ps_c_link.specs.declared.outcome.CallError.TheVariants as call
use Rattle.ps_c_link.specs.declared.outcome.Done.{Done}
use Rattle.ps_c_link.specs.declared.outcome.Done.TheVariants.{Linked, Report, Text}
use Rattle.ps_linkfile.specs.declared.unmade.Unmade.TheVariants.{Refused, Memory}
use Rattle.ps_c_link.specs.declared.outcome.Unput.TheVariants as unput

-- the answer of a link that was done
pub links : (host : List ℕ) (libs : List (List ℕ)) (old new : List ℕ) (a : Answer)
    (done : Done) → a ≡ done_answer done → IsLinked host libs old new done
    → Links host libs old new a
links host libs old new a done e h = record {
  file = h.0;
  linked = h.1.0;
  begins = h.1.2.0;
  told = e ∙ (ap done_answer h.1.2.1 ∙ is_exact host libs h.0 h.1.0 h.1.1 (length h.0));
}

-- the answer of a link that was not done
pub not_linked : (a : Answer) (error : CallError) → a ≡ not_done_answer (not_done_of error)
    → a.status ≡ DONE → ⊥
not_linked a call.WrongLengths e is = omega (arith, ap (λ (b : Answer). b.status) e, is)
not_linked a (call.Unput (unput.Unmade (Refused r))) e is =
    omega (arith, ap (λ (b : Answer). b.status) e, is)
not_linked a (call.Unput (unput.Unmade Memory)) e is =
    omega (arith, ap (λ (b : Answer). b.status) e, is)
not_linked a (call.Unput (unput.TooSmall t)) e is =
    omega (arith, ap (λ (b : Answer). b.status) e, is)

-- there was room
pub not_small : (a : Answer) (done : Done) → a ≡ done_answer done → a.status ≡ TOO_SMALL → ⊥
not_small a (Linked summary size) e is = omega (arith, ap (λ (b : Answer). b.status) e, is)
not_small a (Text size) e is = omega (arith, ap (λ (b : Answer). b.status) e, is)
not_small a (Report verdict warnings size) e is =
    omega (arith, ap (λ (b : Answer). b.status) e, is)

-- there was too little room
pub link_needs : (host libs lengths room : List ℕ) (a : Answer) (error : CallError)
    → a ≡ not_done_answer (not_done_of error)
    → WhyCallFails (WhyLinkUnput room host) libs lengths error
    → a.status ≡ TOO_SMALL → LinkNeeds host (split libs lengths) room a
link_needs host libs lengths room a call.WrongLengths e h is =
    absurd (omega (arith, ap (λ (b : Answer). b.status) e, is))
link_needs host libs lengths room a (call.Unput (unput.Unmade (Refused r))) e h is =
    absurd (omega (arith, ap (λ (b : Answer). b.status) e, is))
link_needs host libs lengths room a (call.Unput (unput.Unmade Memory)) e h is =
    absurd (omega (arith, ap (λ (b : Answer). b.status) e, is))
link_needs host libs lengths room a (call.Unput (unput.TooSmall t)) e h is =
    let above = h.1.1.1.1 in
    record {
      file = h.1.1.0;
      linked = h.1.1.1.0;
      less = omega (arith, above.0, above.1);
      told = e ∙ ap small_answer above.0;
    }
