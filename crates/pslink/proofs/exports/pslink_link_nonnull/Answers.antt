use Rattle.std.proofs.Common.{◌∙◌, ap}
use Rattle.ps_c_link.specs.Outcomes.{not_done_answer}
use Rattle.pslink.proofs.Answering.{links, link_needs, not_linked, not_small}
use Rattle.pslink.proofs.exports.pslink_link_nonnull.Goals as goal
use Rattle.pslink.proofs.exports.pslink_link_nonnull.Goals.{in-Ok, in-Err}

pub returns-clause-linked : goal.returns-clause-linked
returns-clause-linked c is = elim c.match-link.branch [
  | in-Ok w ↦ links _ _ _ _ _ w.in-Ok.done (w.answer-is ∙ w.of.ensures)
      w.in-Ok.ensures.linked
  | in-Err w ↦ absurd (not_linked _ w.in-Err.error (w.answer-is ∙ (w.of-in-Err.ensures
      ∙ ap not_done_answer w.into.ensures)) is)
]

pub returns-clause-small : goal.returns-clause-small
returns-clause-small c is = elim c.match-link.branch [
  | in-Ok w ↦ absurd (not_small _ w.in-Ok.done (w.answer-is ∙ w.of.ensures) is)
  | in-Err w ↦ link_needs _ c.args.libs.now c.args.lengths.now _ _ w.in-Err.error
      (w.answer-is ∙ (w.of-in-Err.ensures ∙ ap not_done_answer w.into.ensures))
      w.in-Err.ensures.not_done is
]
