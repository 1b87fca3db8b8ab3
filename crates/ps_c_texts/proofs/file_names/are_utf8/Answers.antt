use Rattle.std.proofs.Common.{arith, subst, sym, ◌∙◌}
use Rattle.std.proofs.lemmas.Bool.{false≢true}
use Rattle.std.specs.Prelude.{IsUtf8}
use Rattle.std.proofs.lemmas.Grind.{common_steps}
use Rattle.ps_c_texts.proofs.FileNames.{next_name, wrong_name}
use Rattle.ps_c_texts.proofs.file_names.are_utf8.Goals as goal

pub returns-then-not-is_utf8 : goal.returns-then-not-is_utf8
returns-then-not-is_utf8 c = (
  λ is. absurd (false≢true is),
  λ all. absurd (wrong_name c.args.names.now c.loop-length.rest.now c.args.lengths.now
      c.loop-length.length-index c.loop-length.invariant.0 c.loop-length-test.true
      (λ first. false≢true (sym c.if-not-is_utf8.true
      ∙ c.is_utf8.ensures.1 (subst IsUtf8 (sym c.split_at.ensures.front) first))) all),
)

pub loop-length-preserved : goal.loop-length-preserved
loop-length-preserved c = (
  next_name c.args.names.now c.loop-length.rest.now c.args.lengths.now
      c.loop-length.length-index c.loop-length.invariant.0 c.split_at.result.1.now
      c.loop-length-test.true c.split_at.ensures.back
      (subst IsUtf8 c.split_at.ensures.front (c.is_utf8.ensures.0 c.if-not-is_utf8.false)),
  grind (arith, common_steps),
)
