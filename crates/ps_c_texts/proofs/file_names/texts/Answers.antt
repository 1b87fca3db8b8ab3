use Rattle.std.proofs.Common.{ℕ, List, [], Bor, rules}
use Rattle.std.specs.Prelude.{IsUtf8}
use Rattle.std.proofs.lemmas.List.Elements.{All-more}
use Rattle.ps_c_texts.proofs.FileNames.{all_texts, no_text, one_more}
use Rattle.ps_c_texts.proofs.file_names.texts.Goals as goal

-- what a read past the end would give
no_name : Bor (List ℕ)
no_name = record { ref_ptr = (0, 0); now = [] }

pub returns-in_default-clause-err : goal.returns-in_default-clause-err
unfolding no_name
returns-in_default-clause-err g c = no_text c.args.names.now c.loop-name.name-index no_name
    c.loop-name-test.true c.in_default.ensures.cases.0

pub loop-name-preserved : goal.loop-name-preserved
unfolding no_name
loop-name-preserved g c = (
  one_more c.args.names.now c.loop-name.texts.items c.push.new.self.items c.loop-name.name-index
      no_name c.in-Ok.text c.loop-name-test.true c.loop-name.invariant.0 c.in-Ok.ensures.cases.0
      (search rules),
  All-more (λ (name : Bor (List ℕ)). IsUtf8 name.now) c.args.names.now
      c.loop-name.name-index no_name c.loop-name-test.true c.loop-name.invariant.1
      c.in-Ok.ensures.cases.1,
)

pub returns-clause-utf8 : goal.returns-clause-utf8
returns-clause-utf8 g c = all_texts c.args.names.now c.loop-name.name-index c.loop-name-test.false
    c.loop-name.invariant.1
