use Rattle.std.specs.Prelude.{◌==◌}
use Rattle.ps_linkinfo.proofs.Vocabulary.{List, [], ◌∷◌, ◌≡◌, ◌∙◌, sym, true, length, numbered_records, refl, Record}
use Rattle.ps_linkinfo.proofs.information.LinkInformation.is_empty.Goals as goal

none : (rs : List Record) → numbered_records 0 rs ≡ [] → true ≡ (length rs == 0)
none [] h = refl
none (r ∷ rs) h = cc

pub returns-in-None : goal.returns-in-None
returns-in-None c = none c.args.self.now (sym c.records.ensures ∙ c.in-None.ensures.steps.0)
