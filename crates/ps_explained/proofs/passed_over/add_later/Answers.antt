use Rattle.std.proofs.Common.{string_bytes}
use Rattle.std.proofs.lemmas.Result.{on_ok_weaker}
use Rattle.ps_explained.proofs.FirstOf.{of_found}
use Rattle.ps_explained.proofs.OverviewTexts.{adds_later}
use Rattle.ps_explained.proofs.passed_over.add_later.Goals as goal

pub returns-in-Some : goal.returns-in-Some
returns-in-Some g c =
    let found = of_found _ _ _ _ c.later_entries.ensures c.in-Some.is in
    record {
      lines = on_ok_weaker c.push_later.result
          (adds_later c.path-path.result.now c.in-Some.index c.in-Some.more.0
          (string_bytes c.args.text.now) (string_bytes c.push_later.new.text) c.path-path.utf8)
          c.push_later.ensures;
      text = on_ok_weaker c.push_later.result (λ added. rw (found, ← c.path-path.ensures) added)
          c.push_later.ensures;
    }
