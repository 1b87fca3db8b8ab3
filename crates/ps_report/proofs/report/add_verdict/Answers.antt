use Rattle.std.proofs.Common.{string_bytes}
use Rattle.std.proofs.lemmas.Result.{on_ok_weaker}
use Rattle.ps_report.proofs.SegmentTexts.{adds_verdict}
use Rattle.ps_report.proofs.report.add_verdict.Goals as goal

pub returns-clause-lines : goal.returns-clause-lines
returns-clause-lines g c = on_ok_weaker c.push_verdict.result
    (λ is. (adds_verdict (string_bytes c.args.text.now) (string_bytes c.push_verdict.new.text)
    c.args.verdict is).1) c.push_verdict.ensures

pub returns-clause-warnings : goal.returns-clause-warnings
returns-clause-warnings g c = on_ok_weaker c.push_verdict.result
    (λ is. (adds_verdict (string_bytes c.args.text.now) (string_bytes c.push_verdict.new.text)
    c.args.verdict is).0) c.push_verdict.ensures
