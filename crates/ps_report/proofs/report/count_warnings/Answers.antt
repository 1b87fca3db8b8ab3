use Rattle.std.proofs.Common.{◌≡◌, ◌∙◌, ◌+◌, ap, arith, map, sym, take}
use mir.Val.{bool_byte}
use Rattle.std.specs.Prelude.{ℕ}
use Rattle.ps_report.specs.Reported.{said, warning_count}
use Rattle.ps_report.proofs.Findings.{byte_few, counted_after}
use Rattle.ps_report.proofs.report.count_warnings.Goals as goal

pub loop-finding-preserved : goal.loop-finding-preserved
loop-finding-preserved g c =
    let more : c.from-warnings.result ≡ bool_byte c.is_certain.result = c.from-warnings.ensures in
    record {
      count = ap (λ (n : ℕ). n + c.from-warnings.result) c.loop-finding.invariant.count
          ∙ (ap (λ (n : ℕ). warning_count (map said (take c.loop-finding.finding-index
          c.args.findings.now)) + n) (more ∙ ap bool_byte c.is_certain.ensures)
          ∙ sym (counted_after c.args.findings.now c.loop-finding.finding-index
          c.finding-item.result c.loop-finding-test.true c.finding-item.is));
      few = omega (arith, c.loop-finding.invariant.few, more, byte_few c.is_certain.result);
    }
