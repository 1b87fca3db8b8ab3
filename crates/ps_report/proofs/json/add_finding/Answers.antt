use Rattle.std.proofs.Common.{◌∙◌, ap}
use Rattle.ps_warnings.specs.Weights.{weight_word}
use Rattle.ps_writing.specs.JsonStrings.{json_text}
use Rattle.ps_writing.proofs.Written.{◌⨾◌, adds_is}
use Rattle.ps_report.specs.ReportJson.{finding_json}
use Rattle.ps_report.proofs.json.add_finding.Goals as goal

pub returns : goal.returns
unfolding finding_json
returns g c =
    let weight = c.as_bytes.ensures.value ∙ (c.word.ensures ∙ ap weight_word c.weight.ensures) in
    c.add.ensures ⨾ adds_is weight c.add-2.ensures
    ⨾ c.add-3.ensures ⨾ c.add_json_text.ensures
    ⨾ c.add-4.ensures ⨾ c.add_name_or_null.ensures ⨾ c.add_number_or_null.ensures
    ⨾ c.add-5.ensures ⨾ adds_is (ap json_text c.as_str.ensures.value) c.add_json_text-2.ensures
    ⨾ c.add-6.ensures
