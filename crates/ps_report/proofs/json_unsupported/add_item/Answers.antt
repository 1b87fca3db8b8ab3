use Rattle.std.proofs.Common.{◌≡◌, ◌++◌, ℕ, Option, ap, arith, codes}
use Rattle.ps_writing.specs.FaultJson.{number_or_null}
use Rattle.ps_writing.proofs.Written.{◌⨾◌, adds_is}
use Rattle.ps_report.specs.UnsupportedJson.{unsupported_item}
use Rattle.ps_report.proofs.json_unsupported.add_item.Goals as goal

pub returns : goal.returns
unfolding unsupported_item
returns g c =
    let format : c.map.result ≡ c.args.found.now.format = grind (arith, c.map.ensures.cases) in
    adds_is c.comma.ensures c.add.ensures ⨾ c.add-2.ensures ⨾ c.add_json_text.ensures
    ⨾ c.add-3.ensures ⨾ c.add_name_or_null.ensures ⨾ c.add_number_or_null.ensures
    ⨾ c.add-4.ensures ⨾ adds_is c.as_bytes.ensures.value c.add-5.ensures
    ⨾ adds_is (ap (λ (n : Option ℕ). codes "\",\"format\":" ++ number_or_null n) format)
    c.add_number_or_null-2.ensures
    ⨾ c.add-6.ensures ⨾ c.add_json_name.ensures ⨾ c.add-7.ensures
