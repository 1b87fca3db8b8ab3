use Rattle.std.proofs.Common.{◌∙◌, ◌<◌, ◌≤◌, ◌^◌, ℕ, List, length, ap, arith}
use Rattle.ps_words.specs.declared.order.Order.{Order}
use Rattle.ps_linkinfo.specs.Records.{reading, used_by}
use Rattle.ps_linkinfo.specs.declared.record.LinkRecord.{LinkRecord as Record}
use Rattle.ps_linkinfo.proofs.Spelled.{spelled_fit}
use Rattle.ps_linkinfo.proofs.Stands.{reading_spelled}
use Rattle.ps_warnings.proofs.findings.extents.information_len.Goals as goal

-- records are in the bytes that they are read of
reading_fits : (order : Order) (x : List ℕ) → used_by (reading order x).0 ≤ length x
reading_fits order x = spelled_fit order x (reading order x).0 (reading_spelled order x)

pub returns-clause-used : goal.returns-clause-used
returns-clause-used c =
    let same = ap (λ (rs : List Record). used_by rs) c.up_to_fault-records.ensures in
    let fits = reading_fits c.args.order c.args.bytes.now in
    let short : used_by c.up_to_fault-records.result < 2 ^ 64 = omega (arith, same, fits) in
    c.length_of.ensures short ∙ same

pub returns-clause-fits : goal.returns-clause-fits
returns-clause-fits c =
    let same = ap (λ (rs : List Record). used_by rs) c.up_to_fault-records.ensures in
    let fits = reading_fits c.args.order c.args.bytes.now in
    let short : used_by c.up_to_fault-records.result < 2 ^ 64 = omega (arith, same, fits) in
    let is = c.length_of.ensures short in
    omega (arith, same, fits, is)
