use Rattle.std.proofs.Common.{◌∙◌, ◌++◌, ◌<◌, ℕ, List, length, string_bytes, lit<, rules, sym, ap, arith}
use Rattle.std.proofs.lemmas.Bool.Decides.{nat_tests}
use Rattle.std.proofs.lemmas.List.{append_assoc}
use Rattle.std.proofs.lemmas.Result.{on_ok_weaker}
use Rattle.std.proofs.lemmas.Str.Pattern.{split_once_first}
use Rattle.ps_explained.proofs.OneLine.{split_line, unsplit_line}
use Rattle.ps_report.specs.FindingLines.{part_line, part_lines}
use Rattle.ps_report.proofs.FindingLines.{cut_at, lines_done, part_lines_alone, part_lines_cut}
use Rattle.ps_report.proofs.lines.add_lines.Goals as goal

pub loop-line-preserved : goal.loop-line-preserved
loop-line-preserved g c =
    let part = c.args.part in
    let left = c.loop-line.left.now in
    let line = c.in-Some.line.now in
    let rest = c.in-Some.rest.now in
    let before = string_bytes c.loop-line.text in
    let found = split_once_first 10 left c.split_once.result c.split_once.ensures.cases (lit< tt) in
    let one = split_line left c.split_once.result
    (c.in-Some.line, c.in-Some.rest) found c.in-Some.is in
    let cut = cut_at left c.split_once.result (c.in-Some.line, c.in-Some.rest) found c.in-Some.is in
    let lines = ap (part_lines part) cut ∙ part_lines_cut part line rest one in (
      search rules,
      ap (λ (t : List ℕ). t ++ part_lines part rest) c.in_ok-add_line.ensures
          ∙ (append_assoc before (part_line part line) (part_lines part rest)
          ∙ (ap (λ (t : List ℕ). before ++ t) (sym lines) ∙ c.loop-line.invariant.1)),
    )

pub returns-then-is_empty : goal.returns-then-is_empty
returns-then-is_empty g c = lines_done c.args.part c.loop-line.left.now (string_bytes c.loop-line.text)
    (string_bytes c.args.text.now ++ part_lines c.args.part c.args.lines.now) (grind (arith, nat_tests))
    c.loop-line.invariant.1

pub returns : goal.returns
returns g c =
    let left = c.loop-line.left.now in
    let before = string_bytes c.loop-line.text in
    let found = split_once_first 10 left c.split_once.result c.split_once.ensures.cases (lit< tt) in
    let one = unsplit_line left c.split_once.result found c.in_default.not-Some in
    let some : 0 < length left = grind (arith, nat_tests) in
    on_ok_weaker c.add_line-2.result
    (λ is. is ∙ (ap (λ (t : List ℕ). before ++ t) (sym (part_lines_alone c.args.part left some one))
    ∙ c.loop-line.invariant.1)) c.add_line-2.ensures
