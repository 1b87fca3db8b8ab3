use Rattle.std.proofs.Common.{◌≡◌, ◌∙◌, ◌++◌, ◌==◌, ℕ, List, append-nil, ap, arith, false, length, string_bytes, sym, true}
use Rattle.std.proofs.lemmas.Bool.Decides.{nat_tests}
use Rattle.std.proofs.lemmas.Result.{on_ok_weaker}
use Rattle.ps_report.proofs.LastLine.{no_line, some_line}
use Rattle.ps_report.proofs.last_line.add_line_of.Goals as goal

pub returns-then-is_empty : goal.returns-then-is_empty
returns-then-is_empty g c =
    let old = string_bytes c.args.text.now in
    let none : (length c.args.paths.now == 0) ≡ true = grind (arith, nat_tests) in
    sym (ap (λ (t : List ℕ). old ++ t) (no_line c.args.paths.now none) ∙ append-nil old)

pub returns : goal.returns
returns g c =
    let old = string_bytes c.args.text.now in
    let some : (length c.args.paths.now == 0) ≡ false = grind (arith, nat_tests) in
    on_ok_weaker c.push_line.result
    (λ is. is ∙ ap (λ (t : List ℕ). old ++ t) (some_line c.args.paths.now _ some
    c.first_line.ensures)) c.push_line.ensures
