use Rattle.std.proofs.Common.{◌∙◌, ◌+◌, ◌++◌, Bor, ℕ, List, append-nil, ap, arith, drop, map, string_bytes, sym}
use Rattle.std.proofs.lemmas.List.{drop_all}
use Rattle.ps_resolve.specs.Sources.{contents}
use Rattle.ps_report.specs.LastLine.{asked_paths, asked_words}
use Rattle.ps_report.specs.Reported.{said}
use Rattle.ps_report.proofs.LastLine.{paths_left}
use Rattle.ps_report.proofs.last_line.paths_asked_for.Goals as goal

pub loop-path-init : goal.loop-path-init
loop-path-init g c =
    let more = asked_paths (map said c.args.findings.now) (contents c.args.files.now.paths.now) in
    ap (λ (t : List ℕ). t ++ more)
    (c.in_ok-add_asked.ensures ∙ ap (λ (t : List ℕ). t ++ asked_words (map said c.args.findings.now)
    c.args.files.now.host_path.now) c.new-text.ensures.bytes)

pub loop-path-preserved : goal.loop-path-preserved
loop-path-preserved g c =
    let found = map said c.args.findings.now in
    let i = c.loop-path.path-index in
    let more = asked_paths found (contents (drop (i + 1) c.args.files.now.paths.now)) in
    ap (λ (t : List ℕ). t ++ more) c.in_ok-add_asked-2.ensures
    ∙ (sym (paths_left found c.args.files.now.paths.now i _ (string_bytes c.loop-path.text)
    c.loop-path-test.true) ∙ c.loop-path.invariant)

pub returns : goal.returns
returns g c =
    let found = map said c.args.findings.now in
    let over = drop_all c.loop-path.path-index c.args.files.now.paths.now
    (omega (arith, c.loop-path-test.false)) in
    sym (append-nil (string_bytes c.loop-path.text))
    ∙ (sym (ap
    (λ (left : List (Bor (List ℕ))). string_bytes c.loop-path.text
    ++ asked_paths found (contents left)) over)
    ∙ c.loop-path.invariant)
