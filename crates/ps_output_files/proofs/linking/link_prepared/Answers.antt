use Rattle.std.proofs.Common.{◌≡◌, ◌∙◌, Bor, List, ap, inl, inr, refl, rules, ℕ}
use Rattle.std.specs.Prelude.{option_map}
use Rattle.std.proofs.lemmas.Result.{err_from_is_err_and}
use Rattle.ps_linkfile.specs.Writing.{summary_in}
use Rattle.ps_output_files.specs.Links.{IsPlaceOf}
use Rattle.ps_output_files.specs.SummaryLine.{summary_text}
use Rattle.ps_output_files.proofs.Logs.{adds_all}
use Rattle.ps_output_files.proofs.Outcomes.{same_or_told}
use Rattle.ps_output_files.proofs.Unwritten.{fails_at_map}
use Rattle.ps_output_files.proofs.Written.{found_apart}
use Rattle.ps_output_files.proofs.linking.link_prepared.Goals as goal

pub returns-clause-written : goal.returns-clause-written
returns-clause-written g c = adds_all _ _ _ _ _ _ _ _ refl
    (rw c.linked-2.ensures at c.in_ok-write_linked.ensures.file) c.in_ok-write_map.ensures.file

pub returns-clause-apart : goal.returns-clause-apart
returns-clause-apart g c = found_apart g.R.CodeFiles.world _ _ _ _ c.write_linked.new.rt
    (rw c.linked-2.ensures at c.in_ok-write_linked.ensures.file) c.in_ok-write_map.ensures.apart

pub returns-clause-printed : goal.returns-clause-printed
returns-clause-printed g c =
    let text : c.as_bytes.result.now ≡ summary_text c.args.asked.now.options.form c.summary.result
    = search rules in
    let same = c.summary.ensures.value ∙ ap summary_in c.linked.ensures in (
      c.place_of-place.result,
      c.place_of-place.ensures,
      rw (text ∙ ap (summary_text c.args.asked.now.options.form) same)
          at c.in_ok-print_at.ensures.printed,
    )

pub returns-clause-silent : goal.returns-clause-silent
returns-clause-silent g c =
    same_or_told (IsPlaceOf (g.R.CodeFiles.world c.args.rt.now) c.args.asked.now)
    c.place_of-place.result c.place_of-place.ensures c.in_ok-print_at.ensures.silent

pub returns-in_err-write_map-clause-left : goal.returns-in_err-write_map-clause-left
returns-in_err-write_map-clause-left g c =
    let told = err_from_is_err_and c.from_residual-in_err-write_map.result
    c.from_residual-in_err-write_map.ensures.1 in
    let part = c.in_err-write_map.ensures.part in
    rw (told.1, told.2, part.2) (inr (
      ap (option_map (λ (file : Bor (List ℕ)). file.now)) part.1,
      fails_at_map _ (g.R.CodeFiles.world c.args.rt.now)
          (g.R.CodeFiles.world c.write_linked.new.rt) (g.R.CodeFiles.world c.write_map.new.rt) _ _ _
          _ refl (rw c.linked-2.ensures at c.in_ok-write_linked.ensures.file) part.3,
    ))

pub returns-in_err-write_linked-clause-left : goal.returns-in_err-write_linked-clause-left
returns-in_err-write_linked-clause-left g c =
    let told = err_from_is_err_and c.from_residual-in_err-write_linked.result
    c.from_residual-in_err-write_linked.ensures.1 in
    rw (told.1, told.2, c.in_err-write_linked.ensures.err)
    (inl (refl, rw c.linked-2.ensures at c.in_err-write_linked.ensures.part))

pub returns-in_err-print_at-clause-left : goal.returns-in_err-print_at-clause-left
returns-in_err-print_at-clause-left g c =
    let told = err_from_is_err_and c.from_residual-in_err-print_at.result
    c.from_residual-in_err-print_at.ensures.1 in
    rw (told.1, told.2) (adds_all _ _ _ _ _ _ _ _ refl
    (rw c.linked-2.ensures at c.in_ok-write_linked.ensures.file) c.in_ok-write_map.ensures.file)

pub returns-in_err-print_at-clause-prefix : goal.returns-in_err-print_at-clause-prefix
returns-in_err-print_at-clause-prefix g c =
    let told = err_from_is_err_and c.from_residual-in_err-print_at.result
    c.from_residual-in_err-print_at.ensures.1 in
    let text : c.as_bytes.result.now ≡ summary_text c.args.asked.now.options.form c.summary.result
    = search rules in
    let same = c.summary.ensures.value ∙ ap summary_in c.linked.ensures in
    rw told.1 (λ _. rw (text ∙ ap (summary_text c.args.asked.now.options.form) same)
    at c.in_err-print_at.ensures.prefix)

pub returns-in_err-print_at-clause-placed : goal.returns-in_err-print_at-clause-placed
returns-in_err-print_at-clause-placed g c =
    let told = err_from_is_err_and c.from_residual-in_err-print_at.result
    c.from_residual-in_err-print_at.ensures.1 in
    rw told.1 (λ _. rw c.in_err-print_at.ensures.placed at c.place_of-place.ensures)
