use Rattle.std.proofs.Common.{◌∙◌, ◌&&◌, Bool, sym, ap}
use Rattle.std.specs.List.{list_any}
use Rattle.ps_codefile.specs.Dictionary.{slots}
use Rattle.ps_filetype.specs.CodeTypes.{has_versions, is_used}
use Rattle.ps_filetype.proofs.release.has_versions.Goals as goal

pub returns-then-are_of_version : goal.returns-then-are_of_version
unfolding has_versions
returns-then-are_of_version c =
    c.has_segment.ensures
    ∙ ap (λ (b : Bool). b && list_any (is_used c.args.order c.args.block.now) slots)
    (sym c.if-are_of_version.true ∙ c.are_of_version.ensures)

pub returns-else-are_of_version : goal.returns-else-are_of_version
unfolding has_versions
returns-else-are_of_version c =
    c.if-are_of_version.false
    ∙ ap (λ (b : Bool). b && list_any (is_used c.args.order c.args.block.now) slots)
    (sym c.if-are_of_version.false ∙ c.are_of_version.ensures)
