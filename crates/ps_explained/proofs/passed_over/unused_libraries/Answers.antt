use Rattle.std.proofs.Common.{◌≡◌, ◌+◌, ℕ, List, Some, None, arith, length, map, not, refl, rules, subst, tests}
use Rattle.std.specs.List.{filter}
use Rattle.std.proofs.lemmas.Iterator.{YieldsList-from_range}
use Rattle.std.proofs.lemmas.Iterator.Consumers.{YieldsList-at, YieldsList-from_filter}
use Rattle.ps_check_segments.specs.Seen.{seen}
use Rattle.ps_explained.specs.OverviewText.{first_and_more, is_used, unused_libraries}
use Rattle.ps_explained.proofs.FirstOf.{all_libraries, first_of, none_of}
use Rattle.ps_explained.proofs.passed_over.unused_libraries.Goals as goal

pub returns-in-Some : goal.returns-in-Some
unfolding unused_libraries
returns-in-Some c =
    let files = c.args.inputs.now.libs.now in
    let p = λ (file : ℕ). not (is_used (map seen c.args.list.now) file) in
    subst (λ (numbers : List ℕ). Some (c.in-Some.first, c.count.result)
    ≡ first_and_more (filter p numbers)) (all_libraries files)
    (first_of _ _ c.next.result c.in-Some.first c.count.result (YieldsList-from_filter _ p
    (YieldsList-at c.filter-unused.ensures.source
    (YieldsList-from_range 1 (length files + 1) (length files) refl (omega arith)))
    c.filter-unused.ensures.closure (λ x b q k. search (rules, tests))) c.in-Some.is
    c.next.ensures.steps c.count.ensures.ran)

pub returns-in-None : goal.returns-in-None
unfolding unused_libraries
returns-in-None c =
    let files = c.args.inputs.now.libs.now in
    let p = λ (file : ℕ). not (is_used (map seen c.args.list.now) file) in
    subst (λ (numbers : List ℕ). None ≡ first_and_more (filter p numbers)) (all_libraries files)
    (none_of _ _ c.next.result (YieldsList-from_filter _ p
    (YieldsList-at c.filter-unused.ensures.source
    (YieldsList-from_range 1 (length files + 1) (length files) refl (omega arith)))
    c.filter-unused.ensures.closure (λ x b q k. search (rules, tests))) c.in-None.is
    c.next.ensures.steps)
