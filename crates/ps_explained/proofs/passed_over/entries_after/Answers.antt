use Rattle.std.proofs.Common.{◌≡◌, ◌+◌, ◌-◌, ℕ, List, Some, None, length, refl, rules, subst, tests}
use Rattle.std.specs.Prelude.{filter_map}
use Rattle.std.proofs.lemmas.Iterator.{YieldsList-from_range}
use Rattle.std.proofs.lemmas.Iterator.Adapters.{YieldsList-from_skip}
use Rattle.std.proofs.lemmas.Iterator.Consumers.{YieldsList-at, YieldsList-from_filter_map}
use Rattle.ps_resolve.specs.Sources.{contents}
use Rattle.ps_explained.specs.OverviewText.{entries_after, first_and_more, named_in}
use Rattle.ps_explained.proofs.FirstOf.{after_skip, first_of, none_of}
use Rattle.ps_explained.proofs.passed_over.entries_after.Goals as goal

pub returns-in-Some : goal.returns-in-Some
unfolding entries_after
returns-in-Some c =
    let files = c.args.inputs.now.libs.now in
    let used = c.args.used in
    let f = named_in c.args.inputs.now.host.now (contents files) c.args.name.now in
    subst (λ (numbers : List ℕ). Some (c.in-Some.first, c.count.result)
    ≡ first_and_more (filter_map f numbers)) (after_skip files used)
    (first_of _ _ c.next.result c.in-Some.first c.count.result (YieldsList-from_filter_map _ f
    (YieldsList-at c.filter_map-later.ensures.source (YieldsList-from_skip 1
    (YieldsList-at c.skip.ensures.source (YieldsList-from_range used (length files + 1)
    ((length files + 1) - used) refl refl)) c.skip.ensures.count))
    c.filter_map-later.ensures.closure (λ x r q k. search (rules, tests))) c.in-Some.is
    c.next.ensures.steps c.count.ensures.ran)

pub returns-in-None : goal.returns-in-None
unfolding entries_after
returns-in-None c =
    let files = c.args.inputs.now.libs.now in
    let used = c.args.used in
    let f = named_in c.args.inputs.now.host.now (contents files) c.args.name.now in
    subst (λ (numbers : List ℕ). None ≡ first_and_more (filter_map f numbers))
    (after_skip files used)
    (none_of _ _ c.next.result (YieldsList-from_filter_map _ f
    (YieldsList-at c.filter_map-later.ensures.source (YieldsList-from_skip 1
    (YieldsList-at c.skip.ensures.source (YieldsList-from_range used (length files + 1)
    ((length files + 1) - used) refl refl)) c.skip.ensures.count))
    c.filter_map-later.ensures.closure (λ x r q k. search (rules, tests))) c.in-None.is
    c.next.ensures.steps)
