use Rattle.ps_reading.proofs.Vocabulary.{arith, ◌≡◌, ◌∙◌, ℕ, List, Bor, Some, Result, length, refl, sym, ap, slice_get, option_map, ltb-true, slice_get-map, slice_get_read, Order, Reason, OpenedFile, opened_beside, contents, HostFiles}
use Rattle.ps_reading.proofs.reading.HostReading.library.Goals as goal

pub returns-in-Some : goal.returns-in-Some
returns-in-Some c =
    let libs : List (Bor (List ℕ)) = c.self.inside.libs.now in
    let lib : List ℕ = c.in-Some.lib.now.now in
    let order = c.self.inside.slots.order in
    let found = slice_get_read libs (length libs) c.args.index c.in-Some.lib.now refl
    (ltb-true c.args.index (length libs) (sym c.in-Some.ensures.lookup.0))
    c.in-Some.ensures.lookup.1 in
    let at : slice_get (contents libs) c.args.index ≡ Some lib = grind (arith, slice_get-map) in
    ap (λ (r : Result OpenedFile Reason). Some r)
    (c.read_beside.ensures ∙ ap (λ (o : Order). opened_beside o lib) c.order.ensures)
    ∙ (sym (ap (option_map (opened_beside order)) at)
    ∙ ap (λ (v : HostFiles). option_map (opened_beside v.order)
    (slice_get v.libs c.args.index)) c.self.view_is)
