use Rattle.std.proofs.Common.{◌∙◌, ◌++◌, ◌∷◌, [], ℕ, Bor, List, Vec, ap, ap₂, map, sym}
use Rattle.std.proofs.lemmas.List.{map-append, map_more}
use Rattle.ps_command.proofs.linking.views.Goals as goal

pub loop-content-preserved : goal.loop-content-preserved
loop-content-preserved g c =
    let content = c.content-item.result in
    ap (map (λ (view : Bor (List ℕ)). view.now)) c.in_ok-push.ensures.items
    ∙ map-append _ c.loop-content.views.items (c.as_slice.result ∷ [])
    ∙ ap₂ (λ (before : List (List ℕ)) (view : List ℕ). before ++ view ∷ [])
    c.loop-content.invariant
    (c.as_slice.ensures.value ∙ ap (λ (v : Vec ℕ g.row.A.Denot). v.items) c.content-item.is)
    ∙ sym (map_more (λ content. content.items) c.args.contents.now c.loop-content.content-index
    content c.loop-content-test.true)
