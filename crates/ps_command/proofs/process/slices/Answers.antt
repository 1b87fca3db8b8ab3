use Rattle.std.proofs.Common.{◌∙◌, ◌++◌, ◌∷◌, [], ℕ, Bor, List, ap, ap₂, map, sym}
use Rattle.std.specs.Prelude.{string_bytes}
use Rattle.std.proofs.lemmas.List.{map-append, map_more}
use Rattle.ps_command.proofs.process.slices.Goals as goal

pub loop-arg-preserved : goal.loop-arg-preserved
loop-arg-preserved c =
    let arg = c.arg-item.result in
    ap (map (λ (arg : Bor (List ℕ)). arg.now)) c.in_ok-push.ensures.items
    ∙ map-append _ c.loop-arg.args.items (c.as_str.result ∷ [])
    ∙ ap₂ (λ (before : List (List ℕ)) (arg : List ℕ). before ++ arg ∷ [])
    c.loop-arg.invariant (c.as_str.ensures.value ∙ ap string_bytes c.arg-item.is)
    ∙ sym (map_more string_bytes c.args.given.now c.loop-arg.arg-index arg c.loop-arg-test.true)
