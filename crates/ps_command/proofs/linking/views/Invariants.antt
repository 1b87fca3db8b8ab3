-- What each file so far has.
use Rattle.std.proofs.Common.{◌≡◌, map, take}
use Rattle.ps_command.proofs.linking.views.Given as goal

abbrev pub invariant-loop-content : goal.invariant-loop-content
invariant-loop-content g l = map (λ view. view.now) l.views.items
    ≡ map (λ content. content.items) (take l.content-index l.contents)
