use Rattle.std.proofs.Common.{◌≡◌, ◌∙◌, List, [], ◌∷◌, ◌||◌, Bor, ap, inl, map, refl, sym}
use Rattle.std.specs.List.{list_any}
use Rattle.std.specs.Str.{bytes_eq}
use Rattle.clap.specs.Words.{Text}
use Rattle.ps_arguments.specs.Requests.{is_library}
use Rattle.ps_arguments.proofs.request.overwritten.Goals as goal

-- a path is among the paths that were read from the arguments just where it is among those
-- arguments
among : (out : Text) (paths : List (Bor Text))
    → list_any (λ path. bytes_eq path.now out) paths
    ≡ is_library out (map (λ path. path.now) paths)
among out [] = refl
among out (path ∷ paths) = ap (λ t. bytes_eq path.now out || t) (among out paths)

pub returns-clause-none : goal.returns-clause-none
returns-clause-none g c none = (
  sym (among c.args.out.now c.args.libraries.now) ∙ sym c.contains.ensures.value
      ∙ c.if-contains.false,
  c.first_to.ensures.none none,
)

pub returns-then-contains-clause-some : goal.returns-then-contains-clause-some
returns-then-contains-clause-some g c = inl
    (sym (among c.args.out.now c.args.libraries.now) ∙ sym c.contains.ensures.value
    ∙ c.if-contains.true)
