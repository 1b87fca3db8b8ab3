-- The paths of files, by their numbers.
use Rattle.std.proofs.Common.{◌≡◌, ◌∷◌, ◌-◌, ◌<◌, ◌≤◌, [], zero, suc, ℕ, List, Bor, Some, length, refl, sym, ap, arith}
use Rattle.std.specs.Prelude.{Option, unwrap_or}
use Rattle.std.specs.List.{slice_get}
use Rattle.std.specs.Option.{option_map}
use Rattle.std.proofs.lemmas.Option.{slice_get-map}
use Rattle.ps_resolve.specs.Sources.{contents}
use Rattle.ps_check_segments.specs.Paths.{path_of}

pub path_read : (paths : List (Bor (List ℕ))) (k : ℕ) (path : Bor (List ℕ))
    → slice_get paths k ≡ Some path → path.now ≡ path_of (contents paths) k
path_read paths k path found = grind (arith, slice_get-map)

pub path_past : (paths : List (Bor (List ℕ))) (k : ℕ) → length paths ≤ k
    → path_of (contents paths) k ≡ []
path_past [] k h = refl
path_past (p ∷ paths) zero h = absurd (omega (arith, h))
path_past (p ∷ paths) (suc k) h = path_past paths k (omega (arith, h))

pub path_rest : (first : List ℕ) (paths : List (List ℕ)) (file : ℕ) → 0 < file
    → path_of paths (file - 1) ≡ path_of (first ∷ paths) file
path_rest first paths file h = grind arith
