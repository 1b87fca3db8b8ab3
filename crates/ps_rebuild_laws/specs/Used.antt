-- What a link takes or looks at of its libraries: the entries of the names that it looks for.
use Rattle.std.specs.Prelude.{◌≡◌, ℕ, ◌+◌, ◌≤◌, List, [], ◌∷◌, ⊤}
use Rattle.std.specs.Result.{result_err}
use Rattle.ps_codefile.specs.Dictionary.{opened_beside}
use Rattle.ps_codefile.specs.declared.entry.Role.TheVariants.{Wanted}
use Rattle.ps_words.specs.declared.order.Order.{Order}
use Rattle.ps_resolve.specs.Sources.{Segment}
use Rattle.ps_resolve.specs.Standing.Phrases.{SomeItem}
use Rattle.ps_rebuild_laws.specs.Alike.{HaveSameEntries}

-- a link with these segments looks for this name in the file of this number: it takes the unit of
-- the name from that file or from a later one
abbrev pub IsLookedForIn : List Segment → ℕ → List ℕ → Type 0
IsLookedForIn segs file name =
    SomeItem segs (λ k s. (s.role ≡ Wanted) × (s.name ≡ name) × (file ≤ s.file))

-- a link with these segments reads the same of two libraries of this number: both are opened, or
-- are refused for the same reason, and have the same entries of each name that it looks for there
pub record IsUsedAlike (order : Order) (segs : List Segment) (file : ℕ)
    (lib other : List ℕ) : Type 0 where
  pub opened : result_err (opened_beside order lib) ≡ result_err (opened_beside order other)
  pub entries : (name : List ℕ) → IsLookedForIn segs file name
      → HaveSameEntries order name lib other

-- so it is with libraries one by one, of which the first has this number
abbrev pub AreUsedAlike : Order → List Segment → ℕ → List (List ℕ) → List (List ℕ) → Type 0
AreUsedAlike order segs file [] [] = ⊤
AreUsedAlike order segs file [] (other ∷ others) = ⊥
AreUsedAlike order segs file (lib ∷ libs) [] = ⊥
AreUsedAlike order segs file (lib ∷ libs) (other ∷ others) =
    IsUsedAlike order segs file lib other × AreUsedAlike order segs (file + 1) libs others
