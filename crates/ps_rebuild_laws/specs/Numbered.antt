-- Libraries that stand elsewhere in a command, and segments whose files have other numbers so.
use Rattle.std.specs.Prelude.{◌≡◌, ℕ, ◌+◌, ◌-◌, ◌==◌, if◌then◌else◌, List, None, nat_lt}
use Rattle.std.specs.Result.{result_err}
use Rattle.ps_codefile.specs.Dictionary.{opened_beside}
use Rattle.ps_codefile.specs.declared.entry.Role.TheVariants.{Wanted}
use Rattle.ps_resolve.specs.Sources.{Segment}
use Rattle.ps_resolve.specs.Standing.Phrases.{SomeItem}
use Rattle.ps_resolve.specs.Standing.Sources.{HasEntry}
use Rattle.ps_words.specs.declared.order.Order.{Order}

-- the segment, whose file has the number that is said for its own
abbrev pub renumbered : (ℕ → ℕ) → Segment → Segment
renumbered number s = record s { file = number s.file }

-- the number of a file once file k is left out
abbrev pub without : ℕ → ℕ → ℕ
without k file = if nat_lt k file then file - 1 else file

-- the number of a file once file k and the one after it are exchanged
abbrev pub exchanged : ℕ → ℕ → ℕ
exchanged k file = if file == k then k + 1 else (if file == k + 1 then k else file)

-- a link with these segments takes a unit of this name from a library
abbrev pub IsLookedFor : List Segment → List ℕ → Type 0
IsLookedFor segs name = SomeItem segs (λ k s. (s.role ≡ Wanted) × (s.name ≡ name))

-- two libraries have no filled entry of one name that such a link looks for
abbrev pub HaveNoNameInCommon : Order → List Segment → List ℕ → List ℕ → Type 0
HaveNoNameInCommon order segs lib other = (name : List ℕ) → IsLookedFor segs name
    → HasEntry order name lib → HasEntry order name other → ⊥

-- a library is opened beside a host of this byte order
abbrev pub IsOpened : Order → List ℕ → Type 0
IsOpened order lib = result_err (opened_beside order lib) ≡ None
