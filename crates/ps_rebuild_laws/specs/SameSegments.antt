-- Links whose segments are the same, from whichever files they come.
use Rattle.std.specs.Prelude.{◌≡◌, ℕ, ◌<◌, List, map, false, None}
use Rattle.ps_codefile.specs.Dictionary.{name_at, tail_of}
use Rattle.ps_resolve.specs.Sources.{Segment, order_of}
use Rattle.ps_codefile.specs.declared.dictionary_layout.TheConstants.{SLOTS}

-- the segment with its slot, its name, its role, its code and its records, but not from where it is
abbrev pub of_any_file : Segment → Segment
of_any_file s = record s { added = false; file = 0; index = 0; tables = None; block = 0 }

-- segments that are the same in these parts, one by one
abbrev pub AreSameSegments : List Segment → List Segment → Type 0
AreSameSegments segs others = map of_any_file segs ≡ map of_any_file others

-- two hosts have one byte order, the same names of their slots, and the same bytes after the text
-- addresses of their dictionaries
pub record HaveSameHeads (host other : List ℕ) : Type 0 where
  pub order : order_of host ≡ order_of other
  pub names : (slot : ℕ) → slot < SLOTS → name_at host slot ≡ name_at other slot
  pub tail : tail_of host ≡ tail_of other
