-- Small entries and units, on which each warning of entries and of a link is found once and not found
-- once.
use Rattle.std.specs.Prelude.{ℕ, List, [], ◌∷◌, Ok, Some, codes}
use Rattle.ps_codefile.specs.declared.entry.Entry.{Entry}
use Rattle.ps_check_segments.specs.Seen.{Seen}
use Rattle.ps_check_segments.specs.declared.segments.SegmentPart.{SegmentPart}

-- the name of a unit, the same in small letters and padded with zeros, another one by bit 7, and none
abbrev pub util : List ℕ
util = codes "UTIL    "

abbrev pub small_util : List ℕ
small_util = codes "util    "

abbrev pub zero_util : List ℕ
zero_util = 85 ∷ 84 ∷ 73 ∷ 76 ∷ 0 ∷ 0 ∷ 0 ∷ 0 ∷ []

abbrev pub other_util : List ℕ
other_util = 213 ∷ 84 ∷ 73 ∷ 76 ∷ 32 ∷ 32 ∷ 32 ∷ 32 ∷ []

abbrev pub blank : List ℕ
blank = codes "        "

-- an entry without a code, of this name and kind
abbrev pub empty_entry : List ℕ → ℕ → Entry
empty_entry name kind = record { address = 0; length = 0; name = name; kind = kind; text = 0 }

-- a segment of a link of this name, which is this
abbrev pub segment_of : List ℕ → SegmentPart → Seen
segment_of name what = record {
  slot = Some 7;
  name = name;
  part = what;
  origin = Ok (record { file = 0; index = 7; size = 24 });
  file = Some 0;
  records = [];
}
