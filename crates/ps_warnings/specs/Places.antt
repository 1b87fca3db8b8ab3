-- Where something looks wrong, in words.
use Rattle.std.specs.Prelude.{ℕ, List, [], ◌++◌, Option, Some, None, codes, decimal}
use Rattle.ps_filetype.specs.Shown.{shown_name, shown_path}
use Rattle.ps_warnings.specs.declared.finding.Place.{Place}

-- `, segment UTIL`, where it is in a segment
abbrev pub segment_words : Option (List ℕ) → List ℕ
segment_words None = []
segment_words (Some name) = codes ", segment " ++ shown_name name

-- `, record 1`, where it is in a record
abbrev pub record_words : Option ℕ → List ℕ
record_words None = []
record_words (Some rec) = codes ", record " ++ decimal rec

-- `UTIL.CODE, segment UTIL, record 1`
unfoldable pub place_text : Place → List ℕ
place_text place = shown_path place.path.now
    ++ (segment_words place.segment ++ record_words place.rec)
