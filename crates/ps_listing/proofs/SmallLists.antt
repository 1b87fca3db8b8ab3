-- What the list of a small file says, part by part.
use Rattle.std.proofs.Common.{◌≡◌, ◌++◌, [], List, None, Ok, Result, Some, append-nil, refl, ℕ}
use Rattle.std.specs.Prelude.{codes, length}
use Rattle.std.specs.Fmt.{digits}
use Rattle.std.specs.Str.{chars}
use Rattle.std.proofs.Math.Utf8.{encode}
use Rattle.ps_words.specs.declared.fault.Reason.{Reason}
use Rattle.ps_words.specs.declared.order.Order.TheVariants.{Little}
use Rattle.ps_codefile.specs.Dictionary.{OpenedFile}
use Rattle.ps_codefile.specs.Opened.{opened}
use Rattle.ps_filetype.specs.CodeFiles.{code_file, has_kind, has_kinds, has_other, has_shown_code}
use Rattle.ps_filetype.specs.declared.code_file.CodeFile.TheVariants.{Mixed}
use Rattle.ps_writing.specs.declared.rows.Form.TheVariants.{Lines}
use Rattle.ps_listing.specs.Listed.{found_segment, segment_at, segments_found, values_of}
use Rattle.ps_listing.specs.ListText.{file_in, listed_in, segment_in, segments_in}
use Rattle.ps_listing.specs.LoneText.{lone_text}
use Rattle.ps_listing.specs.SmallLists.{file_text, segments_text, small_file, small_segments, small_units, units_text}
use Rattle.ps_listing.specs.declared.listed_file.FileValues.{FileValues}
use Rattle.ps_listing.specs.declared.segments.ListedSegment.{ListedSegment}

-- the list of a file is its own line and those of its segments
of_parts : (path file : List ℕ) (r : Result OpenedFile Reason) (v : FileValues)
    (ss : List ListedSegment) (first rest : List ℕ) → opened file ≡ r
    → values_of (length file) r ≡ v → segments_found [] r ≡ ss
    → file_in Lines path [] v ≡ first → segments_in Lines path ss ≡ rest
    → listed_in Lines path [] file ≡ first ++ rest
unfolding listed_in
of_parts path file r v ss first rest o values has line lines =
    rw (o, values, has, line, lines) (simp append-nil)

small_opened : Result OpenedFile Reason
small_opened = Ok (record { order = Little; file = small_file })

is_opened : opened small_file ≡ small_opened
unfolding opened small_opened
is_opened = refl

small_values : FileValues
small_values = record {
  size = Some 536;
  order = Some Little;
  purpose = Some (Some Mixed);
  fault = None;
}

have_values : values_of (length small_file) small_opened ≡ small_values
unfolding small_opened small_values code_file has_kind has_kinds has_other has_shown_code
have_values = refl

have_segments : segments_found [] small_opened ≡ small_segments
unfolding small_opened segment_at found_segment
have_segments = refl

line_of_file : file_in Lines (codes "a.code") [] small_values ≡ file_text
unfolding file_in small_values chars encode digits
line_of_file = refl

lines_of_segments : segments_in Lines (codes "a.code") small_segments ≡ segments_text
unfolding segment_in chars encode digits
lines_of_segments = refl

pub segments_are : segments_found [] (opened small_file) ≡ small_segments
segments_are = rw is_opened have_segments

pub lines_are : listed_in Lines (codes "a.code") [] small_file ≡ file_text ++ segments_text
lines_are = of_parts (codes "a.code") small_file small_opened small_values small_segments file_text
    segments_text is_opened have_values have_segments line_of_file lines_of_segments

pub units_are : lone_text (codes "a.code") small_units ≡ units_text
unfolding chars encode digits
units_are = refl
