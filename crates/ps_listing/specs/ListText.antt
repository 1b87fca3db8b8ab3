-- What files have, as text: as lines made for grep, of which each begins with the path, or as an
-- item of the list of a JSON document, in which the segments are a list.
-- Source: RFC 8259; which words and members there are is this project's profile.
use Rattle.std.specs.Prelude.{ℕ, ◌-◌, take, ◌==◌, if◌then◌else◌, List, [], ◌∷◌, ◌++◌, length, chars, codes, decimal, Bool, true, false, Option, Some, None, Result, Ok, Err}
use Rattle.std.specs.Char.{encode_utf8, is_ascii_whitespace}
use Rattle.std.specs.List.{enumerate_from, flat_map, suffix_len}
use Rattle.ps_words.specs.declared.order.Order.{Order}
use Rattle.ps_words.specs.declared.order.Order.TheVariants.{Little, Big}
use Rattle.ps_words.specs.FaultText.{number_of, name_of}
use Rattle.ps_words.specs.declared.fault.Fault.{Fault}
use Rattle.ps_codefile.specs.Opened.{opened}
use Rattle.ps_codefile.specs.declared.entry.Role.{Role}
use Rattle.ps_codefile.specs.declared.entry.Role.TheVariants as role
use Rattle.ps_linkinfo.specs.declared.record.Body.{Body}
use Rattle.ps_linkinfo.specs.RecordCounts.{is_unit_reference}
use Rattle.ps_linkinfo.specs.declared.record.LinkRecord.{LinkRecord as Record}
use Rattle.ps_writing.specs.JsonText.{comma_unless, json_name, line_end, member}
use Rattle.ps_writing.specs.FaultJson.{fault_json}
use Rattle.ps_writing.specs.JsonStrings.{json_text}
use Rattle.ps_writing.specs.Lines.{line, shown_name}
use Rattle.ps_writing.specs.Rows.{InSlot, Number, by_form, value_in}
use Rattle.ps_writing.specs.declared.rows.Form.{Form}
use Rattle.ps_writing.specs.declared.rows.Form.TheVariants.{Lines, Json}
use Rattle.ps_filetype.specs.Shown.{is_hidden}
use Rattle.ps_filetype.specs.CodeFiles.{code_file_word}
use Rattle.ps_filetype.specs.declared.code_file.CodeFile.{CodeFile}
use Rattle.ps_listing.specs.Listed.{no_values, segments_found, values_of}
use Rattle.ps_listing.specs.declared.segments.ListedSegment.{ListedSegment}
use Rattle.ps_listing.specs.declared.listed_file.FileValues.{FileValues}

-- a character of a path in a line: a question mark for a hidden one, as one that could end the line
abbrev pub shown_char : ℕ → List ℕ
shown_char c = if is_hidden c then 63 ∷ [] else encode_utf8 c

abbrev pub question_marked_path : List ℕ → List ℕ
question_marked_path path = flat_map shown_char (chars path)

-- a text without the white space at its end, which in a name as it is shown is blanks
abbrev pub trimmed : List ℕ → List ℕ
trimmed text = take (length text - suffix_len is_ascii_whitespace text) text

-- a text that is not ASCII throughout, and a name
abbrev pub text_in : Form → List ℕ → List ℕ
text_in Lines text = question_marked_path text
text_in Json text = json_text text

abbrev pub name_in : Form → List ℕ → List ℕ
name_in Lines name = trimmed (shown_name name)
name_in Json name = json_name name

-- `PATH:`, and `{"path":"host.code"`
abbrev pub path_in : Form → List ℕ → List ℕ
path_in form path = by_form form [] (codes "{\"path\":\"") ++ text_in form path
    ++ by_form form (codes ":") (codes "\"")

-- ` little-endian,`, and `,"order":"little"`
abbrev pub order_in : Form → Option Order → List ℕ
order_in form None = by_form form [] (codes ",\"order\":null")
order_in form (Some Little) = by_form form (codes " little-endian,") (codes ",\"order\":\"little\"")
order_in form (Some Big) = by_form form (codes " big-endian,") (codes ",\"order\":\"big\"")

-- ` 1536 bytes` after this text, and `,"length":1536`
abbrev pub length_in : Form → List ℕ → Option ℕ → List ℕ
length_in form before None = by_form form [] (codes ",\"length\":null")
length_in form before (Some n) = by_form form before (codes ",\"length\":") ++ decimal n
    ++ by_form form (codes " bytes") []

-- `, library`, and `,"contents":"library"`
abbrev pub purpose_in : Form → Option (Option CodeFile) → List ℕ
purpose_in form None = by_form form [] (codes ",\"contents\":null")
purpose_in form (Some None) = by_form form (codes ", no segment") (codes ",\"contents\":null")
purpose_in form (Some (Some c)) = by_form form (codes ", ") (codes ",\"contents\":\"")
    ++ code_file_word c ++ by_form form [] (codes "\"")

-- `, a gzip file`, and `,"type":"a gzip file"`
abbrev pub type_in : Form → List ℕ → List ℕ
type_in form phrase = if length phrase == 0 then by_form form [] (codes ",\"type\":null")
    else by_form form (codes ", ") (codes ",\"type\":\"") ++ text_in form phrase
    ++ by_form form [] (codes "\"")

-- ` record 1`
abbrev pub record_part : Option ℕ → List ℕ
record_part None = []
record_part (Some n) = codes " record " ++ decimal n

-- `, refused 19 RecordsTruncated record 1`
abbrev pub refused_words : Fault → List ℕ
refused_words f = codes ", refused " ++ decimal (number_of f.reason) ++ codes " "
    ++ name_of f.reason ++ record_part f.rec

-- the words of a refusal, or `,"fault":{"number":19,..}`, with the name of what the fault is about
abbrev pub refused_in : Form → Option (List ℕ) → Fault → List ℕ
refused_in Lines name f = refused_words f
refused_in Json name f = codes ",\"fault\":" ++ fault_json name f

-- the words where there is no fault: none in a line
abbrev pub no_fault_in : Form → List ℕ
no_fault_in form = by_form form [] (codes ",\"fault\":null")

-- ` unit`, and `,"role":"unit"`
abbrev pub role_in : Form → Role → List ℕ
role_in form role.Empty = by_form form (codes " empty") (codes ",\"role\":\"empty\"")
role_in form role.Wanted = by_form form (codes " wanted") (codes ",\"role\":\"wanted\"")
role_in form role.Plain = by_form form (codes " linked") (codes ",\"role\":\"linked\"")
role_in form role.Host = by_form form (codes " host") (codes ",\"role\":\"host\"")
role_in form role.Unit = by_form form (codes " unit") (codes ",\"role\":\"unit\"")

-- ` unit`, or ` kind 5` of a kind that is refused, and `,"kind":3,"role":"unit"`
abbrev pub kind_in : Form → ℕ → Option Role → List ℕ
kind_in form kind None = value_in form (Number (codes "kind") kind)
    ++ by_form form [] (codes ",\"role\":null")
kind_in form kind (Some r) = by_form form [] (member (codes "kind") kind) ++ role_in form r

-- a unit that a record uses, as `, uses AUX`, or `{"name":..,"name_hex":..}`
abbrev pub use_in : Form → Bool → List ℕ → List ℕ
use_in form first name = by_form form (codes ", uses ") (comma_unless first)
    ++ by_form form [] (codes "{") ++ name_in form name ++ by_form form [] (codes "}")

-- the words of a record that uses a unit; none of another record
abbrev pub use_of : Form → Bool → List ℕ → Body → List ℕ
use_of form first name body = if is_unit_reference body then use_in form first name else []

-- the first is still to come after this record
abbrev pub is_first_after : Bool → Body → Bool
is_first_after first body = if is_unit_reference body then false else first

abbrev pub uses_from : Form → Bool → List Record → List ℕ
uses_from form first [] = []
uses_from form first (r ∷ rs) = use_of form first r.name r.body
    ++ uses_from form (is_first_after first r.body) rs

-- the units that records use, in the order of the records
abbrev pub uses_in : Form → List Record → List ℕ
uses_in form records = by_form form [] (codes ",\"uses\":[") ++ uses_from form true records
    ++ by_form form [] (codes "]")

-- what a segment of this name is refused for, or the units that it uses
abbrev pub found_in : Form → List ℕ → Result (List Record) Fault → List ℕ
found_in form name (Ok records) = no_fault_in form ++ uses_in form records
found_in form name (Err f) = refused_in form (Some name) f ++ by_form form [] (codes ",\"uses\":[]")

-- a segment, the first of its file or not, as `PATH: slot 02 UTIL     unit, 24 bytes, uses AUX`
unfoldable pub segment_in : Form → List ℕ → Bool → ListedSegment → List ℕ
segment_in form path first s = by_form form (question_marked_path path) (line_end first)
    ++ value_in form (InSlot (codes ": slot ") s.slot s.name) ++ kind_in form s.kind s.role
    ++ length_in form (codes ", ") s.length ++ found_in form s.name s.found
    ++ by_form form (codes "\n") (codes "}")

-- the segments of a file
abbrev pub segments_in : Form → List ℕ → List ListedSegment → List ℕ
segments_in form path ss =
    flat_map (λ p. segment_in form path (p.0 == 0) p.1) (enumerate_from 0 ss)

-- the fault of a file, if it has one
abbrev pub fault_or_none : Form → Option Fault → List ℕ
fault_or_none form None = no_fault_in form
fault_or_none form (Some f) = refused_in form None f

-- a file, as `PATH: little-endian, 1536 bytes, library`, and its item up to its segments
unfoldable pub file_in : Form → List ℕ → List ℕ → FileValues → List ℕ
file_in Lines path phrase v = line (path_in Lines path ++ order_in Lines v.order
    ++ length_in Lines (codes " ") v.size ++ purpose_in Lines v.purpose ++ type_in Lines phrase
    ++ fault_or_none Lines v.fault)
file_in Json path phrase v = path_in Json path ++ length_in Json [] v.size
    ++ type_in Json phrase ++ order_in Json v.order ++ purpose_in Json v.purpose
    ++ fault_or_none Json v.fault ++ codes ",\"segments\":["

-- the file at a path; the phrase says what it is, where it is no code file as it ought to be
unfoldable pub listed_in : Form → List ℕ → List ℕ → List ℕ → List ℕ
listed_in form path phrase file = file_in form path phrase (values_of (length file) (opened file))
    ++ segments_in form path (segments_found phrase (opened file))
    ++ by_form form [] (codes "\n]}")

abbrev pub list_of : List ℕ → List ℕ → List ℕ → List ℕ
list_of path phrase file = listed_in Lines path phrase file

abbrev pub list_json_of : List ℕ → List ℕ → List ℕ → List ℕ
list_json_of path phrase file = listed_in Json path phrase file

-- the item of a file at a path at which nothing could be read
abbrev pub unread_json_of : List ℕ → List ℕ
unread_json_of path = file_in Json path [] no_values ++ codes "\n]}"
