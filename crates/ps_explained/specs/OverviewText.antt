-- What a report says of the segments of a link, whole: the line of each segment, and after it one
-- of the later libraries that have its name too; then the slots without a segment, and the
-- libraries from which nothing is taken.
use Rattle.std.specs.Prelude.{ℕ, ◌+◌, ◌-◌, ◌==◌, ◌&&◌, not, if◌then◌else◌, Bool, false, List, [], ◌∷◌, ◌++◌, Option, Some, None, Result, Ok, Err, filter_map, length, codes, decimal, option_and_then}
use Rattle.std.specs.List.{filter, find, flat_map, list_any, range_with_len}
use Rattle.std.specs.Option.{option_map, option_map_or}
use Rattle.std.specs.Result.{is_ok, result_ok}
use Rattle.ps_words.specs.declared.fault.Reason.{Reason}
use Rattle.ps_codefile.specs.Dictionary.{OpenedFile, entry_at, opened_alone, opened_beside, role_of, slots}
use Rattle.ps_filetype.specs.Shown.{shown_path, slot_digits}
use Rattle.ps_resolve.specs.Sources.{file_at, is_named}
use Rattle.ps_reading.specs.declared.slot_reading.Absent.{Absent}
use Rattle.ps_check_segments.specs.Paths.{host_order, path_of}
use Rattle.ps_check_segments.specs.Seen.{Origin, Seen, has_slot}
use Rattle.ps_explained.specs.SegmentLines.{has_unread, read_line}

-- 1. some libraries of which the first is named, and the others are counted
abbrev pub first_and_more : {X : Type 0} → List X → Option (X × ℕ)
first_and_more [] = None
first_and_more (first ∷ others) = Some (first, length others)

-- `, and 2 more libraries`
abbrev pub more_words : ℕ → List ℕ
more_words count = if count == 0 then []
    else (if count == 1 then codes ", and 1 more library"
    else codes ", and " ++ (decimal count ++ codes " more libraries"))

-- 2. the libraries that have the name of a segment too, and are not used for it
-- the first entry of a file that is filled and has this name, where the file can be opened beside
-- the host
unfoldable pub named_entry : List ℕ → List (List ℕ) → List ℕ → ℕ → Option ℕ
named_entry host libs name file = option_and_then (λ f. find (is_named f.order name f.file) slots)
    (result_ok (opened_beside (host_order host) (file_at host libs file)))

-- with the number of the file
abbrev pub named_in : List ℕ → List (List ℕ) → List ℕ → ℕ → Option (ℕ × ℕ)
named_in host libs name file = option_map (λ entry. (file, entry)) (named_entry host libs name file)

-- the libraries after this file, by their numbers
abbrev pub libraries_after : ℕ → List (List ℕ) → List ℕ
libraries_after file libs = range_with_len (file + 1) (length libs - file)

-- those of them that have such an entry, with it
unfoldable pub entries_after : List ℕ → List (List ℕ) → List ℕ → ℕ → List (ℕ × ℕ)
entries_after host libs name file = filter_map (named_in host libs name) (libraries_after file libs)

-- those that are not used for a segment of this name that comes from this file: none for one of the
-- host's own
abbrev pub later_entries : List ℕ → List (List ℕ) → List ℕ → ℕ → List (ℕ × ℕ)
later_entries host libs name file = if file == 0 then [] else entries_after host libs name file

-- none for one that comes from nowhere
abbrev pub passed_over : List ℕ → List (List ℕ) → List ℕ → Result Origin Absent
    → List (ℕ × ℕ)
passed_over host libs name (Ok o) = later_entries host libs name o.file
passed_over host libs name (Err why) = []

-- `  not used: LIB entry 03 has the name too, and 2 more libraries`
abbrev pub later_words : List ℕ → ℕ → ℕ → List ℕ
later_words path entry more = codes "  not used: " ++ (shown_path path ++ (codes " entry "
    ++ (slot_digits entry ++ (codes " has the name too" ++ more_words more))))

-- the line of the first of these entries, where there is one
abbrev pub later_line : List (List ℕ) → Option ((ℕ × ℕ) × ℕ) → List ℕ
later_line paths None = []
later_line paths (Some named) =
    later_words (path_of paths named.0.0) named.0.1 named.1 ++ 10 ∷ []

-- the line of a segment, and that of the later libraries that have its name too
unfoldable pub segment_text : List (List ℕ) → List ℕ → List (List ℕ) → Bool → Seen → List ℕ
segment_text paths host libs unread s = (read_line paths unread s ++ 10 ∷ [])
    ++ later_line paths (first_and_more (passed_over host libs s.name s.origin))

-- of all segments
abbrev pub segment_texts : List (List ℕ) → List ℕ → List (List ℕ) → Bool → List Seen → List ℕ
segment_texts paths host libs unread list = flat_map (segment_text paths host libs unread) list

-- 3. the slots of a host without a segment: no segment of the list has the slot, and its kind can
-- be told, since a slot whose kind is refused has a segment that is not read
abbrev pub is_without : OpenedFile → List Seen → ℕ → Bool
is_without f list slot =
    is_ok (role_of (entry_at f.order f.file slot)) && not (list_any (has_slot slot) list)

unfoldable pub slots_without : OpenedFile → List Seen → List ℕ
slots_without f list = filter (is_without f list) slots

-- `slots without a segment: 00 02`
abbrev pub slot_list : List ℕ → List ℕ
slot_list among = flat_map (λ slot. 32 ∷ slot_digits slot) among

abbrev pub without_line : List ℕ → List ℕ
without_line among = codes "slots without a segment:" ++ (slot_list among ++ 10 ∷ [])

-- 4. the libraries from which nothing is taken: no segment of the list comes from there
abbrev pub comes_from : ℕ → Seen → Bool
comes_from file s = option_map_or (λ k. k == file) s.file false

abbrev pub is_used : List Seen → ℕ → Bool
is_used list file = list_any (comes_from file) list

unfoldable pub unused_libraries : List (List ℕ) → List Seen → List ℕ
unused_libraries libs list = filter (λ file. not (is_used list file)) (libraries_after 0 libs)

-- `nothing is taken from file 2 LIB, and 2 more libraries`
abbrev pub unused_words : List ℕ → ℕ → ℕ → List ℕ
unused_words path file more = codes "nothing is taken from file " ++ (decimal file
    ++ (codes " " ++ (shown_path path ++ more_words more)))

abbrev pub unused_line : List (List ℕ) → Option (ℕ × ℕ) → List ℕ
unused_line paths None = []
unused_line paths (Some unused) =
    unused_words (path_of paths unused.0) unused.0 unused.1 ++ 10 ∷ []

-- 5. the lines after those of the segments; none where there is no segment
abbrev pub rest_text : List (List ℕ) → List (List ℕ) → List Seen → OpenedFile → List ℕ
rest_text paths libs list f = if length list == 0 then []
    else without_line (slots_without f list)
    ++ unused_line paths (first_and_more (unused_libraries libs list))

-- none where the host cannot be opened
abbrev pub text_after : List (List ℕ) → List (List ℕ) → List Seen → Result OpenedFile Reason
    → List ℕ
text_after paths libs list (Ok f) = rest_text paths libs list f
text_after paths libs list (Err why) = []

-- The text of all of it, of these segments as they were read of a host and its libraries.
unfoldable pub overview_text : List (List ℕ) → List ℕ → List (List ℕ) → List Seen → List ℕ
overview_text paths host libs list = segment_texts paths host libs (has_unread host libs) list
    ++ text_after paths libs list (opened_alone host)
