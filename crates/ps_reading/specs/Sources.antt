-- The segments that the host's own slots have in a linked file, and where each comes from: the host
-- file, and for a wanted unit the first library that has a filled entry of its name.
use Rattle.std.specs.Prelude.{ℕ, ◌+◌, ◌&&◌, if◌then◌else◌, List, [], ◌∷◌, slice_get, map, Bool, false, Option, Some, None, unwrap_or, option_and_then, bytes_eq}
use Rattle.std.specs.Borrow.{Bor}
use Rattle.std.specs.List.{list_any, filter_map, find, enumerate_from}
use Rattle.std.specs.Option.{option_map, option_map_or}
use Rattle.std.specs.Result.{result_ok}
use Rattle.ps_codefile.specs.Dictionary.{slots, FileOrder, Zero, Ordered, Mixed, file_order, opened_beside, entry_at, role_of, is_filled, code_of, information_of}
use Rattle.ps_codefile.specs.Procedures.{ProcedureTables}
use Rattle.ps_codefile.specs.Roles.{needs_linking, is_host, is_unit}
use Rattle.ps_codefile.specs.declared.entry.Role.{Role}
use Rattle.ps_codefile.specs.declared.entry.Role.TheVariants.{Empty, Wanted, Plain, Host, Unit}
use Rattle.ps_codefile.specs.declared.entry.Entry.{Entry}
use Rattle.ps_linkinfo.specs.Records.{reading}
use Rattle.ps_linkinfo.specs.declared.record.LinkRecord.{LinkRecord as Record}
use Rattle.ps_words.specs.declared.order.Order.{Order}
use Rattle.ps_words.specs.declared.order.Order.TheVariants.{Little}
use Rattle.ps_words.specs.Words.{blocks}

-- what files hold, that are lent
abbrev pub contents : List (Bor (List ℕ)) → List (List ℕ)
contents files = map (λ file. file.now) files

-- the order that all files of a link are read in: the host's
abbrev pub known_order : FileOrder → Order
known_order Zero = Little
known_order (Ordered order) = order
known_order Mixed = Little

-- the byte order of a host
abbrev pub order_of : List ℕ → Order
order_of host = known_order (file_order host)

-- what a library holds that is read beside the host; one that is refused holds nothing
abbrev pub opened_file : Order → List ℕ → List ℕ
opened_file order lib = option_map_or (λ opened. opened.file)
    (result_ok (opened_beside order lib)) []

-- what each library holds that is read beside the host
abbrev pub opened_files : Order → List (List ℕ) → List (List ℕ)
opened_files order libs = map (opened_file order) libs

-- the libraries that are lent, each as it is opened
abbrev pub opened : Order → List (Bor (List ℕ)) → List (List ℕ)
opened order libs = opened_files order (contents libs)

-- the file's entry is filled, and has this name
abbrev pub is_named : Order → List ℕ → List ℕ → ℕ → Bool
is_named order name file i = let e = entry_at order file i in is_filled e && bytes_eq e.name name

-- a file has a filled entry of the name
abbrev pub has_entry : Order → List ℕ → List ℕ → Bool
has_entry order name file = list_any (is_named order name file) slots

-- the first library with such an entry, and its number from 0
abbrev pub chosen_library : Order → List ℕ → List (List ℕ) → Option (ℕ × List ℕ)
chosen_library order name libs = find (λ lib. has_entry order name lib.1) (enumerate_from 0 libs)

-- the number of a library's file, where the library has this number from 0: file 0 is the host
abbrev pub library_file : ℕ → ℕ
library_file library = library + 1

-- the first such entry of the first such library: the number of its file, and its slot there
abbrev pub unit_source : Order → List ℕ → List (List ℕ) → Option (ℕ × ℕ)
unit_source order name libs =
    option_and_then (λ lib. option_map (λ i. (library_file lib.0, i))
    (find (is_named order name lib.1) slots)) (chosen_library order name libs)

-- the file, 0 for the host and k for the k-th library, and the entry there that a slot's code comes
-- from
abbrev pub source_of : Order → List ℕ → List (List ℕ) → ℕ → Role
    → Option (ℕ × ℕ)
source_of order host libs slot Empty = None
source_of order host libs slot Plain = Some (0, slot)
source_of order host libs slot Host = Some (0, slot)
source_of order host libs slot Unit = Some (0, slot)
source_of order host libs slot Wanted = unit_source order (entry_at order host slot).name libs

-- the file of this number: 0 is the host, k the k-th library
abbrev pub file_at : List ℕ → List (List ℕ) → ℕ → List ℕ
file_at host libs k = unwrap_or (slice_get (host ∷ libs) k) []

-- the procedure tables of a code; those of a segment that is not linked are not read
abbrev pub tables_of : Order → List ℕ → Bool → Option ProcedureTables
tables_of order code linked = if linked then Some (record { order = order; code = code }) else None

-- the block, from 0, in which link information begins, which is behind the code that begins in this
-- block and has so many bytes; 0 where a segment is not linked
abbrev pub block_behind : ℕ → ℕ → Bool → ℕ
block_behind address len linked = if linked then address + blocks len else 0

-- the block of an entry's link information
abbrev pub information_block : Entry → Bool → ℕ
information_block e linked = block_behind e.address e.length linked

-- the records of an entry's link information; those of a segment that is not linked are not read
abbrev pub records_of : Order → List ℕ → Entry → Bool → List Record
records_of order file e linked = if linked then (reading order (information_of file e)).0 else []

-- A segment of the linked file: its slot in the host, its name and its role there, whether it was
-- added for a UNITREF, the file and the entry that it comes from, and its code. Where it is linked:
-- its procedure tables, the block of its file in which its link information begins, and the records
-- there. An added segment has the role of a wanted unit.
pub record Segment : Type 0 where
  pub slot : ℕ
  pub name : List ℕ
  pub role : Role
  pub added : Bool
  pub file : ℕ
  pub index : ℕ
  pub code : List ℕ
  pub tables : Option ProcedureTables
  pub block : ℕ
  pub records : List Record

-- the segment that a slot gets from an entry of a file, with this name, role and code
abbrev pub segment_with : Order → List ℕ → List (List ℕ) → ℕ → List ℕ → Role
    → ℕ × ℕ → List ℕ → Segment
segment_with order host libs slot name role at code =
    let file = file_at host libs at.0 in
    let e = entry_at order file at.1 in
    let linked = needs_linking role in
    record {
      slot = slot;
      name = name;
      role = role;
      added = false;
      file = at.0;
      index = at.1;
      code = code;
      tables = tables_of order code linked;
      block = information_block e linked;
      records = records_of order file e linked;
    }

-- the segment of an entry, with the code of the entry, where it has one
abbrev pub segment_from : Order → List ℕ → List (List ℕ) → ℕ → List ℕ → Role
    → ℕ × ℕ → Option Segment
segment_from order host libs slot name role at =
    let file = file_at host libs at.0 in
    option_map (segment_with order host libs slot name role at)
    (result_ok (code_of file (entry_at order file at.1)))

-- the segment of the slot's own role, where it is not empty
abbrev pub own_segment : Order → List ℕ → List (List ℕ) → ℕ → Option Segment
own_segment order host libs slot =
    option_and_then (λ role. option_and_then
    (segment_from order host libs slot (entry_at order host slot).name role)
    (source_of order host libs slot role)) (result_ok (role_of (entry_at order host slot)))

-- the own segments of all slots of the host, by slot
unfoldable pub own_segments : Order → List ℕ → List (List ℕ) → List Segment
own_segments order host libs = filter_map (own_segment order host libs) slots

-- the host's own segment, and its records
abbrev pub host_of : List Segment → Option Segment
host_of segs = find (λ s. is_host s.role) segs

-- the records of the host segment
abbrev pub host_records : List Segment → List Record
host_records segs = option_map_or (λ s. s.records) (host_of segs) []

-- the slot of each unit by its name
abbrev pub units_of : List Segment → List (List ℕ × ℕ)
units_of segs = filter_map (λ s. if is_unit s.role then Some (s.name, s.slot) else None) segs
