-- Faults of what a slot's segment comes from: the library's entries of its name, its code, its
-- procedure tables and its link information.
use Rattle.std.specs.Prelude.{◌≡◌, ◌≢◌, ◌⊎◌, ℕ, ◌+◌, ◌-◌, ◌*◌, ◌<◌, ◌≤◌, List, length, slice_get, slice_index, Bool, true, Some, Ok, Err}
use Rattle.ps_codefile.specs.Dictionary.{entry_at, is_filled, code_of, information_of}
use Rattle.ps_codefile.specs.Procedures.{table_of, procedures, content_of, dictionary_start, dictionary_len}
use Rattle.ps_codefile.specs.declared.entry.Entry.{Entry}
use Rattle.ps_codefile.specs.declared.entry.Role.{Role}
use Rattle.ps_linkinfo.specs.Records.{Stops}
use Rattle.ps_linkinfo.specs.declared.record.LinkRecord.{LinkRecord as Record}
use Rattle.ps_codefile.specs.Roles.{needs_linking, is_host}
use Rattle.ps_reading.specs.Sources.{source_of, file_at, library_file}
use Rattle.ps_words.specs.FaultPlaces.{in_slot, in_record}
use Rattle.ps_words.specs.declared.order.Order.{Order}
use Rattle.ps_words.specs.declared.fault.Reason.{Reason}
use Rattle.ps_words.specs.declared.fault.Fault.{Fault}
use Rattle.ps_codefile.specs.declared.entry.Role.TheVariants as role
use Rattle.ps_words.specs.declared.fault.Reason.TheVariants as reason
use Rattle.ps_reading.specs.Standing.Phrases.{Because, SomeBelow, SomeItem}
use Rattle.ps_reading.specs.Standing.Slots.{HasRole}
use Rattle.ps_codefile.specs.declared.dictionary_layout.TheConstants.{SLOTS}

-- entry i of a file is filled, and has this name
abbrev pub IsNamed : Order → List ℕ → List ℕ → ℕ → Type 0
IsNamed order name file i = (is_filled (entry_at order file i) ≡ true)
    × ((entry_at order file i).name ≡ name)

-- a filled entry of a file has this name
abbrev pub HasEntry : Order → List ℕ → List ℕ → Type 0
HasEntry order name file = SomeBelow SLOTS (λ i. IsNamed order name file i)

-- two filled entries of a library have the name, or one alone has it and is not of kind UNITSEG (3)
abbrev pub EntriesHave : Order → List ℕ → List ℕ → Reason → Type 0
EntriesHave order name lib reason.DoubledUnit =
    SomeBelow SLOTS (λ i. IsNamed order name lib i × SomeBelow i (λ j. IsNamed order name lib j))
EntriesHave order name lib (reason.NotAUnit kind) =
    SomeBelow SLOTS (λ i. IsNamed order name lib i
    × ((j : ℕ) → j < SLOTS → IsNamed order name lib j → j ≡ i)
    × (kind ≡ (entry_at order lib i).kind) × (kind ≢ 3))
EntriesHave order name lib other = ⊥

-- no library has an entry of the name
abbrev pub NoneHas : Order → List ℕ → List (List ℕ) → Type 0
NoneHas order name libs = SomeItem libs (λ k lib. HasEntry order name lib) → ⊥

-- the first library that has an entry of the name has too many, or of another kind
abbrev pub EntryFault : Order → List ℕ → List (List ℕ) → ℕ → Fault → Type 0
EntryFault order name libs slot f =
    SomeItem libs (λ k lib.
    (HasEntry order name lib × ((lesser : ℕ) (other : List ℕ) → lesser < k
    → slice_get libs lesser ≡ Some other → HasEntry order name other → ⊥))
    × Because (in_slot (library_file k) slot) (EntriesHave order name lib) f)

-- what is wrong with the source of a wanted unit: no library has an entry of its name, or the first
-- that has one has a fault there
abbrev pub UnitFault : Order → List ℕ → List (List ℕ) → ℕ → Fault → Type 0
UnitFault order name libs slot f =
    ((f ≡ in_slot 0 slot reason.MissingUnit) × NoneHas order name libs)
    ⊎ EntryFault order name libs slot f

-- a procedure has an attribute table that does not lie whole between the start of the code and the
-- procedure dictionary
abbrev pub HasBadTable : Order → List ℕ → Type 0
HasBadTable order code =
    (p : ℕ) × (1 ≤ p) × (p ≤ procedures code) × (content_of order code p ≢ 0)
    × ((length code - 2 - 2 * p < content_of order code p + 8)
    ⊎ (dictionary_start code ≤ length code - 2 - 2 * p - content_of order code p + 1))

-- the procedure dictionary is longer than the code, or a table is bad, or the host has none for
-- procedure 1, its outer block
abbrev pub AreBad : Order → List ℕ → Bool → Type 0
AreBad order code host =
    ((length code < dictionary_len code) ⊎ HasBadTable order code)
    ⊎ ((host ≡ true) × ((procedures code ≡ 0) ⊎ (content_of order code 1 ≡ 0)))

-- The tables of a code are bad, or they are not and one is of a native procedure, whose number is
-- 0.
abbrev pub TablesHave : Order → List ℕ → Bool → Reason → Type 0
TablesHave order code host reason.BadProcDict = AreBad order code host
TablesHave order code host reason.NativeProcedure =
    (AreBad order code host → ⊥)
    × ((p : ℕ) × (1 ≤ p) × (p ≤ procedures code) × (t : ℕ)
    × (table_of order code p ≡ Some t) × (slice_index code t ≡ 0))
TablesHave order code host other = ⊥

-- the file k and the entry e that a slot's code comes from: its code, then for a linked slot its
-- tables, then its records
abbrev pub CodeFault : Order → List ℕ → ℕ → Entry → ℕ → Role → Fault → Type 0
CodeFault order file k e slot role f =
    Because (in_slot k slot) (λ why. code_of file e ≡ Err why) f
    ⊎ ((code : List ℕ) × (code_of file e ≡ Ok code) × ((needs_linking role ≡ true)
    × (Because (in_slot k slot) (TablesHave order code (is_host role)) f
    ⊎ ((rs : List Record) × (why : Reason) × (f ≡ in_record k slot (length rs) why)
    × Stops order (information_of file e) rs why))))

-- a fault of what a slot of the host comes from: for a wanted unit its entry in the libraries; then
-- its code, its tables and its records
abbrev pub InSources : Order → List ℕ → List (List ℕ) → Fault → Type 0
InSources order host libs f =
    SomeBelow SLOTS (λ slot. (r : Role) × HasRole order host slot r
    × (((r ≡ role.Wanted) × UnitFault order (entry_at order host slot).name libs slot f)
    ⊎ ((at : ℕ × ℕ) × (source_of order host libs slot r ≡ Some at)
    × CodeFault order (file_at host libs at.0) at.0
    (entry_at order (file_at host libs at.0) at.1) slot r f)))
