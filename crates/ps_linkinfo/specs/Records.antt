-- Link information: a sequence of records, of which the last is an EOFMARK, and why there is no
-- record at an offset. Offsets count from a record's first byte.
-- A record is a name of eight bytes, then four words: its type at 8 and three more at 10, 12 and
-- 14. A reference record has a list after them.
-- Source: the published II.0 Linker source; the pieces of a list and the reasons are this project's
-- profile.
use Rattle.std.specs.Prelude.{◌≡◌, ℕ, zero, suc, ◌+◌, ◌*◌, ◌/◌, ◌≤◌, ◌==◌, ◌||◌, not, if◌then◌else◌, List, [], ◌∷◌, length, take, drop, map, nat_lt, Bool, true, false, Option, Some, None, ⊤, sum_by}
use Rattle.std.specs.List.{range_with_len, AllByRecursion}
use Rattle.std.specs.Option.{option_or}
use Rattle.ps_words.specs.Words.{word_at}
use Rattle.ps_linkinfo.specs.declared.record.Body.{Body}
use Rattle.ps_linkinfo.specs.declared.record.Body.TheVariants.{UnitRef, PublRef, PrivRef, PublDef, ConstDef, Eof}
use Rattle.ps_linkinfo.specs.declared.record.LinkRecord.{LinkRecord as Record}
use Rattle.ps_linkinfo.specs.declared.reader.ReadStop.{ReadStop}
use Rattle.ps_linkinfo.specs.declared.reader.ReadStop.TheVariants.{Refused, Memory}
use Rattle.ps_words.specs.declared.order.Order.{Order}
use Rattle.ps_words.specs.declared.fault.Reason.{Reason}
use Rattle.ps_words.specs.declared.fault.Reason.TheVariants as reason

-- how many bytes a list of n references takes: pieces of eight words, the last one whole
abbrev pub list_len : ℕ → ℕ
list_len n = 16 * ((n + 7) / 8)

-- the references of a body; none if it is not that of a reference record
abbrev pub refs_of : Body → List ℕ
refs_of (UnitRef refs) = refs
refs_of (PublRef refs) = refs
refs_of (PrivRef words refs) = refs
refs_of (PublDef value) = []
refs_of (ConstDef value) = []
refs_of (Eof next) = []

-- how many bytes the spelling of a record takes
abbrev pub size_of : Record → ℕ
size_of r = 16 + list_len (length (refs_of r.body))

-- the first n words of the list of the first record of x
abbrev pub refs_at : Order → List ℕ → ℕ → List ℕ
refs_at order x n = map (λ i. word_at order x (16 + 2 * i)) (range_with_len 0 n)

-- the first words of x spell the body, a line for each type: 1 UNITREF of format 1 BYTE, 3 PUBLREF
-- and 4 PRIVREF of format 2 BIG, 7 PUBLDEF, 8 CONSTDEF, 0 EOFMARK
abbrev pub IsBody : Order → List ℕ → Body → Type 0
IsBody order x (UnitRef refs) = (word_at order x 8 ≡ 1) × (word_at order x 10 ≡ 1)
    × (refs ≡ refs_at order x (word_at order x 12))
IsBody order x (PublRef refs) = (word_at order x 8 ≡ 3) × (word_at order x 10 ≡ 2)
    × (refs ≡ refs_at order x (word_at order x 12))
IsBody order x (PrivRef words refs) = (word_at order x 8 ≡ 4) × (word_at order x 10 ≡ 2)
    × (refs ≡ refs_at order x (word_at order x 12)) × (words ≡ word_at order x 14)
IsBody order x (PublDef value) = (word_at order x 8 ≡ 7) × (value ≡ word_at order x 10)
IsBody order x (ConstDef value) = (word_at order x 8 ≡ 8) × (value ≡ word_at order x 10)
IsBody order x (Eof next) = (word_at order x 8 ≡ 0) × (next ≡ word_at order x 10)

-- the bytes begin with the spelling of the record, which is whole
pub record BeginsWith (order : Order) (bytes : List ℕ) (r : Record) : Type 0 where
  pub whole : size_of r ≤ length bytes
  pub name : r.name ≡ take 8 bytes
  pub body : IsBody order bytes r.body

-- the body is that of an EOFMARK
abbrev pub is_end : Body → Bool
is_end (Eof next) = true
is_end (UnitRef refs) = false
is_end (PublRef refs) = false
is_end (PrivRef words refs) = false
is_end (PublDef value) = false
is_end (ConstDef value) = false

-- the record is an EOFMARK
abbrev pub is_eof : Record → Bool
is_eof r = is_end r.body

-- how many bytes the spellings of the records take
abbrev pub used_by : List Record → ℕ
used_by rs = sum_by size_of rs

-- the bytes begin with the spellings of the records, one after another
abbrev pub AreSpelled : Order → List ℕ → List Record → Type 0
AreSpelled order bytes [] = ⊤
AreSpelled order bytes (r ∷ rs) = BeginsWith order bytes r
    × AreSpelled order (drop (size_of r) bytes) rs

-- the last record is an EOFMARK, and no other is
abbrev pub EndsOnce : List Record → Type 0
EndsOnce [] = ⊥
EndsOnce (r ∷ []) = is_eof r ≡ true
EndsOnce (r ∷ s ∷ rs) = (is_eof r ≡ false) × EndsOnce (s ∷ rs)

-- the first `used_by rs` of the bytes are link information, whole, and spell these records
pub record Spells (order : Order) (bytes : List ℕ) (rs : List Record) : Type 0 where
  pub spelled : AreSpelled order bytes rs
  pub ends : EndsOnce rs

-- the reason for which a record of a type is refused, whatever else it has: types above 14 are
-- unknown, 11 to 14 are of separate procedures, 2, 5, 6, 9 and 10 of native code
abbrev pub type_fault : ℕ → Option Reason
type_fault kind =
    if nat_lt 14 kind then Some reason.UnknownRecord
    else (if nat_lt 10 kind then Some reason.SeparateRecord
    else (if kind == 2 || kind == 5 || kind == 6 || kind == 9 || kind == 10
    then Some reason.NativeRecord else None))

-- the format of a reference record of a type: 1 BYTE of a UNITREF, 2 BIG of a PUBLREF and of a
-- PRIVREF; other records have none
abbrev pub format_of : ℕ → Option ℕ
format_of kind = if kind == 1 then Some 1 else (if kind == 3 || kind == 4 then Some 2 else None)

-- why the bytes begin with no reference record of this format: format 0 is WORD, of native code
abbrev pub bad_format : Order → List ℕ → ℕ → Option Reason
bad_format order bytes format =
    let given = word_at order bytes 10 in
    if given == 0 then Some reason.NativeRecord
    else (if not (given == format) then Some reason.BadFormat
    else (if nat_lt (length bytes) (16 + list_len (word_at order bytes 12))
    then Some reason.RecordsTruncated else None))

-- why the bytes begin with no record, the first that fits of: fewer than 16 bytes, its type, its
-- format, a list that is not whole
abbrev pub bad : Order → List ℕ → Option Reason
bad order bytes =
    let kind = word_at order bytes 8 in
    if nat_lt (length bytes) 16 then Some reason.RecordsTruncated
    else option_or (type_fault kind)
    (elim (format_of kind) [ None ↦ None | Some format ↦ bad_format order bytes format ])

-- the bytes begin with the spellings of the records, none of them an EOFMARK, and no record follows
-- them, for this reason
pub record Stops (order : Order) (bytes : List ℕ) (rs : List Record) (why : Reason) : Type 0 where
  pub spelled : AreSpelled order bytes rs
  pub goes_on : AllByRecursion (λ r. is_eof r ≡ false) rs
  pub stops : bad order (drop (used_by rs) bytes) ≡ Some why

-- what the first words of x spell, where no fault applies
abbrev pub body_at : Order → List ℕ → Body
body_at order x =
    let kind = word_at order x 8 in
    let a = word_at order x 10 in
    let refs = refs_at order x (word_at order x 12) in
    if kind == 1 then UnitRef refs
    else (if kind == 3 then PublRef refs
    else (if kind == 4 then PrivRef (word_at order x 14) refs
    else (if kind == 7 then PublDef a
    else (if kind == 8 then ConstDef a else Eof a))))

-- the first record of x, where `bad` gives no reason
abbrev pub record_at : Order → List ℕ → Record
record_at order x = record { name = take 8 x; body = body_at order x }

-- the reading of the bytes, of n records at most
abbrev pub read_from : ℕ → Order → List ℕ → List Record × Option Reason
read_from zero order bytes = ([], Some reason.RecordsTruncated)
read_from (suc n) order bytes =
    elim (bad order bytes) [
      | Some why ↦ ([], Some why)
      | None ↦
          let r = record_at order bytes in
          elim (is_eof r) [
            | true ↦ (r ∷ [], None)
            | false ↦ let rest = read_from n order (drop (size_of r) bytes) in
                (r ∷ rest.0, rest.1)
          ]
    ]

-- the reading of the bytes, as a function: the records that they spell and no fault, or the records
-- before the first fault and its reason; the law `one_reading` says that it agrees with `Spells`
-- and `Stops`
abbrev pub reading : Order → List ℕ → List Record × Option Reason
reading order bytes = read_from (length bytes / 16 + 1) order bytes

-- the bytes spell these records, and no others
pub record IsReading (order : Order) (bytes : List ℕ) (rs : List Record) : Type 0 where
  pub spells : Spells order bytes rs
  pub only : (others : List Record) → Spells order bytes others → others ≡ rs

-- why no list of records was read: as many records are before the fault, and the bytes spell no
-- list; or memory ran out
abbrev pub IsReadStop : Order → List ℕ → ReadStop → Type 0
IsReadStop order bytes (Refused rec why) =
    (rs : List Record) × (length rs ≡ rec) × Stops order bytes rs why
    × ((others : List Record) → Spells order bytes others → ⊥)
IsReadStop order bytes Memory = ⊤
