-- What of the records of a link a fault is about: the earlier reference that covers a place, and
-- the words of the privates before a record.
use Rattle.std.specs.Prelude.{ℕ, ◌+◌, ◌==◌, ◌&&◌, if◌then◌else◌, List, [], length, take, sum_by, nat_lt, Bool, false, Option}
use Rattle.std.specs.List.{find, range_with_len}
use Rattle.std.specs.Option.{option_map, option_map_or}
use Rattle.ps_linkinfo.specs.Operands.{operand_of}
use Rattle.ps_linkinfo.specs.Records.{refs_of}
use Rattle.ps_linkinfo.specs.declared.operand.Operand.{Operand}
use Rattle.ps_linkinfo.specs.declared.record.Body.{Body}
use Rattle.ps_linkinfo.specs.declared.record.LinkRecord.{LinkRecord as Record}
use Rattle.ps_resolve.specs.References.{words_taken_by}
use Rattle.ps_reading.specs.Searches.{first_of}
use Rattle.ps_reading.specs.Sources.{Segment}
use Rattle.ps_reading.specs.declared.locations.ReferenceAt.{ReferenceAt}

-- the two operands have a byte in common
abbrev pub share_a_byte : Operand → Operand → Bool
share_a_byte a b = nat_lt a.place (b.place + b.width) && nat_lt b.place (a.place + a.width)

-- the operand of this reference of a record has a byte of the operand
abbrev pub covers : Operand → Body → ℕ → Bool
covers operand body reference = option_map_or (share_a_byte operand)
    (operand_of body reference) false

-- the first reference of a record, of its first n, that does
abbrev pub first_covering : Operand → ℕ → Body → Option ℕ
first_covering operand n body = find (covers operand body) (range_with_len 0 n)

-- how many references of a record with this index are before this place
abbrev pub references_before : ReferenceAt → ℕ × Record → ℕ
references_before place r = if nat_lt r.0 place.at.rec then length (refs_of r.1.body)
    else (if r.0 == place.at.rec then place.reference else 0)

-- where that reference is
abbrev pub covering_in : ReferenceAt → Operand → ℕ × Record → Option ReferenceAt
covering_in place operand r =
    option_map (λ k. record { at = record place.at { rec = r.0 }; reference = k })
    (first_covering operand (references_before place r) r.1.body)

-- the first reference, by record and then in the record's list, that is before this place and whose
-- operand has a byte of the operand
abbrev pub first_before : ReferenceAt → Operand → List (ℕ × Record)
    → Option ReferenceAt
first_before place operand rs = first_of (covering_in place operand) rs

-- the records of a segment that are before record `rec` of this slot
abbrev pub records_before : ℕ → ℕ → Segment → List Record
records_before slot rec s = if nat_lt s.slot slot then s.records
    else (if s.slot == slot then take rec s.records else [])

-- how many words the privates of all those records take
abbrev pub words_before : ℕ → ℕ → List Segment → ℕ
words_before slot rec segs = sum_by (λ s. words_taken_by (records_before slot rec s)) segs
