-- How a check searches the link information of a segment; no contract of another crate cites it.
use Rattle.std.specs.Prelude.{ℕ, ◌+◌, ◌-◌, ◌*◌, ◌==◌, ◌&&◌, ◌||◌, not, if◌then◌else◌, List, length, nat_le, nat_lt, Bool, true, false, Option, Some, None, is_none, is_some, option_and_then}
use Rattle.std.specs.Option.{option_map}
use Rattle.ps_words.specs.Words.{displacement_at}
use Rattle.ps_linkinfo.specs.Numbered.{numbered_records}
use Rattle.ps_linkinfo.specs.RecordCounts.{next_in}
use Rattle.ps_linkinfo.specs.Sorts.{first_named}
use Rattle.ps_linkinfo.specs.declared.record.Body.{Body}
use Rattle.ps_linkinfo.specs.declared.record.Body.TheVariants.{UnitRef, PublRef, PrivRef, PublDef, ConstDef, Eof}
use Rattle.ps_linkinfo.specs.declared.record.LinkRecord.{LinkRecord as Record}
use Rattle.ps_linkinfo.specs.declared.sort.Sort.TheVariants as sort
use Rattle.ps_resolve.specs.Searches.{first_of}
use Rattle.ps_warnings.specs.declared.finding.Finding.{Finding}
use Rattle.ps_warnings.specs.declared.finding.Finding.TheVariants as which
use Rattle.ps_warnings.specs.declared.finding.RecordFinding.TheVariants as finding

-- what the end mark of these records says; none where no end mark was read
abbrev pub mark_in : ℕ × Record → Option ℕ
mark_in r = next_in r.1.body

abbrev pub end_mark : List Record → Option ℕ
end_mark rs = first_of mark_in (numbered_records 0 rs)

-- the end mark of a host program is below half the size of its own data, in bytes
abbrev pub low_below : ℕ → ℕ → Option Finding
low_below next size = if nat_lt (2 * next) size then Some (which.Record (finding.LowMark next size))
    else None

-- the end mark of a host program, if it was read and is low: none where its data have no size
abbrev pub low_mark : Option ℕ → Option ℕ → Option Finding
low_mark None size = None
low_mark (Some next) None = None
low_mark (Some next) (Some size) = low_below next size

-- a variable that the host program defines is above the next free base offset; one that is at it has
-- no words
abbrev pub high_value : ℕ → List ℕ → ℕ → Option Finding
high_value next name value = if nat_lt next value
    then Some (which.Record (finding.HighDefinition name value next)) else None

-- the variable that a record with this body defines is that high
abbrev pub high_as : ℕ → List ℕ → Body → Option Finding
high_as next name (PublDef value) = high_value next name value
high_as next name (UnitRef refs) = None
high_as next name (PublRef refs) = None
high_as next name (PrivRef words refs) = None
high_as next name (ConstDef value) = None
high_as next name (Eof at) = None

-- what is found of a record, with the record's index
abbrev pub at_index : ℕ → Option Finding → Option (ℕ × Finding)
at_index i found = option_map (λ l. (i, l)) found

abbrev pub high_in : ℕ → ℕ × Record → Option (ℕ × Finding)
high_in next r = at_index r.0 (high_as next r.1.name r.1.body)

-- the first record of a host program whose definition is too high
abbrev pub first_high : ℕ → List (ℕ × Record) → Option (ℕ × Finding)
first_high next rs = first_of (high_in next) rs

-- the same of all records of a host program, if its end mark was read
abbrev pub first_above : List Record → Option (ℕ × Finding)
first_above rs = option_and_then (λ next. first_high next (numbered_records 0 rs)) (end_mark rs)

-- a displacement is past a variable of so many words; one of no words begins where the next one does
abbrev pub is_past : ℕ → ℕ → Bool
is_past words displacement = not (nat_lt displacement words)
    && not (words == 0 && displacement == 0)

-- the operand at a place of a code is past the words of its variable, where the code has both of
-- its bytes
abbrev pub past_words : List ℕ → ℕ → ℕ → Option Finding
past_words code words place =
    if nat_lt (place + 1) (length code) && is_past words (displacement_at code place)
    then Some (which.Record (finding.PastPrivate place (displacement_at code place) words))
    else None

-- the first operand of a record with this body that is past the words of its private
abbrev pub past_as : List ℕ → Body → Option Finding
past_as code (PrivRef words refs) = first_of (past_words code words) refs
past_as code (UnitRef refs) = None
past_as code (PublRef refs) = None
past_as code (PublDef value) = None
past_as code (ConstDef value) = None
past_as code (Eof at) = None

abbrev pub past_in : List ℕ → ℕ × Record → Option (ℕ × Finding)
past_in code r = at_index r.0 (past_as code r.1.body)

-- the first record of a segment with such an operand
abbrev pub first_past : List ℕ → List (ℕ × Record) → Option (ℕ × Finding)
first_past code rs = first_of (past_in code) rs

-- the base offset of a public variable of this name: that of the first definition, if it is of a
-- variable
abbrev pub public_value_in : Body → Option ℕ
public_value_in (PublDef value) = Some value
public_value_in (UnitRef refs) = None
public_value_in (PublRef refs) = None
public_value_in (PrivRef words refs) = None
public_value_in (ConstDef value) = None
public_value_in (Eof at) = None

abbrev pub public_value_of : List Record → List ℕ → Option ℕ
public_value_of host name = option_and_then (λ r. public_value_in r.1.body)
    (first_named name sort.Definition (numbered_records 0 host))

-- a displacement leads to the end mark or past it, from a public variable that begins below it or at
-- it: such a variable ends where the end mark is, and at the end mark it has no words
abbrev pub is_past_mark : ℕ → ℕ → ℕ → Bool
is_past_mark next value displacement = nat_le value next && is_past (next - value) displacement

-- the operand at a place of a code leads to the end mark or past it, by a public variable of this name
-- and base offset, where the code has both of its bytes
abbrev pub past_mark : List ℕ → List ℕ → ℕ → ℕ → ℕ → Option Finding
past_mark code name next value place =
    if nat_lt (place + 1) (length code) && is_past_mark next value (displacement_at code place)
    then Some (which.Record (finding.PastPublic place name (displacement_at code place) value next))
    else None

-- the first of these operands, where the end mark and the base offset are known
abbrev pub first_past_mark : List ℕ → List ℕ → Option ℕ → Option ℕ → List ℕ → Option Finding
first_past_mark code name None value refs = None
first_past_mark code name (Some next) None refs = None
first_past_mark code name (Some next) (Some value) refs =
    first_of (past_mark code name next value) refs

-- the first operand of a record with this body that leads to the end mark of the host program or past
-- it
abbrev pub public_as : List ℕ → List Record → List ℕ → Body → Option Finding
public_as code host name (PublRef refs) =
    first_past_mark code name (end_mark host) (public_value_of host name) refs
public_as code host name (UnitRef refs) = None
public_as code host name (PrivRef words refs) = None
public_as code host name (PublDef value) = None
public_as code host name (ConstDef value) = None
public_as code host name (Eof at) = None

abbrev pub public_in : List ℕ → List Record → ℕ × Record → Option (ℕ × Finding)
public_in code host r = at_index r.0 (public_as code host r.1.name r.1.body)

-- the first record of a segment with such an operand, by the host program that it meets in the link
abbrev pub first_public : List ℕ → Option (List Record) → List (ℕ × Record)
    → Option (ℕ × Finding)
first_public code None rs = None
first_public code (Some host) rs = first_of (public_in code host) rs

-- the host program that a unit meets in the link defines the name, or may define it: where the unit
-- meets none, or where records of it cannot be read
abbrev pub is_defined : Option (List Record) → List ℕ → Bool
is_defined None name = true
is_defined (Some host) name = is_none (end_mark host)
    || is_some (first_named name sort.Definition (numbered_records 0 host))

-- a unit refers to a name that it defines itself
abbrev pub is_requested : List Record → List ℕ → Bool
is_requested rs name = is_some (first_named name sort.Request (numbered_records 0 rs))

-- a unit's definition of a name is missed: the unit refers to the name, and the host program does not
-- define it
abbrev pub is_missed : List Record → Option (List Record) → List ℕ → Bool
is_missed rs host name = is_requested rs name && not (is_defined host name)

-- a definition of a name that is missed, and one that has no effect
abbrev pub missed_or_not : Bool → Bool → List ℕ → Option Finding
missed_or_not true true name = Some (which.Record (finding.OwnDefinition name))
missed_or_not false false name = Some (which.Record (finding.UnitDefinition name))
missed_or_not true false name = None
missed_or_not false true name = None

-- what a record with this name and body is, where those are looked for that are missed, or the others
abbrev pub definition_as : Bool → List Record → Option (List Record) → List ℕ → Body
    → Option Finding
definition_as missed rs host name (PublDef value) = missed_or_not missed (is_missed rs host name) name
definition_as missed rs host name (UnitRef refs) = None
definition_as missed rs host name (PublRef refs) = None
definition_as missed rs host name (PrivRef words refs) = None
definition_as missed rs host name (ConstDef value) = None
definition_as missed rs host name (Eof at) = None

abbrev pub numbered_definition : Bool → List Record → Option (List Record) → ℕ × Record
    → Option (ℕ × Finding)
numbered_definition missed rs host r = at_index r.0 (definition_as missed rs host r.1.name r.1.body)

-- the first definition of a unit that is missed, or the first other one
abbrev pub first_definition : Bool → List Record → Option (List Record) → List (ℕ × Record)
    → Option (ℕ × Finding)
first_definition missed rs host numbered = first_of (numbered_definition missed rs host) numbered
