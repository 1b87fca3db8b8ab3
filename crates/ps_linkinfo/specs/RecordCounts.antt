-- The counts of the records of link information: how many there are of each type, how many
-- references they have, the value of their EOFMARK, and a hash of their names.
-- Source: the types are those of the published II.0 Linker source; the hash is this project's
-- profile.
use Rattle.std.specs.Prelude.{◌≡◌, ℕ, ◌||◌, if◌then◌else◌, List, length, Bool, Option, Some, None, fold, count_by, sum_by, slice_get, unwrap_or, filter_map}
use Rattle.std.specs.Hash.DefaultHasher as sip
use Rattle.std.specs.declared.hash.DefaultHasher.{DefaultHasher}
use Rattle.ps_linkinfo.specs.Kinds.{defines_name, kind_of, requests_private, requests_public, requests_unit}
use Rattle.ps_linkinfo.specs.Records.{refs_of}
use Rattle.ps_linkinfo.specs.declared.record.Body.{Body}
use Rattle.ps_linkinfo.specs.declared.record.Body.TheVariants.{UnitRef, PublRef, PrivRef, PublDef, ConstDef, Eof}
use Rattle.ps_linkinfo.specs.declared.record.LinkRecord.{LinkRecord as Record}
use Rattle.ps_linkinfo.specs.declared.record_counts.RecordCounts.{RecordCounts}

-- the body is that of a PUBLDEF or a CONSTDEF, which define a name of the host
abbrev pub is_definition : Body → Bool
is_definition body = defines_name (kind_of body)

-- the body is that of a PRIVREF, which requests a private variable
abbrev pub is_private_reference : Body → Bool
is_private_reference body = requests_private (kind_of body)

-- the body is that of a PUBLREF, which requests a public variable
abbrev pub is_public_reference : Body → Bool
is_public_reference body = requests_public (kind_of body)

-- the body is that of a UNITREF, which requests a unit
abbrev pub is_unit_reference : Body → Bool
is_unit_reference body = requests_unit (kind_of body)

-- how many records define a name
abbrev pub definitions_in : List Record → ℕ
definitions_in rs = count_by (λ r. is_definition r.body) rs

-- how many records request a private
abbrev pub privates_in : List Record → ℕ
privates_in rs = count_by (λ r. is_private_reference r.body) rs

-- how many records request a public variable
abbrev pub publics_in : List Record → ℕ
publics_in rs = count_by (λ r. is_public_reference r.body) rs

-- how many records request a unit
abbrev pub units_in : List Record → ℕ
units_in rs = count_by (λ r. is_unit_reference r.body) rs

-- how many references all records have together
abbrev pub references_in : List Record → ℕ
references_in rs = sum_by (λ r. length (refs_of r.body)) rs

-- the next free base offset, which an EOFMARK alone gives
abbrev pub next_in : Body → Option ℕ
next_in (Eof next) = Some next
next_in (UnitRef refs) = None
next_in (PublRef refs) = None
next_in (PrivRef words refs) = None
next_in (PublDef value) = None
next_in (ConstDef value) = None

-- the next free base offset of the first EOFMARK, 0 where there is none
abbrev pub next_of : List Record → ℕ
next_of rs = unwrap_or (slice_get (filter_map (λ r. next_in r.body) rs) 0) 0

-- the record declares its name: that of a definition, or of a private
abbrev pub declares_name : Record → Bool
declares_name r = is_definition r.body || is_private_reference r.body

-- the state of a hash after the name of a record, if the record declares its name
abbrev pub with_declared_name : DefaultHasher → Record → DefaultHasher
with_declared_name s r = if declares_name r then sip.write s r.name else s

-- the state of a hash of the names that the records declare, in their order, and of nothing else
abbrev pub digest_of : List Record → DefaultHasher
digest_of rs = fold with_declared_name sip.initial rs

-- the counts of all sorts of records, and the value of the EOFMARK
abbrev pub record_counts_of : List Record → RecordCounts
record_counts_of rs = record {
  records = length rs;
  definitions = definitions_in rs;
  privates = privates_in rs;
  publics = publics_in rs;
  units = units_in rs;
  references = references_in rs;
  next = next_of rs;
}

-- the counts of the records but for their number, and the value of their EOFMARK
pub record AreCounted (rs : List Record) (definitions privates publics units references next : ℕ)
    : Type 0 where
  pub are_definitions : definitions ≡ definitions_in rs
  pub are_privates : privates ≡ privates_in rs
  pub are_publics : publics ≡ publics_in rs
  pub are_units : units ≡ units_in rs
  pub are_references : references ≡ references_in rs
  pub is_next : next ≡ next_of rs
