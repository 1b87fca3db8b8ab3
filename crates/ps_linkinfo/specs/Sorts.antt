-- What a record is that is looked for by its name.
-- Source: the published II.0 Linker source.
use Rattle.std.specs.Prelude.{ℕ, ◌&&◌, List, Bool, Option, find, bytes_eq}
use Rattle.ps_linkinfo.specs.Kinds.{defines_variable, kind_of}
use Rattle.ps_linkinfo.specs.RecordCounts.{is_definition, is_private_reference, is_public_reference}
use Rattle.ps_linkinfo.specs.declared.record.Body.{Body}
use Rattle.ps_linkinfo.specs.declared.record.LinkRecord.{LinkRecord as Record}
use Rattle.ps_linkinfo.specs.declared.sort.Sort.{Sort}
use Rattle.ps_linkinfo.specs.declared.sort.Sort.TheVariants.{Request, Variable, Definition, Private}

-- the body is that of a PUBLDEF, which defines a public variable
abbrev pub is_public_definition : Body → Bool
is_public_definition body = defines_variable (kind_of body)

-- a record that says this is of this sort
abbrev pub is_of_sort : Sort → Body → Bool
is_of_sort Request body = is_public_reference body
is_of_sort Variable body = is_public_definition body
is_of_sort Definition body = is_definition body
is_of_sort Private body = is_private_reference body

-- the record has this name, and is of this sort
abbrev pub is_named : List ℕ → Sort → Record → Bool
is_named name sort r = bytes_eq name r.name && is_of_sort sort r.body

-- the first of these records with its index
abbrev pub first_named : List ℕ → Sort → List (ℕ × Record) → Option (ℕ × Record)
first_named name sort rs = find (λ r. is_named name sort r.1) rs
