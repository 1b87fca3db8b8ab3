-- The kinds of records, and what only its kind says of a record: the word for it, how many bytes
-- its operands have, and what it defines, allots or requests. All else asks these.
-- Source: the published II.0 Linker source.
use Rattle.std.specs.Prelude.{ℕ, List, Bool, true, false, codes}
use Rattle.ps_linkinfo.specs.declared.kind.Kind.{Kind}
use Rattle.ps_linkinfo.specs.declared.kind.Kind.TheVariants as kind
use Rattle.ps_linkinfo.specs.declared.record.Body.{Body}
use Rattle.ps_linkinfo.specs.declared.record.Body.TheVariants.{UnitRef, PublRef, PrivRef, PublDef, ConstDef, Eof}

-- the kind of a record that says this
abbrev pub kind_of : Body → Kind
kind_of (UnitRef refs) = kind.UnitRef
kind_of (PublRef refs) = kind.PublRef
kind_of (PrivRef words refs) = kind.PrivRef
kind_of (PublDef value) = kind.PublDef
kind_of (ConstDef value) = kind.ConstDef
kind_of (Eof next) = kind.Eof

-- the word for a kind
abbrev pub kind_word : Kind → List ℕ
kind_word kind.UnitRef = codes "UNITREF"
kind_word kind.PublRef = codes "PUBLREF"
kind_word kind.PrivRef = codes "PRIVREF"
kind_word kind.PublDef = codes "PUBLDEF"
kind_word kind.ConstDef = codes "CONSTDEF"
kind_word kind.Eof = codes "EOFMARK"

-- how many bytes the operand of each of its references has: one of a unit's number, two of a BIG
-- value; other records have no operands
abbrev pub kind_width : Kind → ℕ
kind_width kind.UnitRef = 1
kind_width kind.PublRef = 2
kind_width kind.PrivRef = 2
kind_width kind.PublDef = 0
kind_width kind.ConstDef = 0
kind_width kind.Eof = 0

-- the record defines a public variable of the host
abbrev pub defines_variable : Kind → Bool
defines_variable kind.PublDef = true
defines_variable kind.ConstDef = false
defines_variable kind.UnitRef = false
defines_variable kind.PublRef = false
defines_variable kind.PrivRef = false
defines_variable kind.Eof = false

-- the record defines a name of the host
abbrev pub defines_name : Kind → Bool
defines_name kind.PublDef = true
defines_name kind.ConstDef = true
defines_name kind.UnitRef = false
defines_name kind.PublRef = false
defines_name kind.PrivRef = false
defines_name kind.Eof = false

-- the record requests a private variable, which is allotted
abbrev pub requests_private : Kind → Bool
requests_private kind.PrivRef = true
requests_private kind.UnitRef = false
requests_private kind.PublRef = false
requests_private kind.PublDef = false
requests_private kind.ConstDef = false
requests_private kind.Eof = false

-- the record requests a public variable
abbrev pub requests_public : Kind → Bool
requests_public kind.PublRef = true
requests_public kind.UnitRef = false
requests_public kind.PrivRef = false
requests_public kind.PublDef = false
requests_public kind.ConstDef = false
requests_public kind.Eof = false

-- the record requests a unit
abbrev pub requests_unit : Kind → Bool
requests_unit kind.UnitRef = true
requests_unit kind.PublRef = false
requests_unit kind.PrivRef = false
requests_unit kind.PublDef = false
requests_unit kind.ConstDef = false
requests_unit kind.Eof = false
