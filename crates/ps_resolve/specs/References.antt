-- The references of a segment: what their operands become, and the first fault of them.
-- Source: the link records UNITREF, PUBLREF and PRIVREF are those of the published II.0 Linker
-- source; which fault comes first is this project's profile.
use Rattle.std.specs.Prelude.{◌≡◌, ℕ, ◌+◌, List, [], ◌∷◌, ◌++◌, map, Bool, true, false, if◌then◌else◌, Option, Some, None, Result, Ok, Err, All, sum_by, bytes_eq}
use Rattle.std.specs.Option.{option_map, option_or, unwrap_or}
use Rattle.std.specs.Map.{lookup}
use Rattle.ps_words.specs.declared.edit.Edit.{Edit}
use Rattle.ps_words.specs.declared.fault.Reason.{Reason}
use Rattle.ps_words.specs.declared.fault.Reason.TheVariants as reason
use Rattle.ps_codefile.specs.Procedures.{is_reserved, ProcedureTables}
use Rattle.ps_linkinfo.specs.Records.{refs_of}
use Rattle.ps_linkinfo.specs.declared.record.Body.{Body}
use Rattle.ps_linkinfo.specs.declared.record.Body.TheVariants.{UnitRef, PublRef, PrivRef, PublDef, ConstDef, Eof}
use Rattle.ps_linkinfo.specs.declared.record.LinkRecord.{LinkRecord as Record}
use Rattle.ps_resolve.specs.Symbols.{definition_of}
use Rattle.ps_resolve.specs.Privates.{words_in}
use Rattle.ps_resolve.specs.Operands.{edit_of, operands, refs_fault}
use Rattle.ps_resolve.specs.declared.definitions.Def.{Def}
use Rattle.ps_resolve.specs.declared.definitions.DefKind.TheVariants.{Public, Constant}
use Rattle.ps_resolve.specs.declared.references.Target.{Target}
use Rattle.ps_resolve.specs.declared.references.Target.TheVariants.{Slot, Base}

-- definitions, and slots of units by name, or that each name is defined, and is a unit's
pub record Known : Type 0 where
  pub each : Bool
  pub definitions : List (List ℕ × Def)
  pub units : List (List ℕ × ℕ)

-- what names stand for by these definitions and these slots of units
abbrev pub known_by : List (List ℕ × Def) → List (List ℕ × ℕ) → Known
known_by definitions units = record { each = false; definitions = definitions; units = units }

-- the base offset from which on a host that would define each name has its variables
abbrev pub lone_base : ℕ
lone_base = 1

-- what names stand for in a host that would define each: a public of that base offset, and a unit
abbrev pub each_name : Known
each_name = record { each = true; definitions = []; units = [] }

-- the definition of a name
abbrev pub known_definition : Known → List ℕ → Option Def
known_definition known name = if known.each then Some (record { kind = Public; value = lone_base })
    else definition_of name known.definitions

-- the slot of the unit of a name
abbrev pub known_unit : Known → List ℕ → Option ℕ
known_unit known name = if known.each then Some 0 else lookup (bytes_eq name) known.units

-- the base offset of a public variable, or why its definition gives none
abbrev pub public_base : Option Def → Result Target Reason
public_base None = Err reason.MissingDefinition
public_base (Some d) = elim d.kind [
  | Public ↦ Ok (Base d.value)
  | Constant ↦ Err reason.IllKind
]

-- the slot of a unit, or the fault of a unit that no slot has
abbrev pub unit_slot : Option ℕ → Result Target Reason
unit_slot None = Err reason.MissingUnitRef
unit_slot (Some slot) = Ok (Slot slot)

-- what the operands of a record's references become; a record without references has none
abbrev pub target_in : Known → ℕ → List ℕ → Body → Result Target Reason
target_in known off name (UnitRef refs) = unit_slot (known_unit known name)
target_in known off name (PublRef refs) = public_base (known_definition known name)
target_in known off name (PrivRef words refs) = Ok (Base off)
target_in known off name (PublDef value) = Ok (Slot 0)
target_in known off name (ConstDef value) = Ok (Slot 0)
target_in known off name (Eof next) = Ok (Slot 0)

-- what an operand of the record becomes, or why it becomes nothing
abbrev pub target_of : Known → ℕ → Record → Result Target Reason
target_of known off r = target_in known off r.name r.body

-- the record is no UNITREF or PUBLREF of a name that stands for nothing, or for a constant
abbrev pub HasTarget : Known → Record → Type 0
HasTarget known r = (t : Target) × (target_of known 0 r ≡ Ok t)

-- each record has what its operands become
abbrev pub HaveTargets : Known → List Record → Type 0
HaveTargets known rs = All (HasTarget known) rs

-- how many words a record's private takes
abbrev pub words_taken : Body → ℕ
words_taken body = unwrap_or (words_in body) 0

-- how many words the privates of records take
abbrev pub words_taken_by : List Record → ℕ
words_taken_by rs = sum_by (λ r. words_taken r.body) rs

-- The first fault of the records, the first of which has number `rec`, after references with the
-- operands `taken`.
abbrev pub records_fault : Known → (ℕ → Bool) → List ℕ → ℕ → ℕ
    → List (ℕ × ℕ) → List Record → Option (ℕ × (Option ℕ × Reason))
records_fault known reserved code rec off taken [] = None
records_fault known reserved code rec off taken (r ∷ rs) =
    elim (target_of known off r) [
      | Err why ↦ Some (rec, (None, why))
      | Ok t ↦ option_or (option_map (λ f. (rec, (Some f.0, f.1)))
          (refs_fault reserved code t 0 taken (refs_of r.body)))
          (records_fault known reserved code (rec + 1) (off + words_taken r.body)
          (taken ++ operands t (refs_of r.body)) rs)
    ]

-- the first fault of the records of a segment with these tables, whose privates begin at this
-- offset
abbrev pub first_record_fault : Known → ProcedureTables → ℕ → List Record
    → Option (ℕ × (Option ℕ × Reason))
first_record_fault known tables free rs =
    records_fault known (is_reserved tables.order tables.code) tables.code 0 free [] rs

-- the edits of the records' references, in order
abbrev pub record_edits : Known → List ℕ → ℕ → Record → List Edit
record_edits known code off r = elim (target_of known off r)
    [ Err why ↦ [] | Ok t ↦ map (edit_of code t) (refs_of r.body) ]

-- the edits of the references of these records, in record order
abbrev pub records_edits : Known → List ℕ → ℕ → List Record → List Edit
records_edits known code off [] = []
records_edits known code off (r ∷ rs) =
    record_edits known code off r ++ records_edits known code (off + words_taken r.body) rs
