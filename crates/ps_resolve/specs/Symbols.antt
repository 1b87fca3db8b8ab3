-- Definitions of the host: names with their values, and the first record that defines a name again.
-- Source: the link records PUBLDEF and CONSTDEF are those of the published II.0 Linker source; that
-- a name is defined once is this project's profile.
use Rattle.std.specs.Prelude.{ℕ, ◌+◌, if◌then◌else◌, List, [], ◌∷◌, ◌++◌, Option, Some, None, is_some, filter_map, bytes_eq}
use Rattle.std.specs.Map.{lookup}
use Rattle.ps_linkinfo.specs.declared.record.Body.{Body}
use Rattle.ps_linkinfo.specs.declared.record.Body.TheVariants.{PublDef, ConstDef}
use Rattle.ps_linkinfo.specs.declared.record.LinkRecord.{LinkRecord as Record}
use Rattle.ps_resolve.specs.declared.definitions.Def.{Def}
use Rattle.ps_resolve.specs.declared.definitions.DefKind.TheVariants.{Public, Constant}

-- what a record defines: a value where its kind defines a name
abbrev pub def_in : Body → Option Def
def_in (PublDef value) = Some (record { kind = Public; value = value })
def_in (ConstDef value) = Some (record { kind = Constant; value = value })
def_in other = None

-- the name that a record defines, with its definition
abbrev pub definition_in : Record → Option (List ℕ × Def)
definition_in r = elim (def_in r.body) [ None ↦ None | Some d ↦ Some (r.name, d) ]

-- all definitions, in record order
abbrev pub definitions : List Record → List (List ℕ × Def)
definitions rs = filter_map definition_in rs

-- the definition of a name
abbrev pub definition_of : List ℕ → List (List ℕ × Def) → Option Def
definition_of name ds = lookup (bytes_eq name) ds

-- The number of the first record of rs, the first of which has number `rec`, that defines a name
-- again which `ds` have or an earlier record defines.
abbrev pub first_duplicate_from : ℕ → List (List ℕ × Def) → List Record → Option ℕ
first_duplicate_from rec ds [] = None
first_duplicate_from rec ds (r ∷ rs) =
    elim (definition_in r) [
      | None ↦ first_duplicate_from (rec + 1) ds rs
      | Some d ↦ if is_some (definition_of d.0 ds) then Some rec
          else first_duplicate_from (rec + 1) (ds ++ d ∷ []) rs
    ]

-- the index of the first record that defines a name again
abbrev pub first_duplicate : List Record → Option ℕ
first_duplicate rs = first_duplicate_from 0 [] rs
