-- What a table of places stands for.
use Rattle.std.specs.Prelude.{◌≡◌, ℕ, ◌<◌, ◌||◌, List, length}
use Rattle.std.specs.List.{list_any}
use Rattle.ps_codefile.specs.Procedures.{is_reserved, ProcedureTables}
use Rattle.ps_resolve.specs.EditTables.{is_taken_at}
use Rattle.ps_resolve.specs.Operands.{is_in}
use Rattle.ps_resolve.specs.declared.edit_table.PlaceState.{PlaceState}

-- the places that a table of a code has taken: those that are reserved and those of these operands
abbrev pub AreTaken : ProcedureTables → List PlaceState → List (ℕ × ℕ) → Type 0
AreTaken tables ts taken =
    (p : ℕ) → p < length tables.code
    → is_taken_at ts p ≡ (is_reserved tables.order tables.code p
    || list_any (is_in p) taken)
