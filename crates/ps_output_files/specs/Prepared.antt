-- A link that was prepared, with what its map is to have.
use Rattle.std.specs.Prelude.{ℕ, List}
use Rattle.ps_resolve.specs.Plans.{Planned}
use Rattle.ps_linkfile.specs.MapText.{map_as}
use Rattle.ps_linkfile.specs.ReferencesJson.{referenced_in}
use Rattle.ps_writing.specs.declared.rows.Form.{Form}
use Rattle.ps_output_files.specs.declared.prepared.Prepared.{Prepared}
use Rattle.ps_output_files.specs.declared.prepared.Prepared.TheVariants as prepared

-- the plan of what is prepared
abbrev pub plan_of : {A : Type 0} → Prepared A → Planned
plan_of (prepared.Linked linked) = linked
plan_of (prepared.Referenced map) = map.plan

-- the bytes of the map of what is prepared
abbrev pub map_bytes : {A : Type 0} → Form → Prepared A → List ℕ
map_bytes form (prepared.Linked linked) = map_as form linked
map_bytes form (prepared.Referenced map) = referenced_in form map
