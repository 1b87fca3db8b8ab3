use Rattle.ps_linkfile.proofs.Vocabulary.{filter, range_with_len, entry_at, ◌≡◌, ◌≤◌, ◌-◌, ◌++◌, length, map, unit_names, SLOTS}
use Rattle.ps_resolve.specs.Faults.{is_role}
use Rattle.ps_codefile.specs.Roles.{is_unit}
use Rattle.ps_linkfile.proofs.show.unit_names.Given as goal

-- the names so far and those of the units in the slots that are left are all
abbrev pub invariant-loop-slot : goal.invariant-loop-slot
invariant-loop-slot l = record {
  all : l.names.items ++ map (λ slot. (entry_at l.dict.order l.dict.file slot).name)
      (filter (is_role is_unit l.dict.order l.dict.file) (range_with_len l.slot (SLOTS - l.slot)))
      ≡ unit_names l.dict.order l.dict.file;
  few : length l.names.items ≤ l.slot;
}
