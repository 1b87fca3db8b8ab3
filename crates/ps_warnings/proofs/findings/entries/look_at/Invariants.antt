use Rattle.std.proofs.Common.{◌-◌, map}
use Rattle.std.specs.List.{flat_map, range_with_len}
use Rattle.std.specs.Option.{option_map}
use Rattle.ps_codefile.specs.Dictionary.{slots}
use Rattle.ps_warnings.specs.Searches.FileFindings.{findings_of_slot}
use Rattle.ps_warnings.specs.Found.{about_link}
use Rattle.ps_check_segments.specs.Paths.{path_of, paths_in}
use Rattle.ps_check_segments.specs.Seen.{seen}
use Rattle.ps_warnings.proofs.Found.{Owes}
use Rattle.ps_codefile.specs.declared.dictionary_layout.TheConstants.{SLOTS}
use Rattle.ps_warnings.proofs.findings.entries.look_at.Given as goal

-- what looks wrong in the slots that are left is still to be added
abbrev pub invariant-loop-slot : goal.invariant-loop-slot
invariant-loop-slot g l =
    let of_slot = findings_of_slot (path_of (paths_in l.context.inputs.now) l.file) (option_map
    (λ h. h.now) l.context.host) (map seen l.context.list.now) l.dict.order l.dict.file l.file in
    Owes (about_link l.fn.findings) (flat_map of_slot slots)
    (flat_map of_slot (range_with_len l.slot (SLOTS - l.slot)))
    (about_link l.findings)
