use Rattle.std.proofs.Common.{map, refl}
use Rattle.std.specs.Option.{option_map}
use Rattle.ps_warnings.specs.Searches.FileFindings.{findings_of_slot}
use Rattle.ps_check_segments.specs.Paths.{path_of, paths_in}
use Rattle.ps_check_segments.specs.Seen.{seen}
use Rattle.ps_warnings.proofs.Found.{none_then, owes_after, owes_all, owes_less, owes_none, slots_left, slots_over}
use Rattle.ps_codefile.specs.declared.dictionary_layout.TheConstants.{SLOTS}
use Rattle.ps_warnings.proofs.findings.entries.look_at.Goals as goal

pub loop-slot-init : goal.loop-slot-init
loop-slot-init g c = owes_after c.in_ok-add_unsure.ensures (owes_all refl)

pub loop-slot-preserved : goal.loop-slot-preserved
loop-slot-preserved g c =
    owes_less (slots_left (findings_of_slot (path_of
    (paths_in c.args.context.now.inputs.now) c.args.file)
    (option_map (λ h. h.now) c.args.context.now.host) (map seen c.args.context.now.list.now)
    c.args.dict.now.order c.args.dict.now.file c.args.file) c.loop-slot.slot SLOTS
    c.loop-slot-test.true)
    c.loop-slot.invariant (none_then c.in_ok-add_unsure-2.ensures c.in_ok-look_at_slot.ensures)

pub returns : goal.returns
returns g c =
    owes_none (slots_over (findings_of_slot (path_of
    (paths_in c.args.context.now.inputs.now) c.args.file)
    (option_map (λ h. h.now) c.args.context.now.host) (map seen c.args.context.now.list.now)
    c.args.dict.now.order c.args.dict.now.file c.args.file) c.loop-slot.slot SLOTS
    c.loop-slot-test.false)
    c.loop-slot.invariant
