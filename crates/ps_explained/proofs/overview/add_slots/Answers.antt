use Rattle.std.proofs.Common.{◌++◌, List, ℕ, ap, append_assoc, map, string_bytes}
use Rattle.ps_codefile.specs.declared.dictionary_layout.TheConstants.{SLOTS}
use Rattle.ps_check_segments.specs.Seen.{seen}
use Rattle.ps_explained.specs.OverviewText.{is_without}
use Rattle.ps_explained.proofs.OverviewTexts.{slots_begin, slots_left}
use Rattle.ps_explained.proofs.overview.add_slots.Goals as goal

pub loop-slot-init : goal.loop-slot-init
loop-slot-init g c = ap (λ (t : List ℕ). string_bytes c.args.text.now ++ t)
    (slots_begin c.args.host.now (map seen c.args.list.now))

pub loop-slot-preserved : goal.loop-slot-preserved
loop-slot-preserved g c =
    let p = is_without c.args.host.now (map seen c.args.list.now) in
    let left = slots_left p SLOTS c.loop-slot.slot c.loop-slot-test.true in
    rw (c.in_ok-add_slot.ensures, c.is_without.ensures, append_assoc, ← left) c.loop-slot.invariant
