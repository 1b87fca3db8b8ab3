use Rattle.std.proofs.Common.{◌∙◌, ◌++◌, ◌+◌, ◌-◌, [], List, map, sym, ap, append_assoc, append-nil}
use Rattle.std.specs.Prelude.{Option, filter_map}
use Rattle.std.specs.List.{cons_option, range_with_len}
use Rattle.ps_codefile.specs.Dictionary.{slots}
use Rattle.ps_resolve.specs.Sources.{contents}
use Rattle.ps_check_segments.specs.Seen.{Seen, seen}
use Rattle.ps_check_segments.specs.SeenSegments.{seen_in}
use Rattle.ps_check_segments.proofs.Origins.{seen_left, seen_over}
use Rattle.ps_codefile.specs.declared.dictionary_layout.TheConstants.{SLOTS}
use Rattle.ps_check_segments.proofs.segments.segments_in_slots.Goals as goal

pub loop-slot-init : goal.loop-slot-init
loop-slot-init g c =
    let f = seen_in c.args.inputs.now.host.now (contents c.args.inputs.now.libs.now)
    c.args.host.now in
    ap (λ (l : List Seen). l ++ filter_map f slots) (ap (map seen) c.new-list.ensures.items)

pub loop-slot-preserved : goal.loop-slot-preserved
loop-slot-preserved g c =
    let f = seen_in c.args.inputs.now.host.now (contents c.args.inputs.now.libs.now)
    c.args.host.now in
    let i = c.loop-slot.slot in
    let before = map seen c.loop-slot.list.items in
    let rest = filter_map f (range_with_len (i + 1) (SLOTS - (i + 1))) in
    ap (λ (l : List Seen). l ++ rest) (c.in_ok-add_segment.ensures
    ∙ ap (λ (o : Option Seen). before ++ cons_option o []) c.segment_in-segment.ensures)
    ∙ (append_assoc before (cons_option (f i) []) rest
    ∙ (ap (λ (l : List Seen). before ++ l) (sym (seen_left f i SLOTS c.loop-slot-test.true))
    ∙ c.loop-slot.invariant))

pub returns : goal.returns
returns g c =
    let f = seen_in c.args.inputs.now.host.now (contents c.args.inputs.now.libs.now)
    c.args.host.now in
    let before = map seen c.loop-slot.list.items in
    sym (append-nil before)
    ∙ (ap (λ (l : List Seen). before ++ l)
    (sym (seen_over f c.loop-slot.slot SLOTS c.loop-slot-test.false)) ∙ c.loop-slot.invariant)
