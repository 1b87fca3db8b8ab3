use Rattle.std.proofs.Common.{◌≡◌, ◌∙◌, ◌++◌, ◌∷◌, List, ℕ, ap, append_assoc, map, string_bytes, take}
use Rattle.ps_resolve.specs.Sources.{contents}
use Rattle.ps_check_segments.specs.Seen.{Seen, seen}
use Rattle.ps_check_segments.specs.declared.segments.ReadSegment.{ReadSegment}
use Rattle.ps_explained.specs.OverviewText.{segment_text, segment_texts}
use Rattle.ps_explained.specs.SegmentLines.{line_in_slot, read_line, read_lines}
use Rattle.ps_lists.proofs.Tests.{flat_map_more}
use Rattle.ps_explained.proofs.SlotLines.{adds_then, adds_then_none}
use Rattle.ps_explained.proofs.overview.add_each.Goals as goal

pub loop-segment-preserved : goal.loop-segment-preserved
unfolding segment_text
loop-segment-preserved g c =
    let i = c.args.inputs.now in
    let paths : List (List ℕ) = i.host_path.now ∷ contents i.paths.now in
    let text_of = segment_text paths i.host.now (contents i.libs.now) c.args.unread in
    let lines_of = λ (x : Seen). line_in_slot x.slot (read_line paths c.args.unread x) in
    let old = string_bytes c.args.text.now in
    let before = string_bytes c.loop-segment.text in
    let after = string_bytes c.add_later_of.new.text in
    let s : ReadSegment = c.segment-item.result in
    let one = adds_then_none before (string_bytes c.add_segment.new.text) after (lines_of (seen s))
    c.in_ok-add_segment.ensures.lines c.in_ok-add_later_of.ensures.lines in
    let both : after ≡ before ++ text_of (seen s) =
    rw (c.in_ok-add_later_of.ensures.text, c.in_ok-add_segment.ensures.text) (simp append_assoc) in
    let list : List ReadSegment = c.args.list.now in
    let k = c.loop-segment.segment-index in
    record {
      lines = rw (flat_map_more lines_of seen list k s c.loop-segment-test.true
          c.segment-item.is)
          (adds_then old before after (read_lines paths c.args.unread (map seen (take k list)))
          (lines_of (seen s)) c.loop-segment.invariant.lines one);
      text = rw (flat_map_more text_of seen list k s c.loop-segment-test.true
          c.segment-item.is)
          (both ∙ ap (λ (t : List ℕ). t ++ text_of (seen s)) c.loop-segment.invariant.text
          ∙ append_assoc old (segment_texts paths i.host.now (contents i.libs.now) c.args.unread
          (map seen (take k list))) (text_of (seen s)));
    }
