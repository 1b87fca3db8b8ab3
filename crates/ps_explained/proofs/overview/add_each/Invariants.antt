use Rattle.std.proofs.Common.{◌≡◌, ◌++◌, ◌∷◌, map, string_bytes, take}
use Rattle.ps_resolve.specs.Sources.{contents}
use Rattle.ps_check_segments.specs.Paths.{paths_in}
use Rattle.ps_check_segments.specs.Seen.{seen}
use Rattle.ps_explained.specs.OverviewText.{segment_texts}
use Rattle.ps_explained.specs.SegmentLines.{read_lines}
use Rattle.ps_explained.specs.SlotLines.{AddsSlotLines}
use Rattle.ps_explained.proofs.overview.add_each.Given as goal

-- the lines of the segments so far are added
abbrev pub invariant-loop-segment : goal.invariant-loop-segment
invariant-loop-segment g l = record {
  lines : AddsSlotLines (string_bytes l.fn.text)
      (read_lines (l.inputs.host_path.now ∷ contents l.inputs.paths.now) l.unread
      (map seen (take l.segment-index l.list))) (string_bytes l.text);
  text : string_bytes l.text ≡ string_bytes l.fn.text
      ++ segment_texts (paths_in l.inputs) l.inputs.host.now (contents l.inputs.libs.now)
      l.unread (map seen (take l.segment-index l.list));
}
