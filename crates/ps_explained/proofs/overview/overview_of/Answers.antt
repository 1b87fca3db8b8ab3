use Rattle.std.proofs.Common.{◌∷◌, List, ℕ, map, string_bytes}
use Rattle.ps_resolve.specs.Sources.{contents}
use Rattle.ps_check_segments.specs.Seen.{seen}
use Rattle.ps_explained.specs.SegmentLines.{read_lines}
use Rattle.ps_explained.proofs.SlotLines.{adds_then_none, lines_in}
use Rattle.ps_explained.proofs.overview.overview_of.Goals as goal

pub returns-clause-read : goal.returns-clause-read
returns-clause-read g c =
    let paths : List (List ℕ) = c.args.inputs.now.host_path.now
    ∷ contents c.args.inputs.now.paths.now in
    let lines = read_lines paths c.has_unread.result (map seen c.args.list.now) in
    let whole = string_bytes c.add_rest_of.new.text in
    let all = adds_then_none (string_bytes c.new-segments.result)
    (string_bytes c.add_each.new.text) whole lines c.in_ok-add_each.ensures.lines
    c.in_ok-add_rest_of.ensures.lines in
    rw (← c.has_unread.ensures) (lines_in whole lines (rw c.new-segments.ensures.bytes at all))
