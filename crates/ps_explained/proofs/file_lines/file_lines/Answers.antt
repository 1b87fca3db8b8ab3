use Rattle.std.proofs.Common.{◌<◌, ◌≤◌, ◌∷◌, [], ℕ, List, Bor, append-nil, arith, length, refl, string_bytes}
use Rattle.std.proofs.lemmas.Bool.Decides.{nat_tests}
use Rattle.std.proofs.lemmas.List.{drop_all}
use Rattle.ps_resolve.specs.Sources.{contents}
use Rattle.ps_explained.proofs.FileLines.{line_more_at}
use Rattle.ps_explained.proofs.SlotLines.{adds_then_none}
use Rattle.ps_explained.proofs.file_lines.file_lines.Goals as goal

pub loop-index-preserved : goal.loop-index-preserved
loop-index-preserved g c =
    let i = c.args.inputs.now in
    let libs : List (Bor (List ℕ)) = i.libs.now in
    let paths : List (List ℕ) = i.host_path.now ∷ contents i.paths.now in
    let files : List (List ℕ) = i.host.now ∷ contents libs in
    let within : c.loop-index.index < length libs = grind (arith, nat_tests) in
    let none : Bor (List ℕ) = record { ref_ptr = (0, 0); now = [] } in
    let before = string_bytes c.loop-index.text in
    let after = string_bytes c.add_file-in-loop-index.new.text in
    record {
      lines = line_more_at paths files libs c.loop-index.index none c.path-path.result.now
          before after c.path-path.ensures c.in_ok-add_file-2.ensures.line within
          c.loop-index.invariant.lines;
      silent = adds_then_none [] before after [] c.loop-index.invariant.silent
          c.in_ok-add_file-2.ensures.silent;
    }

pub returns-clause-lines : goal.returns-clause-lines
returns-clause-lines g c =
    let libs : List (Bor (List ℕ)) = c.args.inputs.now.libs.now in
    let over : length libs ≤ c.loop-index.index = grind (arith, nat_tests) in
    let left = rw (drop_all c.loop-index.index libs over) at c.loop-index.invariant.lines in
    rw append-nil at (left.rest [] refl)
