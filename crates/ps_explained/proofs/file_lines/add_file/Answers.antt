use Rattle.std.proofs.Common.{length, string_bytes}
use Rattle.std.proofs.lemmas.Result.{on_ok_weaker}
use Rattle.ps_explained.proofs.FileLines.{adds_file}
use Rattle.ps_explained.proofs.file_lines.add_file.Goals as goal

pub returns-clause-silent : goal.returns-clause-silent
returns-clause-silent g c = on_ok_weaker c.push_line.result
    (λ is. adds_file c.args.number c.args.path.now (length c.args.file.now) c.of-order.result
    (string_bytes c.args.text.now) (string_bytes c.push_line.new.text) c.utf8.path is)
    c.push_line.ensures
