use Rattle.std.proofs.Common.{◌∙◌, ◌-◌, ◌<◌, length, refl, sym, arith}
use Rattle.std.proofs.lemmas.Option.{slice_get_read}
use Rattle.std.proofs.lemmas.Bool.{ltb-true}
use Rattle.std.proofs.lemmas.Bool.Decides.{nat_tests}
use Rattle.ps_resolve.specs.Sources.{contents}
use Rattle.ps_check_segments.proofs.Paths.{path_read, path_rest}
use Rattle.ps_check_segments.proofs.named_files.NamedFiles.bytes.Goals as goal

pub returns-in-Some : goal.returns-in-Some
returns-in-Some c =
    let files = c.args.self.now.libs.now in
    let i = c.args.file - 1 in
    let some : 0 < c.args.file = grind (arith, nat_tests) in
    path_read files i c.in-Some.bytes.now (slice_get_read files (length files) i
    c.in-Some.bytes.now refl (ltb-true i (length files) (sym c.in-Some.ensures.lookup.0))
    c.in-Some.ensures.lookup.1)
    ∙ path_rest c.args.self.now.host.now (contents files) c.args.file some
