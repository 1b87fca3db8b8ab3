use Rattle.std.proofs.Common.{refl}
use Rattle.ps_resolve.specs.Sources.{contents}
use Rattle.ps_texts.proofs.Forms.{references_by}
use Rattle.ps_texts.proofs.texts.references_of.Goals as goal

pub returns-in_ok-boxed-in-Ok-clause-made : goal.returns-in_ok-boxed-in-Ok-clause-made
returns-in_ok-boxed-in-Ok-clause-made g c strict =
    let files = c.args.files.now in
    let made = c.in-Ok.ensures in
    let text = references_by c.args.form files.host.now (contents files.libs.now) c.in-Ok.map made.text
    made.json in (made.accepted, refl, rw c.in_ok-boxed-in-Ok.ensures text)
