use Rattle.std.proofs.Common.{◌∙◌, sym}
use Rattle.ps_explained.proofs.Unopened.{none_but_zero}
use Rattle.ps_explained.proofs.orders.ByteOrder.of.Goals as goal

pub returns-then-is_code : goal.returns-then-is_code
returns-then-is_code c =
    let code = sym c.of-file_type.ensures ∙ (sym c.is_code.ensures ∙ c.if-is_code.true) in
    (none_but_zero c.args.file.now _ (sym c.in-Err.ensures) code, code)
