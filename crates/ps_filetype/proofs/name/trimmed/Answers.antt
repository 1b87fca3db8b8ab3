use Rattle.std.proofs.Common.{◌∙◌, ℕ, take, sym, ap, arith}
use Rattle.ps_filetype.proofs.Trimmed.{all_of, same_blank}
use Rattle.ps_filetype.proofs.name.trimmed.Goals as goal
use Rattle.ps_filetype.proofs.name.trimmed.Goals.{then-byte-ne32, else-byte-ne32}

pub loop-place-preserved : goal.loop-place-preserved
loop-place-preserved c =
    let name = c.args.name.now in
    let i = c.loop-place.place in
    elim c.if-byte-ne32.branch [
      | then-byte-ne32 w ↦ (
        omega (arith, w.used-is),
        ap (λ (n : ℕ). take n name) w.used-is
            ∙ sym (all_of name i _ c.loop-place-test.true w.if-byte-ne32.true),
      )
      | else-byte-ne32 w ↦ (
        omega (arith, w.used-is, c.loop-place.invariant.0),
        ap (λ (n : ℕ). take n name) w.used-is
            ∙ (c.loop-place.invariant.1
            ∙ sym (same_blank name i _ c.loop-place-test.true w.if-byte-ne32.false)),
      )
    ]
