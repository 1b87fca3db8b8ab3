use Rattle.ps_linkfile.proofs.Vocabulary.{arith}
use Rattle.ps_writing.proofs.Prefixes.{on_err_always}
use Rattle.ps_linkfile.proofs.Codes.{edits_here, codes_more, codes_prefix}
use Rattle.ps_linkfile.proofs.Views.{is_at}
use Rattle.ps_linkfile.proofs.Rising.{blocks_more}
use Rattle.ps_linkfile.proofs.writing.write_codes.Goals as goal

pub write_code-requires-clause-edits : goal.write_code-requires-clause-edits
write_code-requires-clause-edits g c = grind (arith, is_at, edits_here)

pub returns-in_err-write_code-clause-prefix : goal.returns-in_err-write_code-clause-prefix
returns-in_err-write_code-clause-prefix g c =
    let at =
    is_at _ _ _ _ _ _ c.sources-source-items.ensures.sources c.loop-k-test.true
    c.source-item.is c.edits.ensures in on_err_always c.from_residual.result
    (codes_prefix _ _ _ _ _ _ _ _ _ _ at c.loop-k.invariant.codes.1
    (rw (c.order.ensures, c.code.ensures) at c.in_err-write_code.ensures.prefix))

pub loop-k-preserved : goal.loop-k-preserved
loop-k-preserved g c =
    let at =
    is_at _ _ _ _ _ _ c.sources-source-items.ensures.sources c.loop-k-test.true
    c.source-item.is c.edits.ensures in
    let appended = rw (c.order.ensures, c.code.ensures) at c.in_ok-write_code.ensures.all in
    let (prefix, codes) = c.loop-k.invariant.codes in
    let (n, counts) = c.loop-k.invariant.counts in
    record {
      codes = (_, codes_more _ _ _ _ _ _ _ prefix _ _ at codes appended);
      counts = (
        _,
        blocks_more _ _ n _ _ _ _ at.here counts (rw c.code.ensures at c.write_code.ensures.writes)
            c.in_ok-write_code.ensures.ok,
      );
    }
