use Rattle.ps_resolve.proofs.Vocabulary.{◌∙◌, Some, sym, ap, Fault}
use Rattle.ps_resolve.proofs.FirstFaults.{first_read}
use Rattle.ps_reading.proofs.ReadingSlots.{fault_of_none}
use Rattle.ps_resolve.proofs.from_reading.resolve_reading.Goals as goal

pub returns-in-Err-clause-stop : goal.returns-in-Err-clause-stop
returns-in-Err-clause-stop g c =
    let files = c.args.reading.now in
    first_read files.host files.libs c.in_file.result
    (fault_of_none files.host files.libs c.in-Err.reason c.in-Err.ensures.refused
    ∙ ap (λ (f : Fault). Some f) (sym c.in_file.ensures))
