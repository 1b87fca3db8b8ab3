use Rattle.ps_resolve.proofs.Vocabulary.{◌∙◌, Some, sym, ap, map, Fault}
use Rattle.ps_resolve.proofs.FirstFaults.{first_read}
use Rattle.ps_reading.proofs.ReadingHosts.{host_refused}
use Rattle.ps_resolve.proofs.resolving.resolve.Goals as goal

pub returns-in-Err-clause-stop : goal.returns-in-Err-clause-stop
returns-in-Err-clause-stop g c =
    let host = c.args.host.now in
    let libs = map (λ lib. lib.now) c.args.libs.now in
    first_read host libs c.in_file.result
    (host_refused host libs c.in-Err.reason (sym c.read.ensures ∙ c.in-Err.is)
    ∙ ap (λ (f : Fault). Some f) (sym c.in_file.ensures))
