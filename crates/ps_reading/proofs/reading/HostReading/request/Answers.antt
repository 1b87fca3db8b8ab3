use Rattle.ps_reading.proofs.Vocabulary.{◌∙◌, ap, HostFiles}
use Rattle.ps_reading.specs.SlotReadings.{request_in}
use Rattle.ps_reading.proofs.reading.HostReading.request.Goals as goal

pub returns : goal.returns
returns c = c.request.ensures ∙ ap (λ (h : HostFiles). request_in h c.args.slot) c.names.ensures
