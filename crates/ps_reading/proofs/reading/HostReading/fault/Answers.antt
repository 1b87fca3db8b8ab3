use Rattle.std.proofs.Common.{rules}
use Rattle.ps_reading.proofs.reading.HostReading.fault.Goals as goal

pub returns : goal.returns
returns c = search rules
