use Rattle.std.proofs.Common.{◌+◌, ◌/◌, length}
use Rattle.ps_linkinfo.proofs.Names.{all_whole}
use Rattle.ps_linkinfo.proofs.reading_laws.names_are_whole.Goals as goal

pub returns : goal.returns
returns c = λ order bytes. all_whole (length bytes / 16 + 1) order bytes
