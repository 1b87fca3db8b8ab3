use Rattle.std.proofs.Common.{rules}
use Rattle.ps_resolve.proofs.edits.data_size.grown_data_size.Goals as goal

pub returns-clause-edit : goal.returns-clause-edit
returns-clause-edit c = search rules

pub returns-clause-size : goal.returns-clause-size
returns-clause-size c = search rules

pub returns-clause-fits : goal.returns-clause-fits
returns-clause-fits c = search rules
