use Rattle.ps_explained.proofs.Tables.{remedy_printed, remedy_short}
use Rattle.ps_explained.proofs.sentences.remedy_of.Goals as goal

pub returns-clause-short : goal.returns-clause-short
returns-clause-short c = remedy_short _ c.args.number c.row.ensures

pub returns-clause-printed : goal.returns-clause-printed
returns-clause-printed c = remedy_printed _ c.args.number c.row.ensures
