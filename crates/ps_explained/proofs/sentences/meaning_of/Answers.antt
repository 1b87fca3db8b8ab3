use Rattle.ps_explained.proofs.Tables.{meaning_printed, meaning_short}
use Rattle.ps_explained.proofs.sentences.meaning_of.Goals as goal

pub returns-clause-short : goal.returns-clause-short
returns-clause-short c = meaning_short _ c.args.number c.row.ensures

pub returns-clause-printed : goal.returns-clause-printed
returns-clause-printed c = meaning_printed _ c.args.number c.row.ensures
