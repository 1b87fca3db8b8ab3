use Rattle.ps_c_link.proofs.Indexes.{indexes}
use Rattle.ps_c_link.proofs.refusal_law.faults_have_indexes_of_their_files.Goals as goal

pub returns : goal.returns
returns c = indexes (
  λ order bytes rs e. (c.one_reading.ensures.spells order bytes rs).1 e,
  λ order bytes rs why e. (c.one_reading.ensures.stops order bytes rs why).1 e,
)
