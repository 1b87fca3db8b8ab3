use Rattle.ps_linkinfo.proofs.Walks.{given_first, given_more, given_fault, given_one}
use Rattle.ps_linkinfo.proofs.reading_laws.walk_so_far.Goals as goal

pub returns : goal.returns
returns c = record { start = given_first; more = given_more; fault = given_fault; one = given_one }
