use Rattle.ps_check_segments.proofs.SeenFacts.{all_seen}
use Rattle.ps_check_segments.proofs.laws.segments_are_seen.Goals as goal

pub returns : goal.returns
returns c = all_seen
