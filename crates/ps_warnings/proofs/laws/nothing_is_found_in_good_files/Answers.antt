use Rattle.std.proofs.Common.{false, true}
use Rattle.ps_warnings.proofs.GoodFiles.{all_found, code_host, code_library, segments_seen}
use Rattle.ps_warnings.proofs.laws.nothing_is_found_in_good_files.Goals as goal

pub returns : goal.returns
returns c = record {
  host = code_host false;
  library = code_library;
  segments = segments_seen false;
  nothing = all_found false;
  low = all_found true;
}
