use Rattle.std.proofs.Common.{map, string_bytes}
use Rattle.std.proofs.lemmas.Result.{on_ok_weaker}
use Rattle.ps_check_segments.specs.Seen.{seen}
use Rattle.ps_explained.specs.OverviewText.{slots_without}
use Rattle.ps_explained.proofs.OverviewTexts.{adds_without}
use Rattle.ps_explained.proofs.overview.add_empty.Goals as goal

pub returns-clause-lines : goal.returns-clause-lines
returns-clause-lines g c = on_ok_weaker c.push_empty.result
    (adds_without (slots_without c.args.host.now (map seen c.args.list.now))
    (string_bytes c.args.text.now) (string_bytes c.push_empty.new.text)) c.push_empty.ensures
