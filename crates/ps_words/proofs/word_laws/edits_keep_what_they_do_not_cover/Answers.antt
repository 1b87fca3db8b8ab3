use Rattle.ps_words.proofs.Orders.{kept_where_not_covered}
use Rattle.ps_words.proofs.word_laws.edits_keep_what_they_do_not_cover.Goals as goal

pub returns : goal.returns
returns c = kept_where_not_covered
