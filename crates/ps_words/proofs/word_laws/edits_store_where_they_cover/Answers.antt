use Rattle.ps_words.proofs.Orders.{stored_where_covered}
use Rattle.ps_words.proofs.word_laws.edits_store_where_they_cover.Goals as goal

pub returns : goal.returns
returns c = stored_where_covered
