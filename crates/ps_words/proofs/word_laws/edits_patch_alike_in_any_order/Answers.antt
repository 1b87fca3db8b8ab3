use Rattle.ps_words.proofs.Orders.{patched_alike}
use Rattle.ps_words.proofs.word_laws.edits_patch_alike_in_any_order.Goals as goal

pub returns : goal.returns
returns c = patched_alike
