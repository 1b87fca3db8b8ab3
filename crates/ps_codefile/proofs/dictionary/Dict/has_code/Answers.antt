use Rattle.ps_codefile.specs.Opened.{has_code}
use Rattle.ps_codefile.proofs.dictionary.Dict.has_code.Goals as goal

pub returns : goal.returns
unfolding has_code
returns c = c.has_code_below.ensures
