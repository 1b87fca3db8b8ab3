use Rattle.std.proofs.Common.{◌∙◌, string_bytes, sym}
use Rattle.ps_listing.proofs.PhraseWords.{code_phrase}
use Rattle.ps_listing.proofs.phrases.phrase.Goals as goal

pub returns-then-is_code : goal.returns-then-is_code
returns-then-is_code g c = code_phrase c.args.file.now (string_bytes c.new.result)
    c.of-file_type.result c.of-file_type.ensures (sym c.is_code.ensures ∙ c.if-is_code.true)
    c.new.ensures.bytes
