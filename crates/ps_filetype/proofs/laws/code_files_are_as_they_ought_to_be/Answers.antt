use Rattle.ps_filetype.proofs.CodeFileFacts.{code_type}
use Rattle.ps_filetype.proofs.laws.code_files_are_as_they_ought_to_be.Goals as goal

pub returns : goal.returns
returns c = code_type
