use Rattle.ps_output_files.proofs.Outcomes.{written}
use Rattle.ps_command.proofs.refusal.refuse.Goals as goal

pub returns-clause-told : goal.returns-clause-told
returns-clause-told g c = written c.write_text.result _ _ _ c.write_text.ensures.all
    c.write_text.ensures.prefix
