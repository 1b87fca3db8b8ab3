use Rattle.ps_output_files.proofs.linking.place_of.Goals as goal

pub returns-in-Nothing : goal.returns-in-Nothing
returns-in-Nothing g c = c.in-Nothing.is

pub returns-in-Summary : goal.returns-in-Summary
returns-in-Summary g c = c.place_of_summary.ensures c.in-Summary.is
