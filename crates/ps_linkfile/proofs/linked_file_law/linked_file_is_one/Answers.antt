use Rattle.ps_linkfile.proofs.Vocabulary.{linked_file}
use Rattle.ps_linkfile.proofs.Whole.{none_found, one, there}
use Rattle.ps_linkfile.proofs.linked_file_law.linked_file_is_one.Goals as goal

pub returns-clause-one : goal.returns-clause-one
returns-clause-one c = λ host libs file h. one host libs
    c.bytes_are_linked.ensures.one file (linked_file host libs) h
    (there host libs c.slot_names_are_whole.ensures c.first_of_all.ensures.none
    c.bytes_are_linked.ensures.made (none_found c.first_of_all.ensures.some host libs h.accepted))

pub returns-clause-there : goal.returns-clause-there
returns-clause-there c = λ host libs none. there host libs c.slot_names_are_whole.ensures
    c.first_of_all.ensures.none c.bytes_are_linked.ensures.made none
