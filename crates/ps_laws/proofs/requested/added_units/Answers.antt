use Rattle.ps_laws.proofs.Vocabulary.{order_of}
use Rattle.ps_laws.proofs.RequestedUnits.{requested_is_there}
use Rattle.ps_laws.proofs.AddedUnits.{units_are}
use Rattle.ps_laws.proofs.OneList.{only_units}
use Rattle.ps_laws.proofs.Whole.{none_read}
use Rattle.ps_laws.proofs.requested.added_units.Goals as goal

pub returns : goal.returns
returns c = record {
  units = λ host libs e. let fine = none_read host libs e in
      units_are (order_of host) host libs fine.0 fine.1;
  one = λ host libs e queue others are. let fine = none_read host libs e in
      only_units (order_of host) host libs fine.0 fine.1 queue others are;
  there = λ host libs e. requested_is_there (order_of host) host libs (none_read host libs e).1;
}
