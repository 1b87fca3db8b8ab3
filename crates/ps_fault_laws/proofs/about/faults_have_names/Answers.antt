use Rattle.ps_reading.specs.FaultNames.{fault_name}
use Rattle.ps_fault_laws.proofs.EachFault.{about}
use Rattle.ps_fault_laws.proofs.OneName.{numbered, one}
use Rattle.ps_fault_laws.proofs.about.faults_have_names.Goals as goal

pub returns : goal.returns
returns c =
    let law = c.one_reading.ensures.stops in
    record {
      about = λ host libs f first. about law host libs f first;
      one = one;
      named = λ host libs f first. numbered host libs f (fault_name host libs f)
          (about law host libs f first)
          (c.first_of_all.ensures.parts host libs first.step f first.stands).slot;
    }
