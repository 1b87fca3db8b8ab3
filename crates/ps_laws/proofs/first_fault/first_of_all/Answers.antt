use Rattle.ps_laws.proofs.Vocabulary.{order_of}
use Rattle.ps_laws.proofs.NotWanted.{not_wanted}
use Rattle.ps_laws.proofs.FaultParts.{parts}
use Rattle.ps_laws.proofs.Whole.{some, none, one, only, read, unread}
use Rattle.ps_laws.proofs.first_fault.first_of_all.Goals as goal

pub returns : goal.returns
returns c =
    let law = c.one_reading.ensures.stops in
    record {
      some = some law;
      none = none law;
      one = one law;
      parts = λ host libs step f h. parts (order_of host) host libs
          (not_wanted (order_of host) host libs) step f h.stands;
      used = λ host libs f e. (let first = some law host libs f e in
          (parts (order_of host) host libs
          (not_wanted (order_of host) host libs) first.step f first.stands.stands).used);
      only = only law;
      read = read law;
      unread = unread law;
    }
