use Rattle.ps_linkinfo.proofs.Vocabulary.{Option, List, subst, Reason, Record}
use Rattle.ps_linkinfo.proofs.OneReading.{one_reading, is_stop}
use Rattle.ps_linkinfo.proofs.Stands.{spells_reads, stops_reads, reading_is, IsReadingOf}
use Rattle.ps_linkinfo.proofs.reading_laws.one_reading.Goals as goal

pub returns : goal.returns
returns c = record {
  one = λ order bytes rs others h k. one_reading order bytes others rs k.spelled k.ends h.spelled
      h.ends;
  never_both = λ order bytes rs before why h s. is_stop order bytes before why s rs h;
  spells = λ order bytes rs. (
    (λ h. spells_reads order bytes rs h.spelled h.ends),
    (λ e. subst (λ (read : List Record × Option Reason). IsReadingOf order bytes read) e
        (reading_is order bytes)),
  );
  stops = λ order bytes rs why. (
    (λ h. stops_reads order bytes rs why h.spelled h.goes_on h.stops),
    (λ e. subst (λ (read : List Record × Option Reason). IsReadingOf order bytes read) e
        (reading_is order bytes)),
  );
}
