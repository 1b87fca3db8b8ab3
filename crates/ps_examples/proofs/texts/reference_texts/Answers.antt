use Rattle.std.proofs.Common.{refl}
use Rattle.std.specs.Fmt.{digits}
use Rattle.ps_resolve.specs.Added.{added_segments, empty_slots, segments}
use Rattle.ps_linkfile.specs.ReferencesText.{all_stored_of, references_of}
use Rattle.ps_resolve.specs.Sources.{own_segments}
use Rattle.ps_examples.proofs.texts.reference_texts.Goals as goal

pub returns : goal.returns
unfolding references_of all_stored_of own_segments added_segments empty_slots segments digits
returns c = record {
  a_host_and_its_library = refl;
}
