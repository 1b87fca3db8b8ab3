use Rattle.std.proofs.Common.{refl}
use Rattle.std.specs.Fmt.{digits}
use Rattle.ps_resolve.specs.Added.{added_segments, empty_slots, segments}
use Rattle.ps_linkfile.specs.MapText.{map_of}
use Rattle.ps_resolve.specs.Sources.{own_segments}
use Rattle.ps_examples.proofs.texts.map_texts.Goals as goal

pub returns : goal.returns
unfolding map_of own_segments added_segments empty_slots segments digits
returns c = record {
  a_host_and_its_library = refl;
  a_constant_after_the_public_variable = refl;
  a_unit_that_only_a_unit_names = refl;
}
