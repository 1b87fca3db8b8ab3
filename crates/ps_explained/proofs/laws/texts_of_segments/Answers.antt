use Rattle.std.proofs.Common.{refl}
use Rattle.ps_explained.specs.OverviewText.{entries_after, named_entry, overview_text, unused_libraries}
use Rattle.ps_explained.proofs.SmallOverviews.{text_of_three, text_without_aux}
use Rattle.ps_explained.proofs.laws.texts_of_segments.Goals as goal

pub returns : goal.returns
unfolding named_entry entries_after unused_libraries overview_text
returns c = record {
  three = text_of_three;
  a_missing_unit = text_without_aux;
  no_segment = refl;
  later_than_the_first = refl;
  later_than_the_host = refl;
  later_than_the_last = refl;
  the_third_is_not_used = refl;
  two_are_not_used = refl;
  each_is_used = refl;
}
