use Rattle.ps_examples.proofs.Vocabulary.{◌≡◌, ℕ, List, length, false, true, ap, refl, ◌==◌, false≢true}
use Rattle.std.specs.Fmt.{digits}
use Rattle.ps_examples.specs.Texts.{json_with_references}
use Rattle.ps_resolve.specs.Added.{added_segments, empty_slots, segments}
use Rattle.ps_linkfile.specs.MapText.{members_of}
use Rattle.ps_linkfile.specs.ReferencesText.{all_stored_of}
use Rattle.ps_resolve.specs.Sources.{own_segments}
use Rattle.ps_examples.proofs.texts.json_documents.Goals as goal

pub returns : goal.returns
unfolding members_of all_stored_of own_segments added_segments empty_slots segments digits
returns c = record {
  a_host_and_its_library = refl;
  with_its_references = refl;
  an_item_less = λ h. let e : false ≡ true =
      ap (λ (text : List ℕ). length text == length json_with_references) h in false≢true e;
  a_name_that_ascii_does_not_print = refl;
}
