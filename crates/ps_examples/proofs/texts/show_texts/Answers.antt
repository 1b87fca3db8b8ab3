use Rattle.ps_examples.proofs.Vocabulary.{◌≡◌, [], ◌∷◌, ◌∙◌, ap, refl, host, library, Little}
use Rattle.std.specs.Fmt.{digits}
use Rattle.ps_examples.specs.Expected.{linked_pair}
use Rattle.ps_linkfile.specs.LinkedFile.{linked_file, dictionary, all_pairs}
use Rattle.ps_linkfile.specs.ShowText.{show_of, slot_line, links_in, links_lines, unit_names}
use Rattle.ps_resolve.specs.Added.{added_segments, empty_slots, segments, slot_names}
use Rattle.ps_resolve.specs.Sources.{own_segments}
use Rattle.ps_examples.proofs.texts.show_texts.Goals as goal

linked : linked_file host (library ∷ []) ≡ linked_pair Little
unfolding own_segments added_segments empty_slots segments slot_names dictionary all_pairs
linked = refl

pub returns : goal.returns
unfolding show_of slot_line links_in links_lines unit_names digits
returns c = record {
  the_library = refl;
  the_linked_file_of_a_host_and_its_library = ap show_of linked ∙ refl;
  a_name_of_bytes_at_the_edges = refl;
  a_record_of_every_kind = refl;
}
