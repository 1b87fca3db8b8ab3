use Rattle.ps_examples.proofs.Vocabulary.{ℕ, List, [], ◌∷◌, refl, host, library, library_of_the_last, Little}
use Rattle.ps_resolve.specs.Faults.{slots_fault, no_host_fault, libraries_fault, sources_fault, linking_fault, definitions_fault, privates_fault, data_fault, references_fault}
use Rattle.ps_examples.specs.Expected.{linked_pair}
use Rattle.ps_examples.specs.ReadAlike.{library_elsewhere}
use Rattle.ps_examples.proofs.ReliedFiles.{of_aux, of_other_code, library_alike, host_alike, util_or_aux, used_alike, not_of_file_1}
use Rattle.ps_examples.proofs.relied.what_may_be_relied_on.Goals as goal
use Rattle.ps_linkfile.specs.LinkedFile.{LinkedFile, dictionary, all_pairs}
use Rattle.ps_rebuild_laws.specs.Alike.{AreFilesAlike}
use Rattle.ps_rebuild_laws.specs.SameSegments.{HaveSameHeads}
use Rattle.ps_resolve.specs.Added.{added_segments, empty_slots, rounds, segments, slot_names}
use Rattle.ps_resolve.specs.AllFaults.{first_fault, reading_fault}
use Rattle.ps_resolve.specs.Sources.{own_segments}

-- each is what a law says of links in which no fault applies
pub returns : goal.returns
unfolding own_segments added_segments empty_slots rounds segments slot_names dictionary all_pairs
    first_fault reading_fault slots_fault no_host_fault libraries_fault sources_fault linking_fault
    definitions_fault privates_fault data_fault references_fault
returns c =
    let there = c.linked_file_is_one.ensures.there in
    let file : List ℕ = linked_pair Little in
    let of_pair : LinkedFile host (library ∷ []) (linked_pair Little) =
    there host (library ∷ []) refl in
    let behind : LinkedFile host (of_aux ∷ library ∷ []) (linked_pair Little) =
    there host (of_aux ∷ library ∷ []) refl in
    let before : LinkedFile host (library ∷ of_aux ∷ []) (linked_pair Little) =
    there host (library ∷ of_aux ∷ []) refl in
    let like : AreFilesAlike host host (library ∷ []) (library_elsewhere ∷ []) =
    host_alike (library ∷ []) (library_elsewhere ∷ []) (library_alike, tt) in
    let heads : HaveSameHeads host host =
    record { order = refl; names = λ slot h. refl; tail = refl } in
    record {
      made_by_its_lines = c.references_make_the_file.ensures.made host file
          (library ∷ []) of_pair;
      a_line = (1, _, refl, (refl, (_, refl, refl)));
      alike = like;
      linked_alike = c.what_is_not_read.ensures.linked host host (library ∷ [])
          (library_elsewhere ∷ []) file like of_pair;
      without_one = c.library_is_left_out.ensures.linked host of_aux file [] (library ∷ [])
          not_of_file_1 behind;
      its_number = c.library_is_left_out.ensures.numbers host of_aux file [] (library ∷ [])
          not_of_file_1 behind;
      appended = c.library_is_appended.ensures.linked host of_aux file (library ∷ []) refl of_pair;
      apart = λ name looked. util_or_aux name;
      exchanged = c.neighbours_are_exchanged.ensures.linked host library of_aux file [] []
          (λ name looked. util_or_aux name) before;
      used_alike = used_alike;
      not_used = c.what_is_not_used.ensures host (library ∷ library ∷ [])
          (library ∷ of_other_code ∷ []) file used_alike
          (there host (library ∷ library ∷ []) refl);
      same_segments = refl;
      linked_of_the_last = c.link_is_its_segments.ensures host host (library ∷ [])
          (library_of_the_last ∷ []) file of_pair
          (c.first_of_all.ensures.none host (library_of_the_last ∷ []) refl) heads refl;
    }
