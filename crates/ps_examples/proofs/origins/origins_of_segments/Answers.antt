use Rattle.ps_examples.proofs.Vocabulary.{ℕ, List, [], ◌∷◌, refl, arith, leb-true, ltb-true, host, library, host_with_tools, library_of_the_last, library_of_used, util_information, demo_segment, util_segment, AreOwn, AreRead, Little}
use Rattle.ps_resolve.specs.Sources.{own_segments}
use Rattle.ps_resolve.specs.Added.{added_segments, empty_slots, rounds, segments}
use Rattle.ps_resolve.specs.Faults.{slots_fault, no_host_fault, libraries_fault, sources_fault, linking_fault, definitions_fault, privates_fault, data_fault, references_fault}
use Rattle.ps_resolve.specs.AllFaults.{first_fault, reading_fault}
use Rattle.ps_examples.proofs.NotOrigins.{filled}
use Rattle.ps_examples.proofs.origins.origins_of_segments.Goals as goal

-- most are what the law says of one segment of a link in which no fault applies
pub returns : goal.returns
unfolding first_fault reading_fault slots_fault no_host_fault libraries_fault sources_fault
    linking_fault definitions_fault privates_fault data_fault references_fault own_segments
    added_segments empty_slots rounds segments
returns c =
    let law = c.segments_have_origins.ensures in
    let fine = c.first_of_all.ensures.none in
    let used : List (List ℕ) = library_of_used (util_information Little) ∷ [] in
    let of_pair = fine host (library ∷ []) refl in
    let own : AreOwn host (demo_segment ∷ util_segment ∷ []) =
    law.own host (library ∷ []) of_pair in
    let read : AreRead host (library ∷ []) (demo_segment ∷ util_segment ∷ []) =
    law.read host (library ∷ []) of_pair in
    let of_last = fine host (library_of_the_last ∷ []) refl in
    record {
      an_added_unit_s_segments = refl;
      a_plain_segment_s = refl;
      a_slot_has_one = law.one_each host (library ∷ []) of_pair 7 (omega arith) (λ e. filled e);
      file_0 = refl;
      file_1 = refl;
      a_host_segment_is_own = own 0 demo_segment (omega arith) refl;
      a_wanted_unit_is_own = own 1 demo_segment (omega arith) refl;
      an_added_unit = law.added host used (fine host used refl) 2 demo_segment
          (ltb-true 2 3 refl) refl;
      in_place = (refl, refl);
      in_the_library = law.wanted host (library ∷ []) of_pair 1 demo_segment
          (ltb-true 1 2 refl) refl;
      in_the_last_entry = law.wanted host (library_of_the_last ∷ []) of_last 1 demo_segment
          (ltb-true 1 2 refl) refl;
      its_slice = (leb-true 536 1536 refl, refl);
      read_from_the_host = read 0 demo_segment (omega arith);
      read_from_the_library = read 1 demo_segment (omega arith);
      read_from_the_last_entry = law.read host (library_of_the_last ∷ []) of_last 1 demo_segment
          (ltb-true 1 2 refl);
      a_plain_one_is_not_read = law.read host_with_tools (library ∷ [])
          (fine host_with_tools (library ∷ []) refl) 2 demo_segment (ltb-true 2 3 refl);
    }
