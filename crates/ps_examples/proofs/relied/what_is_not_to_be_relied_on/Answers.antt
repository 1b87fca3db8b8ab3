use Rattle.std.specs.Option.{option_map_or}
use Rattle.std.specs.Result.{result_ok}
use Rattle.ps_examples.proofs.Vocabulary.{◌≡◌, ℕ, List, [], Reason, Result, refl, ap, arith, slice_index, util, util_segment}
use Rattle.ps_resolve.specs.Faults.{slots_fault, no_host_fault, libraries_fault, sources_fault, linking_fault, definitions_fault, privates_fault, data_fault, references_fault}
use Rattle.ps_examples.proofs.relied.what_is_not_to_be_relied_on.Goals as goal
use Rattle.ps_linkfile.specs.LinkedFile.{dictionary, all_pairs}
use Rattle.ps_resolve.specs.Added.{added_segments, empty_slots, rounds, segments, slot_names}
use Rattle.ps_resolve.specs.AllFaults.{first_fault, reading_fault}
use Rattle.ps_resolve.specs.Sources.{own_segments}

pub returns : goal.returns
unfolding own_segments added_segments empty_slots rounds segments slot_names dictionary all_pairs
    first_fault reading_fault slots_fault no_host_fault libraries_fault sources_fault linking_fault
    definitions_fault privates_fault data_fault references_fault
returns c = record {
  a_line_of_a_byte_that_stays = (0, _, refl, (refl, (_, refl, refl)));
  a_byte_of_the_input = refl;
  a_byte_of_a_line = refl;
  another_tail = λ t. let h : 42
      ≡ 43 = ap (λ (xs : List ℕ). slice_index xs 44) t.heads.tail in omega (arith, h);
  its_file = refl;
  a_library_that_gives = refl;
  a_library_that_is_refused = refl;
  the_first_of_two = refl;
  the_other_of_two = refl;
  a_name_in_common = λ h. h util (1, util_segment, refl, (refl, refl)) (2, omega arith, (refl, refl))
      (2, omega arith, (refl, refl));
  a_unit_that_is_used = λ t.
      let entries = t.0.entries util (1, util_segment, refl, (refl, refl, omega arith)) in
      let same = entries.units 2 (omega arith) refl refl in
      let h : 215 ≡ 0 = ap (λ (r : Result (List ℕ) Reason). slice_index
      (option_map_or (λ code. code) (result_ok r) []) 6) same.0 in omega (arith, h);
  another_head = λ t. let h : 42 ≡ 43 = ap (λ (xs : List ℕ). slice_index xs 44) t.tail in
      omega (arith, h);
}
