use Rattle.ps_examples.proofs.Vocabulary.{List, [], ◌∷◌, refl, arith, ltb-true, host, library, blank_name, count, demo_segment, aux_segment, PublDef, Eof, Segment}
use Rattle.ps_resolve.specs.Sources.{own_segments}
use Rattle.ps_resolve.specs.Added.{added_segments, empty_slots, rounds, segments}
use Rattle.ps_resolve.specs.Faults.{slots_fault, no_host_fault, libraries_fault, sources_fault, linking_fault, definitions_fault, privates_fault, data_fault, references_fault}
use Rattle.ps_resolve.specs.AllFaults.{first_fault, reading_fault}
use Rattle.ps_words.specs.declared.edit.Edit.{Edit}
use Rattle.ps_examples.proofs.byte_facts.facts_of_bytes.Goals as goal

-- the linked bytes are what the law says of one link, in which no fault applies
pub returns : goal.returns
unfolding first_fault reading_fault slots_fault no_host_fault libraries_fault sources_fault
    linking_fault definitions_fault privates_fault data_fault references_fault own_segments
    added_segments empty_slots rounds segments
returns c =
    let of_pair = c.first_of_all.ensures.none host (library ∷ []) refl in
    let made = c.bytes_are_linked.ensures.made host (library ∷ []) of_pair in
    let none : Segment × List Edit = (demo_segment, []) in
    record {
      segments = refl;
      a_private = refl;
      a_public_operand = (
        3,
        (
          0,
          record { name = count; body = PublDef 3 },
          (0, demo_segment, refl, (refl, refl)),
          (refl, refl),
        ),
        refl,
      );
      a_private_operand = (
        8,
        (
          1,
          record { name = blank_name; body = Eof 8 },
          (0, demo_segment, refl, (refl, refl)),
          refl,
        ),
        refl,
      );
      a_unit_operand = (8, (2, aux_segment, refl, (refl, refl, refl)), refl);
      its_place = ((refl, refl), (omega arith, omega arith));
      a_number_place = (refl, refl);
      a_size_place = (refl, refl, omega arith, refl);
      a_reference = made 1 none (ltb-true 1 2 refl) 2 (ltb-true 2 24 refl);
      a_number = made 1 none (ltb-true 1 2 refl) 22 (ltb-true 22 24 refl);
      a_size_byte = made 0 none (ltb-true 0 2 refl) 4 (ltb-true 4 18 refl);
      a_kept_byte = made 1 none (ltb-true 1 2 refl) 0 (ltb-true 0 24 refl);
      a_place_of_one_reference = c.bytes_are_linked.ensures.apart host
          (library ∷ []) of_pair 1 demo_segment (ltb-true 1 2 refl) 2;
    }
