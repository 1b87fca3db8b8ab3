use Rattle.ps_examples.proofs.Vocabulary.{◌≡◌, ℕ, ◌+◌, List, [], ◌∷◌, refl, sym, ap, ◌∙◌, arith, ltb-true, slice_index, host, library, blank_name, aux, count, state, count_reference, aux_reference, demo_segment, util_segment, pair, UnitRef, PublRef, PublDef, Eof, Segment}
use Rattle.ps_resolve.specs.Added.{added_segments, empty_slots, rounds, segments}
use Rattle.ps_resolve.specs.Sources.{own_segments}
use Rattle.ps_resolve.specs.Faults.{slots_fault, no_host_fault, libraries_fault, sources_fault, linking_fault, definitions_fault, privates_fault, data_fault, references_fault}
use Rattle.ps_resolve.specs.AllFaults.{first_fault, reading_fault}
use Rattle.ps_resolve.specs.LinkedBytes.{words_before}
use Rattle.ps_words.specs.declared.edit.Edit.{Edit}
use Rattle.ps_words.specs.Words.{operand_bytes, displacement_at}
use Rattle.ps_examples.specs.Segments.{displaced_library}
use Rattle.ps_examples.proofs.NotLinked.{of_first, no_host, not_the_slot_of_another_unit, a_plain_segment_is_no_unit, not_the_unit_of_another_name, not_another_slot, a_constant_is_not_public, a_unit_defines_nothing, count_state, not_public, body_is, base_of_pair}
use Rattle.ps_examples.proofs.byte_facts.bytes_that_are_not_linked.Goals as goal

pub returns : goal.returns
unfolding first_fault reading_fault slots_fault no_host_fault libraries_fault sources_fault
    linking_fault definitions_fault privates_fault data_fault references_fault own_segments
    added_segments empty_slots rounds segments
returns c =
    let of_pair = c.first_of_all.ensures.none host (library ∷ []) refl in
    let made = c.bytes_are_linked.ensures.made host (library ∷ []) of_pair in
    let one = c.bytes_are_linked.ensures.one host (library ∷ []) of_pair in
    let none : Segment × List Edit = (demo_segment, []) in
    let displaced = c.first_of_all.ensures.none host (displaced_library ∷ []) refl in
    record {
      not_the_input_s_operand = λ b. let e : 0 ≡ 3 =
          one 1 demo_segment (ltb-true 1 2 refl) 2 0 3 b
          (made 1 none (ltb-true 1 2 refl) 2 (ltb-true 2 24 refl)) in omega (arith, e);
      not_without_the_displacement = λ b. let e : 128 ≡ 129 =
          c.bytes_are_linked.ensures.one host (displaced_library ∷ []) displaced 1 demo_segment
          (ltb-true 1 2 refl) 1 128 129 b (c.bytes_are_linked.ensures.made host
          (displaced_library ∷ []) displaced 1 none (ltb-true 1 2 refl) 1 (ltb-true 1 24 refl))
          in omega (arith, e);
      not_the_private_s_offset_alone = λ b. let e : 8 ≡ 10 =
          one 1 demo_segment (ltb-true 1 2 refl) 5 8 10 b
          (made 1 none (ltb-true 1 2 refl) 5 (ltb-true 5 24 refl)) in omega (arith, e);
      not_the_input_s_number = λ b. let e : 2 ≡ 7 = b.number (refl, refl) in omega (arith, e);
      not_the_number_of_another_slot = λ b. let e : 1 ≡ 7 = b.number (refl, refl) in
          omega (arith, e);
      not_the_input_s_size = λ b. let e : 10 ≡ 18 = b.size 12 0 (refl, refl, omega arith, refl)
          in omega (arith, e);
      not_grown_by_words = λ b. let e : 14 ≡ 18 = b.size 12 0 (refl, refl, omega arith, refl)
          in omega (arith, e);
      not_another_second_byte = λ b. let e : 1 ≡ 0 = b.size 12 1 (refl, refl, omega arith, refl)
          in omega (arith, e);
      not_another_byte = λ b. let e : 166 ≡ 165 =
          one 1 demo_segment (ltb-true 1 2 refl) 0 166 165 b
          (made 1 none (ltb-true 1 2 refl) 0 (ltb-true 0 24 refl)) in omega (arith, e);
      a_plain_segment_has_no_number = λ n. let h = n.0 in cc;
      a_unit_has_no_data_size = λ t j p z. let h = z.0 in cc;
      a_data_size_has_two_bytes = λ z. let h = z.2 in omega (arith, h);
      a_unit_s_end_mark_gives_no_base = λ t. let h : 8 ≡ 0 = base_of_pair 0 t in
          omega (arith, h);
      a_definition_gives_no_base = λ t. let h : 8 ≡ 3 = base_of_pair 3 t in omega (arith, h);
      not_the_slot_of_another_unit = not_the_slot_of_another_unit;
      not_without_the_base = λ t. let h : 128 ∷ 2 ∷ [] ≡ 128 ∷ 10 ∷ [] =
          t.2 ∙ ap (λ (b : ℕ). operand_bytes
          (displacement_at util_segment.code 4 + (b + words_before pair 7 1)))
          (sym (base_of_pair t.0 t.1)) in let e : 2 ≡ 10 =
          ap (λ (bs : List ℕ). slice_index bs 1) h in omega (arith, e);
      a_definition_has_no_operand = λ bytes t. t;
      a_constant_has_no_operand = λ bytes t. t;
      an_end_mark_has_no_operand = λ bytes t. t;
      a_plain_segment_is_no_unit = a_plain_segment_is_no_unit;
      not_the_unit_of_another_name = not_the_unit_of_another_name;
      not_another_slot = not_another_slot;
      a_constant_is_not_public = a_constant_is_not_public;
      not_the_value_of_another_name = λ t. body_is t.0 (record { name = count; body = PublDef 3 })
          (record { name = blank_name; body = Eof 8 }) t.1
          (of_first demo_segment (util_segment ∷ []) no_host t.0 t.1 t.2) state 3 t.3.0 t.3.1
          (λ n e. count_state n) (λ e. not_public 8 3 e);
      a_unit_defines_nothing = a_unit_defines_nothing;
      a_place_of_two_records = λ o. let t =
          o.references 0 0 1 1 0 2 count_reference aux_reference
          ((refl, refl), (omega arith, omega arith)) ((refl, refl), (omega arith, omega arith)) in
          let e : 0 ≡ 1 = t.0 in omega (arith, e);
      a_place_twice_of_a_record = λ o. let t =
          o.references 0 0 1 0 1 2 (record { name = count; body = PublRef (1 ∷ 2 ∷ []) })
          (record { name = count; body = PublRef (1 ∷ 2 ∷ []) })
          ((refl, refl), (omega arith, omega arith)) ((refl, refl), (omega arith, omega arith)) in
          let e : 0 ≡ 1 = t.1 in omega (arith, e);
      a_reference_at_the_number = λ o. o.number 0 0 22
          (record { name = aux; body = UnitRef (22 ∷ []) })
          ((refl, refl), (omega arith, omega arith)) (refl, refl);
      a_reference_at_the_data_size = λ o. o.size 0 0 4 12 0
          (record { name = count; body = PublRef (4 ∷ []) })
          ((refl, refl), (omega arith, omega arith)) (refl, refl, omega arith, refl);
    }
