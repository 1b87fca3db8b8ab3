use Rattle.ps_examples.proofs.Vocabulary.{◌≡◌, ℕ, ◌<◌, ◌≤◌, List, [], ◌∷◌, Ok, true, refl, sym, ap, subst, inr, arith, slice_index, take, entry_at, is_filled, code_of, host, library, put_at, with_slot, util, aux, util_code, information_block, IsNamed, count_reference, aux_segment, tools_segment, false≢true, Little}
use Rattle.ps_codefile.specs.declared.entry.Role.TheVariants as role
use Rattle.ps_examples.proofs.NotOrigins.{same, util_aux}
use Rattle.ps_examples.proofs.NotOrigins.{a_slot_without_one, not_past_an_empty_slot, not_past_slot_7, not_requested_by_itself_alone, not_requested_by_another_name, not_requested_by_a_publ_ref, not_in_a_file_that_is_not_there, not_without_its_records, role_is, refused, unaddressed}
use Rattle.ps_examples.proofs.origins.segments_of_no_link.Goals as goal

pub returns : goal.returns
returns c = record {
  a_slot_with_two = λ t. let a : 0 ≡ t.0 = t.3.1 0 aux_segment refl refl in let b : 1 ≡ t.0 =
      t.3.1 1 tools_segment refl refl in omega (arith, a, b);
  a_slot_without_one = a_slot_without_one;
  not_of_another_role = λ o. let h : role.Host ≡ role.Plain = role_is role.Host role.Plain o.role
      in cc;
  not_of_an_empty_slot = λ o. o.filled refl;
  not_of_another_name = λ o. util_aux (sym o.name);
  not_in_a_taken_slot = λ segs u. let h : role.Wanted ≡ role.Empty =
      role_is role.Wanted role.Empty u.empty in cc;
  not_in_a_low_slot = λ segs u. let h = u.low in omega (arith, h);
  not_past_an_empty_slot = not_past_an_empty_slot;
  not_past_slot_7 = not_past_slot_7;
  not_of_another_role_than_wanted = λ segs u. let h = u.role in cc;
  not_requested_by_itself_alone = not_requested_by_itself_alone;
  not_requested_by_another_name = not_requested_by_another_name;
  not_requested_by_a_publ_ref = not_requested_by_a_publ_ref;
  not_of_a_name_of_blanks = λ segs u. false≢true (sym u.named);
  not_of_a_name_that_the_host_has = λ segs u. u.free (7, omega arith, (inr refl, refl));
  not_in_place_in_a_library = λ t. let h : 1 ≡ 0 = t.0 in omega (arith, h);
  not_in_place_at_another_entry = λ t. let h : 2 ≡ 1 = t.1 in omega (arith, h);
  not_in_the_host = λ u. let h = u.beside in omega (arith, h);
  not_in_a_later_library = λ u. u.first 1 library (omega arith) (omega arith) refl
      (2, omega arith, (refl, refl));
  not_the_entry_of_another_name = λ u. util_aux
      (subst (λ (f : List ℕ). (entry_at Little f 2).name ≡ aux)
      (sym (same library u.library u.file)) u.entry.1);
  not_an_entry_without_a_length = λ u. false≢true
      (subst (λ (f : List ℕ). is_filled (entry_at Little f 2) ≡ true)
      (sym (same (with_slot Little 2 util 3 1 0 library) u.library u.file)) u.entry.0);
  not_one_of_two_entries = λ u. let h : 15 ≡ 2 =
      u.only 15 (omega arith) (subst (λ (f : List ℕ). IsNamed Little util f 15)
      (same (with_slot Little 15 util 3 1 24 library) u.library u.file) (refl, refl)) in
      omega (arith, h);
  not_an_entry_of_another_kind = λ u. let h : 5 ≡ 3 =
      subst (λ (f : List ℕ). (entry_at Little f 2).kind ≡ 3)
      (sym (same (put_at 196 (5 ∷ []) library) u.library u.file)) u.kind in omega (arith, h);
  not_in_a_file_that_is_not_there = not_in_a_file_that_is_not_there;
  not_an_entry_past_the_last = λ name u. let h = u.within in omega (arith, h);
  not_cut = λ t. let h : 536 ≤ 530 = t.0 in omega (arith, h);
  not_other_bytes = λ t. let h : put_at 5 (3 ∷ []) (util_code Little) ≡ util_code Little = t.1
      in let e : 3 ≡ 2 = ap (λ (xs : List ℕ). slice_index xs 5) h in omega (arith, e);
  not_of_an_odd_length = λ r. refused (take 23 (util_code Little))
      (subst (λ (f : List ℕ). code_of f (entry_at Little f 2)
      ≡ Ok (take 23 (util_code Little)))
      (sym (same (with_slot Little 2 util 3 1 23 library) r.source r.file)) r.code);
  not_of_another_file = λ r. unaddressed (util_code Little)
      (subst (λ (f : List ℕ). code_of f (entry_at Little f 2) ≡ Ok (util_code Little))
      (sym (same host r.source r.file)) r.code);
  not_read_past_the_last_entry = λ r. let h : 16 < 16 = r.within in omega (arith, h);
  not_without_its_tables = λ r. let h = r.tables in cc;
  not_in_another_block = λ r. let h : 3 ≡ 2 =
      subst (λ (f : List ℕ). 3 ≡ information_block (entry_at Little f 2) true)
      (sym (same library r.source r.file)) r.block in omega (arith, h);
  not_without_its_records = not_without_its_records;
  not_with_records_of_its_own = λ libs r. let h : count_reference ∷ [] ≡ [] = r.unread refl in
      cc;
}
