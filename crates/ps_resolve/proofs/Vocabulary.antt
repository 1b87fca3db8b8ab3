-- The words that several proofs use, each with its home.
pub use Rattle.ps_codefile.specs.Dictionary.{FileOrder, OpenedFile, file_order, opened_alone, opened_as}
pub use Rattle.ps_codefile.specs.Procedures.{ProcedureTables, is_reserved}
pub use Rattle.ps_codefile.specs.Roles.{is_host, needs_linking}
pub use Rattle.ps_codefile.specs.declared.dictionary_layout.TheConstants.{SLOT_COUNT}
pub use Rattle.ps_linkinfo.specs.RecordCounts.{definitions_in, is_definition, is_private_reference, is_public_reference, is_unit_reference, next_of, privates_in, publics_in, references_in, units_in, units_in as units_requested}
pub use Rattle.ps_linkinfo.specs.Records.{reading, refs_of}
pub use Rattle.ps_linkinfo.specs.declared.record.Body.{Body}
pub use Rattle.ps_linkinfo.specs.declared.record.LinkRecord.{LinkRecord as Record}
pub use Rattle.ps_reading.specs.Added.{segments, slot_names}
pub use Rattle.ps_reading.specs.KnownSegments.{AscendFrom, HasOneHost, IsLike}
pub use Rattle.ps_reading.specs.OfLink.{AreOfLink}
pub use Rattle.ps_reading.specs.Readings.{HostFiles, all_read, host_reading_fault, opened_host, reading_fault}
pub use Rattle.ps_reading.specs.Searches.{fault_if, first_of}
pub use Rattle.ps_reading.specs.Sources.{Segment, contents, host_of, host_records, opened_files, order_of, units_of}
pub use Rattle.ps_resolve.specs.AllFaults.{first_fault}
pub use Rattle.ps_resolve.specs.Builders.{AreByRecord, FindsNamesake, HaveDistinctPrivates, HaveNoNamesakes, HaveRoom, IsFirstNamesake, IsFirstUnfit, IsUnfit, StopsDefinitions, StopsPrivates, all_requested, offset_at, private_numbers, requested_in, requested_of, words_of_all}
pub use Rattle.ps_resolve.specs.EditTables.{IsTableOf, edit_in, edits_from, edits_of, first_state, is_taken, is_taken_at, is_wide, put_in}
pub use Rattle.ps_resolve.specs.Edits.{AreOfReferences, IsOfSize, IsOfTable, data_size_edit, reason_in, refs_fault_at}
pub use Rattle.ps_resolve.specs.Faults.{in_segment, linking_fault, references_fault_from, segment_fault}
pub use Rattle.ps_resolve.specs.Linkable.{AreSegments, AreWhole}
pub use Rattle.ps_resolve.specs.Linking.{data_edits, edited_from, edited_segments, known_of, segment_edits}
pub use Rattle.ps_resolve.specs.Offsets.{FollowOn, RiseFrom, is_from, is_of, offset_listed}
pub use Rattle.ps_resolve.specs.Operands.{edit_of, is_in, operands, reference_reason, refs_fault, value_of, width_of}
pub use Rattle.ps_resolve.specs.Plans.{AreLinks, AreStopped, IsStopped, LinkSegments, LinksSegment}
pub use Rattle.ps_resolve.specs.Privates.{Allotted, Owner, all_allotted, all_words, allotment_of, allotted_privates, first_private_fault, owner_of, owner_of_linkage, private_fault, private_words, total_words, unallotted_fault, unfit_fault, words_in}
pub use Rattle.ps_resolve.specs.References.{HasTarget, HaveTargets, Known, first_record_fault, known_by, record_edits, records_edits, records_fault, target_in, target_of, words_taken, words_taken_by}
pub use Rattle.ps_resolve.specs.Standing.Definitions.{HasEarlierNamesake}
pub use Rattle.ps_resolve.specs.Stops.{IsStop, doubled_fault, duplicate_fault}
pub use Rattle.ps_resolve.specs.Symbols.{def_in, definition_in, definition_of, definitions, first_duplicate, first_duplicate_from}
pub use Rattle.ps_resolve.specs.TakenPlaces.{AreTaken}
pub use Rattle.ps_resolve.specs.declared.allotment.Private.{Private}
pub use Rattle.ps_resolve.specs.declared.allotment.TheConstants.{MAX_NEXT_FREE}
pub use Rattle.ps_resolve.specs.declared.edit_table.PlaceState.{PlaceState}
pub use Rattle.ps_resolve.specs.declared.linkage.Stop.{Stop}
pub use Rattle.ps_resolve.specs.declared.references.Target.{Target}
pub use Rattle.ps_words.specs.Edits.{AreApart, AreEdits, IsInside, covers, patched_byte, place_of, width}
pub use Rattle.ps_words.specs.FaultPlaces.{in_record, in_reference}
pub use Rattle.ps_words.specs.declared.edit.Edit.{Edit}
pub use Rattle.ps_words.specs.declared.edit.Edit.TheVariants.{Byte}
pub use Rattle.ps_words.specs.declared.fault.Fault.{Fault}
pub use Rattle.ps_words.specs.declared.fault.Reason.{Reason}
pub use Rattle.ps_words.specs.declared.order.Order.{Order}
pub use Rattle.std.proofs.Common.{All, Bool, Decides, Err, IfErr, IfOk, IfSome, IsPermutation, List, None, Ok, Option, Result, Some, [], ap, append-nil, append_assoc, arith, bytes_eq, count_by, drop, eqb-true, false, get_or, if◌then◌else◌, inl, inr, is_some, length, length-append, length-set, ltb, ltb-false, map, nat_cmp, nat_eq, nat_le, nat_lt, option_map, option_to_list, refl, rules, set, subst, suc, sym, take, true, zero, ℕ, ◌&&◌, ◌++◌, ◌+◌, ◌-◌, ◌<◌, ◌==◌, ◌||◌, ◌∙◌, ◌∷◌, ◌≡◌, ◌≤◌, ◌⊎◌}
pub use Rattle.std.proofs.lemmas.Bool.{cases_Bool, cases_lt, cases_order, false≢true, not-false, not-true}
pub use Rattle.std.proofs.lemmas.Bool.Decides.{Decides-and, Decides-like, Decides-or, nat_tests}
pub use Rattle.std.proofs.lemmas.List.{drop_all, drop_more, get_or-set_other, get_or-set_same, get_or_past, length-map, length-take-le, map-append, nil_from_length, take_all, take_at, take_more}
pub use Rattle.std.proofs.lemmas.List.Elements.{All-append, All-cons, All-head, All-nil, All-tail, All-take, filter-append, filter_map-append}
pub use Rattle.std.proofs.lemmas.List.Folds.{list_any-append}
pub use Rattle.std.proofs.lemmas.List.Sorted.{All-permutation, IsNonDecreasingBy-from_sort, IsPartitionPoint-from_clause, IsPermutation-append_left, IsPermutation-cons, IsPermutation-refl, IsPermutation-sym, IsPermutation-to_front, IsPermutation-trans}
pub use Rattle.std.proofs.lemmas.List.Sums.{length-filter, sum_by-append, sum_by-cons}
pub use Rattle.std.proofs.lemmas.Option.{get_or_from_slice_get, same_Some, slice_get_within}
pub use Rattle.std.proofs.lemmas.Result.{IfErr-weaker, IfOk-weaker, err_from_is_err_and}
pub use Rattle.std.proofs.lemmas.Slice.Eq.{bytes_eq-Decides}
pub use Rattle.std.specs.List.{AllByRecursion, IsAllAdjacentAnswer, IsDistinct, cons_option, enumerate_from, filter, filter_map, find, flat_map, list_any, range_with_len, slice_get}
pub use Rattle.std.specs.Option.{option_eq, option_map_or, option_or}
