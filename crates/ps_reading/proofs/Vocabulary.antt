-- The words that several proofs use, each with its home.
pub use Rattle.ps_codefile.specs.Dictionary.{FileOrder, OpenedFile, code_of, entry_at, file_order, is_nameless, kind_needs_linking, name_at, opened_alone, opened_as, opened_beside, opened_beside_as, role_of, role_of_kind, slots}
pub use Rattle.ps_codefile.specs.Procedures.{ProcedureTables, tables_fault, unless}
pub use Rattle.ps_codefile.specs.Roles.{is_empty, is_host, needs_linking}
pub use Rattle.ps_codefile.specs.declared.entry.Entry.{Entry}
pub use Rattle.ps_codefile.specs.declared.entry.Role.{Role}
pub use Rattle.ps_codefile.specs.declared.entry.Role.TheVariants.{Empty, Wanted}
pub use Rattle.ps_codefile.specs.declared.dictionary_layout.TheConstants.{FIRST_ADDED, SLOT_COUNT, SLOTS}
pub use Rattle.ps_linkinfo.specs.RecordCounts.{is_private_reference, is_public_reference, is_unit_reference, privates_in, publics_in, units_in, units_in as units_requested}
pub use Rattle.ps_linkinfo.specs.Records.{reading}
pub use Rattle.ps_linkinfo.specs.declared.record.Body.{Body}
pub use Rattle.ps_linkinfo.specs.declared.record.LinkRecord.{LinkRecord as Record}
pub use Rattle.ps_reading.specs.Added.{AreAlreadyKnown, IsAlreadyKnown, RoundsOutcome, added_fault, added_from, added_segment, added_segments, after, all_unit_references, as_added, empty_slots, is_already_known, placed_fault, request_of, requested_from, requested_units, rounds_from, segment_at, segments, slot_name, unit_references, unplaced_fault}
pub use Rattle.ps_reading.specs.Faults.{code_fault, entries_reason, entry_fault, is_role, libraries_fault, library_fault, library_reason, no_host_fault, request_fault, slot_reason, slots_fault, source_fault}
pub use Rattle.ps_reading.specs.KnownSegments.{AreAlike, ArePlacedIn, AscendFrom, HasOneHost, HasRecordsAt, IsLike, IsRead, IsSound, has_records_at, is_in_slot, put_by_slot, segments_in_slots}
pub use Rattle.ps_reading.specs.OfLink.{AreOfLink, IsOfFile, IsOfRound, IsOfSlot}
pub use Rattle.ps_reading.specs.Readings.{HostFiles, ReadFiles, host_reading_fault, opened_host, queued_request, read_rounds, read_segment, read_segments, reading_fault, segments_in, segments_read}
pub use Rattle.ps_reading.specs.Requests.{as_requested, is_missing, missing_at, request_by_slot, requested_segment}
pub use Rattle.ps_reading.specs.Searches.{fault_if, first_of}
pub use Rattle.ps_reading.specs.Sources.{Segment, chosen_library, contents, file_at, has_entry, host_of, is_named, known_order, library_file, opened, opened_file, opened_files, order_of, own_segment, own_segments, segment_from, segment_with, source_of, unit_source, units_of}
pub use Rattle.ps_reading.specs.declared.reading.added.UnitReference.{UnitReference}
pub use Rattle.ps_reading.specs.declared.reading.request.Request.{Request}
pub use Rattle.ps_reading.specs.declared.reading.added.TheConstants.{MAX_ADDED, MAX_REQUESTED}
pub use Rattle.ps_words.specs.FaultPlaces.{in_file, in_slot}
pub use Rattle.ps_words.specs.declared.fault.Fault.{Fault}
pub use Rattle.ps_words.specs.declared.fault.Reason.{Reason}
pub use Rattle.ps_words.specs.declared.order.Order.{Order}
pub use Rattle.std.proofs.Common.{All, Bool, Bor, Err, IfOk, IfSome, List, None, Ok, Option, Result, Some, [], add-one, ap, append-nil, append_assoc, arith, bytes_eq, cond, count_by, drop, drop-cons, eq-eqb, eqb-true, false, get_or, if◌then◌else◌, inl, inr, is_none, is_some, length, length-append, length-drop, ltb, ltb-true, map, nat_lt, ne_eqb, not, option_and_then, option_map, option_to_list, refl, rules, slice_index_or, slice_range, subst, suc, sym, take, take_all, true, zero, ℕ, ◌&&◌, ◌*◌, ◌++◌, ◌+◌, ◌-◌, ◌<◌, ◌==◌, ◌||◌, ◌∙◌, ◌∷◌, ◌≡◌, ◌≢◌, ◌≤◌, ◌⊎◌}
pub use Rattle.std.proofs.lemmas.Bool.{and_from, cases_Bool, cases_eq, cases_lt, cond_both, false≢true, or_left, or_right}
pub use Rattle.std.proofs.lemmas.Bool.Decides.{nat_tests}
pub use Rattle.std.proofs.lemmas.Grind.{common_steps, flat_map-append}
pub use Rattle.std.proofs.lemmas.List.{drop-map, drop_all, drop_more, get_or_default, length-take, length-take-le, length_push, map-append, take-append-drop, take-append-le, take_at, take_more_set}
pub use Rattle.std.proofs.lemmas.List.Elements.{All-append, All-cons, All-from_get_or, All-head, All-nil, All-push, All-tail, All-take, All-weaker, filter_passes}
pub use Rattle.std.proofs.lemmas.List.Folds.{find-append, list_any-append, list_any_at}
pub use Rattle.std.proofs.lemmas.List.FromFn.{get_or-map-range_with_len, get_or-range_with_len, length-range_with_len, map-range_with_len_more}
pub use Rattle.std.proofs.lemmas.List.Sums.{sum_by-cons}
pub use Rattle.std.proofs.lemmas.Option.{get_or_from_slice_get, none-some, option_and_then_some, same_Some, slice_get-get_or, slice_get-map, slice_get_past, slice_get_read, slice_get_within, some_pair_parts}
pub use Rattle.std.proofs.lemmas.Result.{err_from_is_err_and}
pub use Rattle.std.proofs.lemmas.Slice.Eq.{bytes_eq-Decides}
pub use Rattle.std.specs.List.{cons_option, enumerate_from, filter, filter_map, find, flat_map, insert, list_any, range_with_len, slice_get}
pub use Rattle.std.specs.Option.{option_map_or, option_or}
pub use Rattle.std.specs.Result.{result_err, result_ok}
