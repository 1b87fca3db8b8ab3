-- The words and lemmas that several proofs use, each with its home.
pub use Rattle.ps_codefile.specs.Dictionary.{name_at, tail_of}
pub use Rattle.ps_laws.proofs.AddedUnits.{has_own, map_at}
pub use Rattle.ps_rebuild_laws.proofs.ChangedLists.{Both, all_mapped, and_left, any_mapped, both, clipped, drop_at, find_mapped, first_mapped, in_slots, known_moved, neither, none_alike, or_moved, same_clipped}
pub use Rattle.ps_lists.proofs.Items.{In, all_items, at_left, find_in, find_passes, in_filter_map, of_all, of_filter_map}
pub use Rattle.ps_laws.proofs.OfLink.{of_link}
pub use Rattle.ps_laws.proofs.OneName.{of_segments}
pub use Rattle.ps_laws.proofs.RequestedUnits.{empty_slot, found_added, in_segments}
pub use Rattle.ps_laws.proofs.SegmentOrigins.{OneSpelling, by_slot}
pub use Rattle.ps_laws.proofs.Sources.{has}
pub use Rattle.ps_laws.proofs.Vocabulary.{All, Body, Bool, Decides, Decides-eqb, Edit, Err, FIRST_ADDED, Fault, HaveApartPlaces, HaveLinkedBytes, HaveOneLinkedByte, HaveSummedOffsets, IsLinkedByte, IsNumberPlace, IsOfLink, IsOnePlace, IsSizePlace, IsTurn, Known, List, MAX_ADDED, None, Ok, Option, Order, Reaches, Reason, Record, Request, Result, Role, RoundsOutcome, SLOTS, Segment, Some, SomeItem, Spells, Target, UnitReference, Word, [], added_fault, added_segments, after, all_rounds, all_unit_references, ap, append-nil, append_assoc, arith, both_none, bytes_eq, chosen_library, code_fault, code_of, data_edits, edit_of, entry_at, enumerate_from, false, fault_if, file_at, filter, filter_map, find, first_of, first_private_fault, flat_map, grown_data_size, has_entry, if◌then◌else◌, in_file, in_record, in_slot, information_block, information_of, is_empty, is_host, is_named, is_role, is_some, is_unit, length, length-append, length-take, library_file, linked_byte, list_any, map, name_placed, nat_tests, needs_linking, none_at, not, option_and_then, option_map, option_map_or, option_or, order_of, own_made, own_segment, own_units, owner_of, private_offset, queue_of, range_with_len, reading, record_edits, refl, refs_of, request_by_slot, request_fault, request_of, requested_from, result_err, result_ok, role_fault, role_of, round_fault, rounds_fine, segments_before, segments_of, slice_get, slice_get-map, slice_index, slots, some_mapped, source_of, sources_fine, subst, suc, summed_edits, summed_segment, sym, table_of, tables_fault, take, target_of, true, unit_references, unit_source, units_of, zero, ℕ, ◌&&◌, ◌*◌, ◌++◌, ◌+◌, ◌-◌, ◌<◌, ◌==◌, ◌||◌, ◌∙◌, ◌∷◌, ◌≡◌, ◌≢◌, ◌≤◌}
pub use Rattle.ps_linkfile.proofs.Vocabulary.{LinkedFile, StoredIn, block_len, block_of, blocks, cause_at, drop, edited_from, edited_segments, get_or-drop, get_or-map-range_with_len, get_or-take, get_or_append_left, host_records, known_of, length-drop, length-map-range_with_len, linked_file, map-append, nat_lt, next_of, padded_segment, pair_of, patched_byte, private_words, replicate, stored_in, total_words, ◌/◌}
pub use Rattle.ps_linkfile.specs.ReferencesText.{cause_width, is_word_at, records_at}
pub use Rattle.ps_linkfile.specs.declared.cause.Cause.{Cause}
pub use Rattle.ps_linkinfo.specs.Records.{AreSpelled, IsBody, size_of}
pub use Rattle.ps_rebuild_laws.specs.Alike.{AreFilesAlike, AreReadAlike, HasSameCode, HasSameRecords, HaveSameEntries, IsReadAlike, is_in_place}
pub use Rattle.ps_rebuild_laws.specs.Numbered.{HaveNoNameInCommon, IsOpened, exchanged, renumbered, without}
pub use Rattle.ps_rebuild_laws.specs.SameSegments.{AreSameSegments, HaveSameHeads, of_any_file}
pub use Rattle.ps_rebuild_laws.specs.StoredLines.{AreMadeByLines, IsLine, IsMadeByLines, all_stored}
pub use Rattle.ps_resolve.proofs.EachRound.{rounds_added}
pub use Rattle.ps_resolve.proofs.ReadingLibraries.{chosen_file}
pub use Rattle.ps_resolve.proofs.ReadingUnits.{kind_is}
pub use Rattle.ps_resolve.specs.Added.{added_at, added_segment, placed_fault, rounds_from, segment_at, slot_name}
pub use Rattle.ps_resolve.specs.AllFaults.{reading_rest}
unfoldable pub use Rattle.ps_resolve.specs.AllFaults.{first_fault, reading_fault}
pub use Rattle.ps_resolve.specs.Faults.{entries_reason, host_fault, library_fault, library_reason, references_fault_from, source_fault}
unfoldable pub use Rattle.ps_resolve.specs.Faults.{data_fault, definitions_fault, libraries_fault, linking_fault, no_host_fault, privates_fault, references_fault, slots_fault, sources_fault}
pub use Rattle.ps_words.specs.Words.{word_at}
pub use Rattle.std.proofs.lemmas.List.{drop-append-le, take-append-le}
pub use Rattle.std.proofs.lemmas.List.Folds.{list_any-append}
pub use Rattle.std.proofs.lemmas.Simd.{map-map}
unfoldable pub use Rattle.ps_resolve.specs.Added.{empty_slots, requested_units, rounds, segments, slot_names}
