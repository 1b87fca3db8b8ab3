-- The words that several proofs use, each with its home.
pub use Rattle.ps_codefile.specs.Dictionary.{FileOrder, code_of, entry_at, file_order, information_of, is_nameless, opened_alone, opened_as, opened_beside_as, role_of, same_order, slots}
pub use Rattle.ps_codefile.specs.Procedures.{ProcedureTables, content_of, dictionary_len, dictionary_start, is_placed, is_reserved, numbers, procedures, table_of, tables, tables_fault}
pub use Rattle.ps_codefile.specs.Roles.{is_empty, is_host, is_unit, needs_linking}
pub use Rattle.ps_codefile.specs.declared.dictionary_layout.TheConstants.{FIRST_ADDED, SLOTS}
pub use Rattle.ps_codefile.specs.declared.entry.Entry.{Entry}
pub use Rattle.ps_codefile.specs.declared.entry.Role.{Role}
pub use Rattle.ps_linkinfo.specs.RecordCounts.{is_definition, is_private_reference, is_unit_reference, next_in, next_of}
pub use Rattle.ps_linkinfo.specs.Records.{EndsOnce, Spells, Stops, bad, is_end, is_eof, reading, refs_of}
pub use Rattle.ps_linkinfo.specs.declared.record.Body.{Body}
pub use Rattle.ps_linkinfo.specs.declared.record.Body.TheVariants.{Eof, PrivRef, PublDef, PublRef, UnitRef}
pub use Rattle.ps_linkinfo.specs.declared.record.LinkRecord.{LinkRecord as Record}
pub use Rattle.ps_reading.specs.declared.reading.added.TheConstants.{MAX_ADDED}
pub use Rattle.ps_resolve.proofs.EachRound.{IsTurn, all_rounds, own_units, references_of, request_parts, round_fault, segments_before, source_made, unit_there}
pub use Rattle.ps_resolve.proofs.EachSegment.{at_slot, find_has, own_made, own_made as made_from}
pub use Rattle.ps_resolve.proofs.FirstSlots.{none_mapped, none_mapped as map_none, or_none as both_none, some_mapped}
pub use Rattle.ps_resolve.proofs.LookingBack.{again, definitions_carried, privates_carried, reason_at, record_fault, words_before}
pub use Rattle.ps_resolve.proofs.OfLink.{has_host, of_link as all_of_link, own_known, role_none, round_known, rounds_fine, slots_fine, sources_fine}
pub use Rattle.ps_resolve.proofs.OfRounds.{in_empty, name_placed, queue_of, round_at, segment_named, segment_placed}
pub use Rattle.ps_resolve.proofs.ReadingKnown.{all_at, none_at, own_parts, slot_parts}
pub use Rattle.ps_resolve.specs.Added.{RoundsOutcome, added_fault, added_segments, after, all_unit_references, request_of, requested_from, segments, unit_references}
pub use Rattle.ps_resolve.specs.AllFaults.{reading_fault}
pub use Rattle.ps_resolve.specs.Faults.{code_fault, entry_fault, is_role, request_fault, role_fault, sources_fault}
pub use Rattle.ps_resolve.specs.First.{Before}
pub use Rattle.ps_resolve.specs.LinkedBytes.{Becomes, Covers, HaveApartPlaces, HaveLinkedBytes, HaveOneLinkedByte, HaveSummedOffsets, IsBase, IsHostRecord, IsLinkedByte, IsNumberPlace, IsOnePlace, IsPublic, IsReference, IsSizePlace, IsSlotOf, Reaches, all_private_words, private_offset, records_before, segments_of, summed_edits, summed_segment}
pub use Rattle.ps_resolve.specs.Linking.{data_edits, edited_from, grown_data_size, known_of, linked_byte, segment_edits}
pub use Rattle.ps_resolve.specs.OfLink.{IsOfFile, IsOfLink, IsOfRound, IsOfSlot}
pub use Rattle.ps_resolve.specs.Operands.{edit_of, is_in, operands, refs_fault, value_of, width_of}
pub use Rattle.ps_resolve.specs.Origins.{AreAdded, AreBySlot, AreInPlace, AreOfLibraries, AreOfRounds, AreOwn, AreRead, RequestsName, HaveOneEach, IsAddedUnit, IsFile, IsInPlace, IsOwn, IsReadFrom, IsSliceOf, IsTaken, IsUnitOf}
pub use Rattle.ps_resolve.specs.Privates.{first_private_fault, owner_of, private_words, total_words}
pub use Rattle.ps_resolve.specs.References.{Known, public_base, record_edits, records_edits, records_fault, target_in, target_of, unit_slot, words_taken}
pub use Rattle.ps_resolve.specs.RequestedUnits.{AddedUnits, AreGiven, RequestsAt, HasSlot, IsGiver, IsOfFirstLibrary}
pub use Rattle.ps_resolve.specs.Requests.{is_missing, request_by_slot}
pub use Rattle.ps_resolve.specs.Searches.{fault_if, first_of}
pub use Rattle.ps_resolve.specs.Sources.{Segment, chosen_library, file_at, has_entry, host_of, host_records, information_block, is_named, library_file, order_of, own_segment, own_segments, source_of, unit_source, units_of}
pub use Rattle.ps_resolve.specs.Standing.{FaultAt, IsFirst, NoneStands, NoneStandsInReading, StandsIn}
pub use Rattle.ps_resolve.specs.Standing.Keys.{OfAdded, OfDataSize, OfDefinitions, OfHost, OfLibraries, OfNoHost, OfPrivates, OfReferences, OfSlots, OfSources, Step, key, part, rank, record_read, turn}
pub use Rattle.ps_resolve.specs.Standing.Phrases.{Because, SomeBelow, SomeItem}
pub use Rattle.ps_resolve.specs.Standing.Privates.{InPrivates, PrivateHas}
pub use Rattle.ps_resolve.specs.Standing.References.{Defines, InReferences, IsTooLarge, Meet, RecordHas, ReferenceHas}
pub use Rattle.ps_resolve.specs.Standing.Rounds.{InRound, IsMissing, IsRequested, PlacedFault}
pub use Rattle.ps_resolve.specs.Standing.Segments.{IsSegment, SomeSegment}
pub use Rattle.ps_resolve.specs.Standing.Slots.{HasRole, InNoHost, InSlots, IsUnitSlot, SlotHas}
pub use Rattle.ps_resolve.specs.Standing.Sources.{AreBad, CodeFault, EntriesHave, EntryFault, HasBadTable, HasEntry, InSources, IsNamed, NoneHas, TablesHave, UnitFault}
pub use Rattle.ps_reading.specs.declared.reading.added.UnitReference.{UnitReference}
pub use Rattle.ps_reading.specs.declared.reading.request.Request.{Request}
pub use Rattle.ps_resolve.specs.declared.references.Target.{Target}
pub use Rattle.ps_words.specs.FaultPlaces.{in_file, in_record, in_reference, in_slot}
pub use Rattle.ps_words.specs.declared.edit.Edit.{Edit}
pub use Rattle.ps_words.specs.declared.edit.Edit.TheVariants.{Byte, Word}
pub use Rattle.ps_words.specs.declared.fault.Fault.{Fault}
pub use Rattle.ps_words.specs.declared.fault.Reason.{Reason}
pub use Rattle.ps_words.specs.declared.order.Order.{Order}
pub use Rattle.std.proofs.Common.{All, Bool, Err, List, None, Ok, Option, Result, Some, [], ap, append-nil, append_assoc, arith, false, filter, inl, inr, is_none, is_some, le-leb, leb-true, length, length-append, length-take, ltb, ltb-false, map, refl, rules, slice_index, subst, suc, sum_by, sym, take, true, unwrap_or, zero, ℕ, ◌*◌, ◌++◌, ◌+◌, ◌-◌, ◌<◌, ◌↔◌, ◌∙◌, ◌∷◌, ◌≡◌, ◌≤◌}
pub use Rattle.std.proofs.lemmas.Bool.{cases_lt, cases_order, eqb-false, false≢true, lt-ltb, or_cases, or_left, or_parts}
pub use Rattle.std.proofs.lemmas.Bool.Decides.{Decides-and, Decides-at, Decides-eqb, Decides-like, Decides-ltb, Decides-not, Decides-or, nat_tests}
pub use Rattle.std.proofs.lemmas.Grind.{flat_map-append}
pub use Rattle.std.proofs.lemmas.Option.{none-some, option_and_then_some, same_Some, slice_get-map, slice_get_within, some_pair_parts}
pub use Rattle.std.proofs.lemmas.Slice.Eq.{bytes_eq-Decides}
pub use Rattle.std.specs.Bool.{Decides}
pub use Rattle.std.specs.List.{cons_option, enumerate_from, filter_map, find, flat_map, list_all, list_any, range_with_len, slice_get}
pub use Rattle.std.specs.Map.{lookup}
pub use Rattle.std.specs.Option.{option_and_then, option_map, option_map_or, option_or}
pub use Rattle.std.specs.Prelude.{if◌then◌else◌, nat_le, nat_lt, not, ◌&&◌, ◌==◌, ◌||◌, ◌≢◌, ◌⊎◌}
pub use Rattle.std.specs.Result.{result_err, result_ok}
pub use Rattle.std.specs.Str.{bytes_eq}
