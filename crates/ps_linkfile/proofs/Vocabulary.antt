-- The words that several proofs use, each with its home.
pub use Rattle.ps_codefile.specs.Dictionary.{FileOrder, OpenedFile, Ordered, Zero, block_len, code_of, entry_at, file_order, information_of, opened_as, opened_beside_as, slots}
pub use Rattle.ps_codefile.specs.declared.code_layout.TheConstants.{MAX_CODE_BLOCKS, MAX_CODE_LEN}
pub use Rattle.ps_codefile.specs.declared.dictionary_layout.TheConstants.{SLOT_COUNT, SLOTS}
pub use Rattle.ps_writing.specs.Counts.{NoneFailed, Rises}
pub use Rattle.ps_linkfile.specs.LinkedFile.{LinkedFile, all_blocks, block_of, dictionary, linked_file, linked_segments, padded_code, padded_segment, pair_of, summary_of}
pub use Rattle.ps_writing.specs.Prefixes.{AppendsPrefix}
pub use Rattle.ps_linkfile.specs.Outcomes.{NamesFirst, error_of}
pub use Rattle.ps_linkfile.specs.ReferencesText.{StoredIn, cause_at, stored_in, all_stored_in, all_stored_of, references_in, size_at}
pub use Rattle.ps_linkfile.specs.ShowText.{entry_in, record_fault_in, record_in, records_in, unit_names}
pub use Rattle.ps_linkfile.specs.Writing.{Ascend, HaveEdits, IsReady, file_in, padded_codes, starts_of, summary_in}
pub use Rattle.ps_linkfile.specs.declared.cause.Cause.{Cause}
pub use Rattle.ps_writing.specs.declared.counts.Counts.{Counts}
pub use Rattle.ps_writing.specs.declared.rows.Form.TheVariants.{Json, Lines}
pub use Rattle.ps_linkinfo.specs.Left.{items_left, items_of}
pub use Rattle.ps_linkinfo.specs.RecordCounts.{next_of}
pub use Rattle.ps_linkinfo.specs.Records.{reading}
pub use Rattle.ps_linkinfo.specs.declared.record.LinkRecord.{LinkRecord as Record}
pub use Rattle.ps_patch.specs.Patched.{patched_or_zero}
pub use Rattle.ps_resolve.specs.LinkedBytes.{HaveLinkedBytes, HaveOneLinkedByte, IsLinkedByte, segments_of}
pub use Rattle.ps_resolve.specs.Linking.{edited_from, edited_segments, known_of, linked_byte}
pub use Rattle.ps_resolve.specs.Plans.{IsPlan, IsStopped, LinkSegments, LinksSegment, Planned}
pub use Rattle.ps_resolve.specs.Privates.{private_words, total_words}
pub use Rattle.ps_resolve.specs.References.{Known}
pub use Rattle.ps_resolve.specs.Sources.{Segment, contents, file_at, host_records, known_order, order_of}
pub use Rattle.ps_words.specs.Edits.{patched_byte}
pub use Rattle.ps_words.specs.FaultPlaces.{in_file, in_slot}
pub use Rattle.ps_words.specs.Words.{blocks, word_bytes}
pub use Rattle.ps_words.specs.declared.edit.Edit.{Edit}
pub use Rattle.ps_words.specs.declared.fault.Fault.{Fault}
pub use Rattle.ps_words.specs.declared.fault.Reason.{Reason}
pub use Rattle.ps_words.specs.declared.order.Order.{Order}
pub use Rattle.std.proofs.Common.{Bool, Err, List, None, Ok, Option, Result, Some, [], add-one, ap, append-nil, append_assoc, arith, codes, cond, drop, drop_at, eq-eqb, false, get_or, get_or-append-add, get_or-take, if◌then◌else◌, inl, inr, length, length-append, length-drop, length-take, ltb, map, option_map, refl, replicate, rules, slice_range, subst, suc, sym, take, take_at, true, zero, ℕ, ◌%◌, ◌*◌, ◌++◌, ◌+◌, ◌-◌, ◌/◌, ◌<◌, ◌==◌, ◌∙◌, ◌∷◌, ◌≡◌, ◌≢◌, ◌≤◌}
pub use Rattle.std.proofs.Math.Seq.{take-add}
pub use Rattle.std.proofs.lemmas.Bool.{cases_lt, le-ltb, ltb-false}
pub use Rattle.std.proofs.lemmas.Bool.Decides.{nat_tests}
pub use Rattle.std.proofs.lemmas.List.{drop-drop, drop-map, drop_all, drop_more, ext_get_or, get_or-append_right, get_or-drop, get_or-replicate, get_or_append_left, length-map, length-replicate, map-append, take_all}
pub use Rattle.std.proofs.lemmas.List.Elements.{All-cons, All-head, All-map, All-nil, All-tail}
pub use Rattle.std.proofs.lemmas.List.FromFn.{fill_by_all, get_or-map-range_with_len, length-map-range_with_len}
pub use Rattle.std.proofs.lemmas.Result.{on_err_weaker}
pub use Rattle.std.specs.Io.KnownBytes.{Appends}
pub use Rattle.std.specs.List.{enumerate_from, filter, find, flat_map, list_any, range_with_len}
pub use Rattle.std.specs.Option.{option_or}
pub use Rattle.std.specs.Prelude.{All, is_some, min, nat_lt, slice_get}
