-- The words that several proofs use, each with its home.
pub use Rattle.ps_codefile.specs.Dictionary.{code_of, entry_at, is_filled}
pub use Rattle.ps_codefile.specs.declared.dictionary_layout.TheConstants.{SLOTS}
pub use Rattle.ps_examples.specs.Files.{aux, blank_name, count, host, host_with_tools, host_without_7, library, library_of_the_last, library_of_used, nobody, put_at, state, tools, util, util_code, util_information, with_slot}
pub use Rattle.ps_examples.specs.Segments.{aux_reference, aux_segment, count_reference, count_segment, demo_segment, end_mark, nobody_segment, pair, past_segment, self_segment, state_reference, three, tools_segment, using_segment, util_segment, with_constant, with_plain, with_unused}
pub use Rattle.ps_linkinfo.specs.RecordCounts.{is_unit_reference}
pub use Rattle.ps_linkinfo.specs.declared.record.Body.TheVariants.{ConstDef, Eof, PublDef, PublRef, UnitRef}
pub use Rattle.ps_linkinfo.specs.declared.record.LinkRecord.{LinkRecord as Record}
pub use Rattle.ps_resolve.specs.Origins.{AreOwn, AreRead, RequestsName, HasOne, IsAddedUnit, IsReadFrom, IsUnitOf}
pub use Rattle.ps_resolve.specs.Sources.{Segment, information_block, library_file}
pub use Rattle.ps_resolve.specs.Standing.Sources.{HasEntry, IsNamed}
pub use Rattle.ps_words.specs.declared.fault.Reason.{Reason}
pub use Rattle.ps_words.specs.declared.order.Order.TheVariants.{Little}
pub use Rattle.std.proofs.Common.{All, Bool, Err, List, None, Ok, Option, Result, Some, [], ap, arith, false, inl, inr, leb-true, length, ltb-true, map, not, refl, slice_get, slice_index, subst, suc, sym, take, true, zero, ℕ, ◌&&◌, ◌+◌, ◌<◌, ◌==◌, ◌||◌, ◌∙◌, ◌∷◌, ◌≡◌, ◌≢◌, ◌≤◌, ◌⊎◌}
pub use Rattle.std.proofs.lemmas.Bool.{cases_lt, false≢true}
