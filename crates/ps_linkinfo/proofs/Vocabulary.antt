-- The words that several proofs use, each with its home.
pub use Rattle.ps_linkinfo.specs.Numbered.{numbered_records}
pub use Rattle.ps_linkinfo.specs.RecordCounts.{declares_name, digest_of, next_in, next_of, record_counts_of, references_in, with_declared_name}
pub use Rattle.ps_linkinfo.specs.Records.{AreSpelled, BeginsWith, EndsOnce, IsBody, IsReading, Spells, Stops, bad, body_at, is_eof, list_len, read_from, reading, record_at, refs_at, refs_of, size_of, used_by}
pub use Rattle.ps_linkinfo.specs.Walk.{Advances, HasGiven, Walk, left_of, whole_walk}
pub use Rattle.ps_linkinfo.specs.declared.record.Body.{Body}
pub use Rattle.ps_linkinfo.specs.declared.record.Body.TheVariants.{ConstDef, Eof, PrivRef, PublDef, PublRef, UnitRef}
pub use Rattle.ps_linkinfo.specs.declared.record.LinkRecord.{LinkRecord as Record}
pub use Rattle.ps_words.specs.Words.{word, word_at}
pub use Rattle.ps_words.specs.declared.fault.Reason.{Reason}
pub use Rattle.ps_words.specs.declared.order.Order.{Order}
pub use Rattle.std.proofs.Common.{All, Bool, Err, List, None, Ok, Option, Result, Some, [], add-one, ap, append-nil, append_assoc, arith, drop, drop-drop, false, fold, get_or, get_or-drop, get_or-take, if◌then◌else◌, length, length-drop, length-take, length-take-le, refl, rules, slice_get, subst, suc, sym, take, true, unwrap_or, zero, zero-add, ℕ, ◌*◌, ◌++◌, ◌+◌, ◌-◌, ◌/◌, ◌<◌, ◌∙◌, ◌∷◌, ◌≡◌, ◌≤◌}
pub use Rattle.std.proofs.lemmas.Bool.Decides.{nat_tests}
pub use Rattle.std.proofs.lemmas.List.Sums.{sum_by-append}
pub use Rattle.std.specs.List.{AllByRecursion, filter_map}
