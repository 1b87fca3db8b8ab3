-- The words that several proofs use, each with its home.
pub use Rattle.ps_writing.specs.Counts.{AreAtMost, AreBelow, HasRoom, NoneFailed, Rises, RisesByPieces, counts_after, one_more, saturated_after}
pub use Rattle.ps_writing.specs.JsonText.{reference_item}
pub use Rattle.ps_writing.specs.Lines.{reference, references, shown_byte, shown_name}
pub use Rattle.ps_writing.specs.Prefixes.{AppendsPrefix}
pub use Rattle.ps_writing.specs.declared.counts.Counts.{Counts}
pub use Rattle.ps_writing.specs.declared.write_fault.WriteFault.{WriteFault}
pub use Rattle.ps_writing.specs.declared.pieces.TheConstants.{PIECE_REFERENCES}
pub use Rattle.ps_words.specs.declared.words.TheConstants.{MAX_WORD}
pub use Rattle.std.proofs.Common.{Bool, Err, List, None, Ok, OnErr, Option, Result, Some, [], ap, append-nil, append_assoc, arith, decimal, drop, false, get_or, length, length-drop, refl, sym, take, true, ℕ, ◌*◌, ◌++◌, ◌+◌, ◌-◌, ◌<◌, ◌^◌, ◌∙◌, ◌∷◌, ◌≡◌, ◌≢◌, ◌≤◌}
pub use Rattle.std.proofs.lemmas.List.{drop-drop, drop_all, drop_more, take-append-drop, take_all, take_min}
pub use Rattle.std.proofs.lemmas.Result.{on_err_weaker, on_ok_weaker}
pub use Rattle.std.specs.Io.KnownBytes.{Appends}
pub use Rattle.std.specs.List.{enumerate_from, flat_map, range_with_len}
pub use Rattle.std.specs.Prelude.{is_some, min}
