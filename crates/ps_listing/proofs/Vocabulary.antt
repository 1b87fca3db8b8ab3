-- The words that several proofs use, each with its home.
pub use Rattle.ps_codefile.specs.Dictionary.{entry_at, is_nameless, kind_needs_linking, role_of, slots}
pub use Rattle.ps_codefile.specs.Roles.{needs_linking}
pub use Rattle.ps_codefile.specs.declared.dictionary_layout.TheConstants.{SLOTS}
pub use Rattle.ps_codefile.specs.declared.entry.Role.{Role}
pub use Rattle.ps_writing.proofs.Written.{Written, adds_is, none_yet, some_more, ◌⨾◌}
pub use Rattle.ps_linkinfo.specs.declared.record.LinkRecord.{LinkRecord as Record}
pub use Rattle.ps_listing.specs.ListText.{shown_char}
pub use Rattle.ps_listing.specs.LoneText.{lone_unit, units_as, units_of}
pub use Rattle.ps_words.specs.declared.fault.Fault.{Fault}
pub use Rattle.ps_words.specs.declared.fault.Reason.{Reason}
pub use Rattle.std.proofs.Common.{Bool, Err, IfErr, IfOk, List, None, Ok, Option, Result, Some, [], ap, append-nil, append_assoc, arith, false, flat_map, if◌then◌else◌, is_some, length, length-append, map-id, nat_le, not, option_to_list, refl, subst, suc, sym, true, true≢false, ℕ, ◌&&◌, ◌++◌, ◌+◌, ◌-◌, ◌<◌, ◌==◌, ◌||◌, ◌∙◌, ◌∷◌, ◌≡◌}
pub use Rattle.std.specs.List.{cons_option, filter_map, range_with_len}
