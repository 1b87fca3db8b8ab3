-- What looks wrong in a slot, in a segment and in a file, by cases.
use Rattle.std.proofs.Common.{◌≡◌, ◌++◌, ◌==◌, [], ℕ, List, true, false, refl}
use Rattle.std.specs.Prelude.{Option, Some, None, Result, Ok, Err, nat_lt}
use Rattle.std.specs.List.{list_any}
use Rattle.ps_words.specs.declared.fault.Reason.{Reason}
use Rattle.ps_words.specs.declared.order.Order.{Order}
use Rattle.ps_codefile.specs.Dictionary.{OpenedFile, entry_at, is_filled, kind_needs_linking, opened_alone, opened_beside, role_of}
use Rattle.ps_codefile.specs.declared.entry.Entry.{Entry}
use Rattle.ps_filetype.specs.CodeTypes.{is_code_type}
use Rattle.ps_linkinfo.specs.Numbered.{numbered_records}
use Rattle.ps_linkinfo.specs.Records.{reading}
use Rattle.ps_linkinfo.specs.declared.record.LinkRecord.{LinkRecord as Record}
use Rattle.ps_warnings.specs.Searches.AllFindings.{findings_of_file, findings_of_link, findings_of_units}
use Rattle.ps_warnings.specs.Searches.EntryFindings.{empty_finding, overlap}
use Rattle.ps_warnings.specs.Searches.FileFindings.{definition_findings, findings_of_code_file, findings_of_entries, findings_of_records, findings_of_entry, findings_of_segment, findings_of_slot, host_met, overlap_finding}
use Rattle.ps_warnings.specs.Found.{found_at, found_in_record}
use Rattle.ps_check_segments.specs.Paths.{path_of}
use Rattle.ps_warnings.specs.Searches.RecordFindings.{end_mark, first_above, first_definition, low_mark}
use Rattle.ps_check_segments.specs.Seen.{Seen, has_slot}
use Rattle.ps_warnings.specs.declared.findings.extents.Extent.{Extent}
use Rattle.ps_codefile.specs.declared.dictionary_layout.TheConstants.{SLOTS}

module _ (path : List ℕ) (host : Option (List Record)) (list : List Seen) (order : Order)
    (bytes : List ℕ) (file slot : ℕ) where
  pub slot_filled : is_filled (entry_at order bytes slot) ≡ true
      → findings_of_slot path host list order bytes file slot
      ≡ findings_of_entry path (host_met list file (entry_at order bytes slot).name host) order bytes
      (entry_at order bytes slot)
  unfolding findings_of_slot
  slot_filled h = rw h

  pub slot_empty : is_filled (entry_at order bytes slot) ≡ false → (file == 0) ≡ true
      → findings_of_slot path host list order bytes file slot
      ≡ found_at path None None (empty_finding slot (list_any (has_slot slot) list)
      (entry_at order bytes slot) (role_of (entry_at order bytes slot)))
  unfolding findings_of_slot
  slot_empty h k = rw (h, k)

  pub slot_beside : is_filled (entry_at order bytes slot) ≡ false → (file == 0) ≡ false
      → findings_of_slot path host list order bytes file slot ≡ []
  unfolding findings_of_slot
  slot_beside h k = rw (h, k)

module _ (path : List ℕ) (host : Option (List Record)) (order : Order) (e : Entry)
    (after : List ℕ) where
  pub not_linked : (code : Result (List ℕ) Reason) → kind_needs_linking e.kind ≡ false
      → findings_of_segment path host order e code after ≡ []
  unfolding findings_of_segment
  not_linked (Err why) h = refl
  not_linked (Ok code) h = rw h

  pub linked : (code : List ℕ) → kind_needs_linking e.kind ≡ true
      → findings_of_segment path host order e (Ok code) after
      ≡ findings_of_records path host order e code (reading order after).0
  unfolding findings_of_segment
  linked code h = rw h

  pub no_code : (why : Reason) → findings_of_segment path host order e (Err why) after ≡ []
  unfolding findings_of_segment
  no_code why = refl

module _ (path : List ℕ) (segment : Option (List ℕ)) (host : Option (List Record)) (kind : ℕ)
    (size : Option ℕ) (rs : List Record) where
  pub of_host : (kind == 1) ≡ true → definition_findings path segment host kind size rs
      ≡ found_at path segment None (low_mark (end_mark rs) size)
      ++ found_in_record path segment (first_above rs)
  unfolding definition_findings
  of_host h = rw h

  pub of_unit : (kind == 1) ≡ false → definition_findings path segment host kind size rs
      ≡ found_in_record path segment (first_definition true rs host (numbered_records 0 rs))
      ++ found_in_record path segment (first_definition false rs host (numbered_records 0 rs))
  unfolding definition_findings
  of_unit h = rw h

module _ (path : List ℕ) (order : Order) (bytes : List ℕ) (extents : List Extent) (x : Extent)
  where
    pub in_slot : nat_lt x.slot SLOTS ≡ true → overlap_finding path order bytes extents x
        ≡ found_at path (Some (entry_at order bytes x.slot).name) None (overlap extents x)
    unfolding overlap_finding
    in_slot h = rw h

    pub no_slot : nat_lt x.slot SLOTS ≡ false → overlap_finding path order bytes extents x ≡ []
    unfolding overlap_finding
    no_slot h = rw h

module _ (path : List ℕ) (host : Option (List Record)) (list : List Seen) (order : Order)
    (bytes : List ℕ) (file : ℕ) where
  pub can_read : (f : OpenedFile) → opened_beside order bytes ≡ Ok f
      → findings_of_code_file path host list order bytes file
      ≡ findings_of_entries path host list f.order f.file file
  unfolding findings_of_code_file
  can_read f h = rw h

  pub cannot_read : (why : Reason) → opened_beside order bytes ≡ Err why
      → findings_of_code_file path host list order bytes file ≡ []
  unfolding findings_of_code_file
  cannot_read why h = rw h

module _ (paths : List (List ℕ)) (host : Option (List Record)) (list : List Seen) (order : Order)
    (file : ℕ) (bytes : List ℕ) where
  pub is_code : is_code_type bytes ≡ true → findings_of_file paths host list order (file, bytes)
      ≡ findings_of_code_file (path_of paths file) host list order bytes file
  unfolding findings_of_file
  is_code h = rw h

  pub no_code_file : is_code_type bytes ≡ false
      → findings_of_file paths host list order (file, bytes) ≡ []
  unfolding findings_of_file
  no_code_file h = rw h

module _ (paths : List (List ℕ)) (host : List ℕ) (list : List Seen) where
  pub host_read : (f : OpenedFile) → opened_alone host ≡ Ok f
      → findings_of_link paths host list ≡ findings_of_units paths f.order f.file list
  unfolding findings_of_link
  host_read f h = rw h

  pub host_unread : (why : Reason) → opened_alone host ≡ Err why
      → findings_of_link paths host list ≡ []
  unfolding findings_of_link
  host_unread why h = rw h
