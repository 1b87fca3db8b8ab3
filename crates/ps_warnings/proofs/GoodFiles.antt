-- What is found about the link of a small host and a library, part by part.
use Rattle.std.proofs.Common.{◌≡◌, ℕ, Bool, true, false, List, [], ◌∷◌, ◌++◌, append-nil, Option, Some, None, refl, subst, sym}
use Rattle.std.specs.Prelude.{if◌then◌else◌}
use Rattle.ps_words.specs.declared.order.Order.{Order}
use Rattle.ps_words.specs.declared.order.Order.TheVariants.{Little, Big}
use Rattle.ps_codefile.specs.Opened.{has_code, opened}
use Rattle.ps_linkinfo.specs.declared.record.LinkRecord.{LinkRecord as Record}
use Rattle.ps_resolve.specs.Added.{empty_slots, requested_units, rounds, segments, slot_names}
use Rattle.ps_resolve.specs.Faults.{libraries_fault, no_host_fault, slots_fault, sources_fault}
use Rattle.ps_resolve.specs.KnownSegments.{segments_in_slots}
use Rattle.ps_resolve.specs.Readings.{all_read, host_reading_fault, read_requests, read_rounds, read_segments}
use Rattle.ps_resolve.specs.Sources.{own_segments}
use Rattle.ps_filetype.specs.CodeFiles.{code_file, has_kind, has_kinds, has_other, has_shown_code}
use Rattle.ps_filetype.specs.CodeTypes.{has_numbers, has_two_numbers, has_versions, is_code_type, is_later, is_swapped, is_swapped_in, is_swapped_link}
use Rattle.ps_filetype.specs.Names.{is_respelled}
use Rattle.ps_check_segments.specs.Paths.{host_order, path_of}
use Rattle.ps_check_segments.specs.Seen.{Seen, host_records}
use Rattle.ps_check_segments.specs.SeenSegments.{is_of_host, seen_in, seen_of, seen_read, seen_segment, seen_segments, unplaced}
use Rattle.ps_warnings.specs.Searches.AllFindings.{all_findings, findings_of_file, findings_of_files, findings_of_link, findings_of_unit, findings_of_units, link_findings_of}
use Rattle.ps_warnings.specs.Searches.FileFindings.{definition_findings, extent_at, findings_of_code_file, findings_of_entries, findings_of_records, findings_of_segment, findings_of_slot, overlap_finding}
use Rattle.ps_warnings.specs.SegmentSizes.{data_size}
use Rattle.ps_warnings.specs.Found.{Stated}
use Rattle.ps_warnings.specs.SmallFiles.{demo, host_until, pair_until, small_library}
use Rattle.ps_warnings.specs.declared.finding.Finding.TheVariants as which
use Rattle.ps_warnings.specs.declared.finding.RecordFinding.TheVariants as finding

-- 1. where nothing is found in the library and in the link, all is what is found in the host
joined : (xs ys zs found : List Stated) → xs ≡ found → ys ≡ [] → zs ≡ []
    → (xs ++ (ys ++ [])) ++ zs ≡ found
joined xs ys zs found h k l = rw (h, k, l) (simp append-nil)

module _ (paths : List (List ℕ)) (program : Option (List Record)) (list : List Seen) where
  in_file : (order : Order) (number : ℕ) (bytes : List ℕ) (found : List Stated)
      → is_code_type bytes ≡ true
      → findings_of_code_file (path_of paths number) program list order bytes number ≡ found
      → findings_of_file paths program list order (number, bytes) ≡ found
  unfolding findings_of_file
  in_file order number bytes found code h = rw code h

  in_pair : (host lib : List ℕ) (found : List Stated)
      → is_code_type host ≡ true → is_code_type lib ≡ true
      → findings_of_code_file (path_of paths 0) program list (host_order host) host 0 ≡ found
      → findings_of_code_file (path_of paths 1) program list (host_order host) lib 1 ≡ []
      → findings_of_link paths host list ≡ []
      → all_findings paths program host (lib ∷ []) list ≡ found
  unfolding all_findings findings_of_files
  in_pair host lib found one other h k l = joined _ _ _ found
      (in_file (host_order host) 0 host found one h)
      (in_file (host_order host) 1 lib [] other k) l

-- 2. the mark of the host, which may be low, and what is found then
abbrev mark : Bool → ℕ
mark low = if low then 4 else 8

abbrev found_of : Bool → List ℕ → List Stated
found_of true path = record {
  path = path;
  segment = Some demo;
  rec = None;
  finding = which.Record (finding.LowMark 4 10);
} ∷ []
found_of false path = []

-- 3. the files are looked at
pub code_host : (low : Bool) (order : Order) → is_code_type (host_until (mark low) order) ≡ true
unfolding is_code_type is_later has_versions opened has_code code_file has_kind has_other
    has_shown_code has_kinds is_swapped_in is_swapped has_numbers is_swapped_link has_two_numbers
code_host true Little = refl
code_host true Big = refl
code_host false Little = refl
code_host false Big = refl

pub code_library : (order : Order) → is_code_type (small_library order) ≡ true
unfolding is_code_type is_later has_versions opened has_code code_file has_kind has_other
    has_shown_code has_kinds is_swapped_in is_swapped has_numbers is_swapped_link has_two_numbers
code_library Little = refl
code_library Big = refl

-- 4. the segments of their link
pub segments_seen : (low : Bool) (order : Order)
    → seen_segments (host_until (mark low) order) (small_library order ∷ [])
    ≡ pair_until (mark low)
unfolding seen_of seen_in seen_read seen_segment is_of_host unplaced empty_slots rounds segments
    requested_units slot_names read_segments read_rounds all_read read_requests
    host_reading_fault own_segments segments_in_slots slots_fault no_host_fault libraries_fault
    sources_fault
segments_seen true Little = refl
segments_seen true Big = refl
segments_seen false Little = refl
segments_seen false Big = refl

-- 5. what is found in the files, and in the link
in_host : (low : Bool) (order : Order) (path : List ℕ) → findings_of_code_file path
    (host_records (pair_until (mark low))) (pair_until (mark low))
    (host_order (host_until (mark low) order)) (host_until (mark low) order) 0 ≡ found_of low path
unfolding findings_of_code_file findings_of_entries findings_of_slot findings_of_segment
    findings_of_records definition_findings data_size extent_at overlap_finding
in_host true Little path = refl
in_host true Big path = refl
in_host false Little path = refl
in_host false Big path = refl

in_library : (low : Bool) (order : Order) (path : List ℕ) → findings_of_code_file path
    (host_records (pair_until (mark low))) (pair_until (mark low))
    (host_order (host_until (mark low) order)) (small_library order) 1 ≡ []
unfolding findings_of_code_file findings_of_entries findings_of_slot findings_of_segment
    findings_of_records definition_findings data_size extent_at overlap_finding
in_library true Little path = refl
in_library true Big path = refl
in_library false Little path = refl
in_library false Big path = refl

in_link : (low : Bool) (order : Order) (paths : List (List ℕ))
    → findings_of_link paths (host_until (mark low) order) (pair_until (mark low)) ≡ []
unfolding findings_of_link findings_of_units findings_of_unit is_respelled
in_link true Little paths = refl
in_link true Big paths = refl
in_link false Little paths = refl
in_link false Big paths = refl

-- 6. all that is found
pub all_found : (low : Bool) (order : Order) (paths : List (List ℕ))
    → link_findings_of paths (host_until (mark low) order) (small_library order ∷ [])
    (seen_segments (host_until (mark low) order) (small_library order ∷ []))
    ≡ found_of low (path_of paths 0)
all_found low order paths =
    let host = host_until (mark low) order in
    let list = pair_until (mark low) in
    subst (λ (l : List Seen). link_findings_of paths host (small_library order ∷ []) l
    ≡ found_of low (path_of paths 0)) (sym (segments_seen low order))
    (in_pair paths (host_records list) list host (small_library order)
    (found_of low (path_of paths 0)) (code_host low order) (code_library order)
    (in_host low order (path_of paths 0)) (in_library low order (path_of paths 1))
    (in_link low order paths))
