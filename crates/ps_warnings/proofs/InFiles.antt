-- The findings about the link are those of its segments, of the empty slots of its host, of entries that
-- share bytes, and of the units of the link, each where it is.
use Rattle.std.proofs.Common.{◌≡◌, ◌∙◌, ◌+◌, ◌*◌, ◌<◌, ◌≤◌, ℕ, suc, Bool, true, false, List, [], ◌∷◌, Option, Some, None, refl, ap, subst, arith}
use Rattle.std.proofs.Math.Nat.{zero-add}
use Rattle.std.specs.Prelude.{◌==◌, Result, Ok, Err, length, map, slice_get}
use Rattle.std.specs.List.{enumerate_from, flat_map, list_any}
use Rattle.std.proofs.lemmas.Bool.{eqb-true, eq-eqb}
use Rattle.ps_words.specs.declared.fault.Reason.{Reason}
use Rattle.ps_codefile.specs.Dictionary.{OpenedFile, code_of, entry_at, information_of, is_filled, kind_needs_linking, opened_alone, opened_beside, role_of, slots}
use Rattle.ps_codefile.specs.declared.dictionary_layout.TheConstants.{SLOTS}
use Rattle.ps_codefile.specs.declared.entry.Entry.{Entry}
use Rattle.ps_filetype.specs.CodeTypes.{is_code_type}
use Rattle.ps_linkinfo.specs.Records.{reading}
use Rattle.ps_linkinfo.specs.declared.record.LinkRecord.{LinkRecord as Record}
use Rattle.ps_lists.proofs.Items.{Ascends, In, at_range, each_numbered, each_then, in_flat, in_left, in_map, in_numbered, in_right, of_map, of_range, one_then, wider}
use Rattle.ps_check_segments.specs.Paths.{host_order, path_of}
use Rattle.ps_check_segments.specs.Seen.{Seen, has_slot, host_records}
use Rattle.ps_warnings.specs.Searches.AllFindings.{all_findings, findings_of_file, findings_of_files, findings_of_link, findings_of_unit, findings_of_units, link_findings_of}
use Rattle.ps_warnings.specs.Searches.EntryFindings.{empty_finding}
use Rattle.ps_warnings.specs.Searches.FileFindings.{extent_at, findings_of_code_file, findings_of_entries, findings_of_records, findings_of_segment, findings_of_slot, host_met, overlap_finding}
use Rattle.ps_warnings.specs.Found.{Stated, found_at}
use Rattle.ps_warnings.specs.WarnedFiles.{FileSegment, IsLinkedFrom, IsLookedAt, entry_of}
use Rattle.ps_warnings.specs.declared.findings.extents.Extent.{Extent}
use Rattle.ps_warnings.proofs.Slots.{can_read, cannot_read, host_read, host_unread, is_code, linked, no_code, no_code_file, not_linked, slot_beside, slot_empty, slot_filled}

abbrev pub extents_in : OpenedFile → List Extent
extents_in f = map (extent_at f.order f.file) slots

module _ (paths : List (List ℕ)) (host : List ℕ) (libs : List (List ℕ)) (list : List Seen) where
  -- the host program that a unit meets
  abbrev pub met : ℕ → List ℕ → Option (List Record)
  met number name = host_met list number name (host_records list)

  -- what is found in the records of a segment, in an empty slot, of an entry, and of a unit
  abbrev pub of_segment : FileSegment → List Stated
  of_segment g = findings_of_records (path_of paths g.number) (met g.number (entry_of g).name)
      g.file.order (entry_of g) g.code g.records

  abbrev pub of_empty : ℕ → OpenedFile → ℕ → List Stated
  of_empty number f slot = let e = entry_at f.order f.file slot in
      found_at (path_of paths number) None None
      (empty_finding slot (list_any (has_slot slot) list) e (role_of e))

  abbrev pub of_extent : ℕ → OpenedFile → Extent → List Stated
  of_extent number f x = overlap_finding (path_of paths number) f.order f.file (extents_in f) x

  abbrev pub of_unit : OpenedFile → ℕ → Seen → List Stated
  of_unit h k t = findings_of_unit paths h.order h.file list (k, t)

  abbrev pub of_slot : ℕ → OpenedFile → ℕ → List Stated
  of_slot number f slot = findings_of_slot (path_of paths number) (host_records list) list f.order
      f.file number slot

  abbrev pub of_entries : ℕ → OpenedFile → List Stated
  of_entries number f = findings_of_entries (path_of paths number) (host_records list) list f.order
      f.file number

  abbrev of_bytes : ℕ → List ℕ → List Stated
  of_bytes number bytes = findings_of_code_file (path_of paths number) (host_records list) list
      (host_order host) bytes number

  abbrev of_file : ℕ → List ℕ → List Stated
  of_file number bytes = findings_of_file paths (host_records list) list (host_order host)
      (number, bytes)

  abbrev pub of_all : List Stated
  of_all = link_findings_of paths host libs list

  -- 1. what ascends in each of them, in ten numbers of its place, ascends in all
  module _ (R : ℕ → Stated → Type 0) where
    abbrev pub At : ℕ → List Stated → Type 0
    At place l = Ascends R (10 * place) (10 * place + 10) l

    nothing : (a b : ℕ) → a ≤ b → Ascends R a b []
    nothing a b le = le

    module _ (segments : (g : FileSegment) → IsLinkedFrom host libs g
        → At (32 * g.number + g.slot) (of_segment g))
        (empties : (number : ℕ) (f : OpenedFile) (slot : ℕ) → number ≡ 0
        → IsLookedAt host libs number f → slot < SLOTS
        → At (32 * number + slot) (of_empty number f slot))
        (extents : (number : ℕ) (f : OpenedFile) (slot : ℕ) → IsLookedAt host libs number f
        → slot < SLOTS
        → At (32 * number + 16 + slot) (of_extent number f (extent_at f.order f.file slot)))
        (units : (h : OpenedFile) (k : ℕ) (t : Seen) → opened_alone host ≡ Ok h
        → slice_get list k ≡ Some t → At (32 * length (host ∷ libs) + k) (of_unit h k t)) where
      module _ (number : ℕ) (f : OpenedFile) (looked : IsLookedAt host libs number f) (slot : ℕ)
          (below : slot < SLOTS) where
        abbrev e : Entry
        e = entry_at f.order f.file slot

        abbrev after : List ℕ
        after = information_of f.file e

        abbrev place : ℕ
        place = 32 * number + slot

        abbrev read : Result (List ℕ) Reason → List Stated
        read code = findings_of_segment (path_of paths number) (met number e.name) f.order e code
            after

        by_kind : (code : List ℕ) (b : Bool) → is_filled e ≡ true → code_of f.file e ≡ Ok code
            → kind_needs_linking e.kind ≡ b → At place (read (Ok code))
        by_kind code true filled whole links = rw linked (segments (record {
          number = number;
          file = f;
          slot = slot;
          code = code;
          records = (reading f.order after).0;
        }) (record {
          looked = looked;
          below = below;
          filled = filled;
          linked = links;
          code = whole;
          records = refl;
        }))
        by_kind code false filled whole links =
            rw not_linked (nothing (10 * place) (10 * place + 10) (omega arith))

        by_code : (r : Result (List ℕ) Reason) → is_filled e ≡ true → code_of f.file e ≡ r
            → At place (read r)
        by_code (Ok code) filled is = by_kind code (kind_needs_linking e.kind) filled is refl
        by_code (Err why) filled is =
            rw no_code (nothing (10 * place) (10 * place + 10) (omega arith))

        by_file : (b : Bool) → is_filled e ≡ false → (number == 0) ≡ b
            → At place (of_slot number f slot)
        by_file true free is =
            rw slot_empty (empties number f slot (eqb-true number 0 is) looked below)
        by_file false free is =
            rw slot_beside (nothing (10 * place) (10 * place + 10) (omega arith))

        by_slot : (b : Bool) → is_filled e ≡ b → At place (of_slot number f slot)
        by_slot true is = rw slot_filled (by_code (code_of f.file e) is refl)
        by_slot false is = by_file (number == 0) is refl

      module _ (number : ℕ) (f : OpenedFile) (looked : IsLookedAt host libs number f) where
        all_slots : Ascends R (320 * number) (320 * number + 160) (flat_map (of_slot number f) slots)
        all_slots = let n : length slots ≡ 16 = refl in
            wider R (320 * number) (320 * number + 10 * 0) (320 * number + 10 * length slots)
            (320 * number + 160) _ (each_then R (of_slot number f) (λ k. 320 * number + 10 * k) slots
            (λ k slot at. let r = of_range 0 SLOTS slot k at in let is = r.2 in let below = r.1 in
            wider R (320 * number + 10 * k) (10 * (32 * number + slot))
            (10 * (32 * number + slot) + 10) (320 * number + 10 * suc k) _
            (by_slot number f looked slot (omega (arith, below))
            (is_filled (entry_at f.order f.file slot)) refl) (omega (arith, is)) (omega (arith, is))))
            (omega arith) (omega (arith, n))

        all_extents : Ascends R (320 * number + 160) (320 * number + 320)
            (flat_map (of_extent number f) (extents_in f))
        all_extents = let n : length (extents_in f) ≡ 16 = refl in
            wider R (320 * number + 160) (320 * number + 160 + 10 * 0)
            (320 * number + 160 + 10 * length (extents_in f)) (320 * number + 320) _
            (each_then R (of_extent number f) (λ k. 320 * number + 160 + 10 * k) (extents_in f)
            (λ k x at. let m = of_map (extent_at f.order f.file) slots k x at in
            let r = of_range 0 SLOTS m.0 k m.1 in let is = r.2 in let below = r.1 in
            subst (λ (y : Extent). Ascends R (320 * number + 160 + 10 * k)
            (320 * number + 160 + 10 * suc k) (of_extent number f y)) m.2
            (wider R (320 * number + 160 + 10 * k) (10 * (32 * number + 16 + m.0))
            (10 * (32 * number + 16 + m.0) + 10) (320 * number + 160 + 10 * suc k) _
            (extents number f m.0 looked (omega (arith, below))) (omega (arith, is))
            (omega (arith, is))))) (omega arith) (omega (arith, n))

        all_entries : Ascends R (320 * number) (320 * number + 320) (of_entries number f)
        unfolding findings_of_entries
        all_entries = one_then R (320 * number) (320 * number + 160) (320 * number + 160)
            (320 * number + 320) (flat_map (of_slot number f) slots)
            (flat_map (of_extent number f) (extents_in f)) all_slots all_extents (omega arith)

      module _ (number : ℕ) (bytes : List ℕ)
          (given : slice_get (host ∷ libs) number ≡ Some bytes) where
        by_open : (r : Result OpenedFile Reason) → is_code_type bytes ≡ true
            → opened_beside (host_order host) bytes ≡ r
            → Ascends R (320 * number) (320 * number + 320) (of_bytes number bytes)
        by_open (Ok f) code is = rw (can_read, f) (all_entries number f (record {
          bytes = bytes;
          given = given;
          code = code;
          opens = is;
        }))
        by_open (Err why) code is =
            rw (cannot_read, why) (nothing (320 * number) (320 * number + 320) (omega arith))

        by_type : (b : Bool) → is_code_type bytes ≡ b
            → Ascends R (320 * number) (320 * number + 320) (of_file number bytes)
        by_type true is = rw is_code (by_open (opened_beside (host_order host) bytes) is refl)
        by_type false is =
            rw no_code_file (nothing (320 * number) (320 * number + 320) (omega arith))

      abbrev count : ℕ
      count = length (host ∷ libs)

      all_files : Ascends R (320 * 0) (320 * count)
          (findings_of_files paths (host_records list) list (host_order host) (host ∷ libs))
      unfolding findings_of_files
      all_files = each_numbered R (findings_of_file paths (host_records list) list
          (host_order host)) (λ k. 320 * k) 0 (host ∷ libs)
          (λ k j bytes is at. let here : j ≡ k = omega (arith, is) in
          wider R (320 * k) (320 * j) (320 * j + 320) (320 * suc k) _
          (by_type j bytes (ap (λ (n : ℕ). slice_get (host ∷ libs) n) here ∙ at)
          (is_code_type bytes) refl) (omega (arith, here)) (omega (arith, here)))

      all_units : (h : OpenedFile) → opened_alone host ≡ Ok h
          → Ascends R (320 * count + 10 * 0) (320 * count + 10 * length list)
          (findings_of_units paths h.order h.file list)
      unfolding findings_of_units
      all_units h opens = each_numbered R (findings_of_unit paths h.order h.file list)
          (λ k. 320 * count + 10 * k) 0 list
          (λ k j t is at. let here : j ≡ k = omega (arith, is) in
          wider R (320 * count + 10 * k) (10 * (32 * count + j)) (10 * (32 * count + j) + 10)
          (320 * count + 10 * suc k) _
          (units h j t opens (ap (λ (n : ℕ). slice_get list n) here ∙ at)) (omega (arith, here))
          (omega (arith, here)))

      by_link : (r : Result OpenedFile Reason) → opened_alone host ≡ r
          → Ascends R (320 * count + 10 * 0) (320 * count + 10 * length list)
          (findings_of_link paths host list)
      by_link (Ok h) is = rw (host_read, h) (all_units h is)
      by_link (Err why) is = rw (host_unread, why)
          (nothing (320 * count + 10 * 0) (320 * count + 10 * length list) (omega arith))

      pub all_ascend : Ascends R 0 (320 * count + 10 * length list) of_all
      unfolding all_findings
      all_ascend = one_then R 0 (320 * count) (320 * count + 10 * 0)
          (320 * count + 10 * length list) (findings_of_files paths (host_records list) list
          (host_order host) (host ∷ libs)) (findings_of_link paths host list) all_files
          (by_link (opened_alone host) refl) (omega arith)

  -- 2. what is found in one of them is among all
  module _ (s : Stated) where
    in_files : In s (findings_of_files paths (host_records list) list (host_order host)
        (host ∷ libs)) → In s of_all
    unfolding all_findings
    in_files t = in_left (findings_of_files paths (host_records list) list (host_order host)
        (host ∷ libs)) (findings_of_link paths host list) s t

    in_link : In s (findings_of_link paths host list) → In s of_all
    unfolding all_findings
    in_link t = in_right (findings_of_files paths (host_records list) list (host_order host)
        (host ∷ libs)) (findings_of_link paths host list) s t

    in_file : (number : ℕ) (bytes : List ℕ) → slice_get (host ∷ libs) number ≡ Some bytes
        → In s (of_file number bytes) → In s of_all
    unfolding findings_of_files
    in_file number bytes given t = in_files (in_flat (findings_of_file paths (host_records list)
        list (host_order host)) (enumerate_from 0 (host ∷ libs)) (0 + number, bytes) s
        (number, in_numbered 0 (host ∷ libs) number bytes given) (rw zero-add t))

    in_entries : (number : ℕ) (f : OpenedFile) → IsLookedAt host libs number f
        → In s (of_entries number f) → In s of_all
    in_entries number f looked t = let code = looked.code in let opens = looked.opens in
        in_file number looked.bytes looked.given (rw (is_code, can_read, f) t)

    in_slot_of : (number : ℕ) (f : OpenedFile) (slot : ℕ) → IsLookedAt host libs number f
        → slot < SLOTS → In s (of_slot number f slot) → In s of_all
    unfolding findings_of_entries
    in_slot_of number f slot looked below t = in_entries number f looked
        (in_left (flat_map (of_slot number f) slots)
        (flat_map (of_extent number f) (extents_in f)) s
        (in_flat (of_slot number f) slots (0 + slot) s (slot, at_range 0 SLOTS slot below)
        (rw zero-add t)))

    pub in_extent : (number : ℕ) (f : OpenedFile) (slot : ℕ) → IsLookedAt host libs number f
        → slot < SLOTS → In s (of_extent number f (extent_at f.order f.file slot)) → In s of_all
    unfolding findings_of_entries
    in_extent number f slot looked below t = in_entries number f looked
        (in_right (flat_map (of_slot number f) slots)
        (flat_map (of_extent number f) (extents_in f)) s
        (in_flat (of_extent number f) (extents_in f) (extent_at f.order f.file (0 + slot)) s
        (slot, in_map (extent_at f.order f.file) slots slot (0 + slot) (at_range 0 SLOTS slot below))
        (rw (zero-add slot) t)))

    pub in_empty : (number : ℕ) (f : OpenedFile) (slot : ℕ) → number ≡ 0
        → IsLookedAt host libs number f → slot < SLOTS
        → is_filled (entry_at f.order f.file slot) ≡ false → In s (of_empty number f slot)
        → In s of_all
    in_empty number f slot first looked below free t = in_slot_of number f slot looked below
        (let is = eq-eqb number 0 first in rw slot_empty t)

    pub in_segment : (g : FileSegment) → IsLinkedFrom host libs g → In s (of_segment g)
        → In s of_all
    in_segment g is t = let filled = is.filled in let links = is.linked in
        in_slot_of g.number g.file g.slot is.looked is.below
        (rw (slot_filled, is.code, linked) (rw is.records at t))

    pub in_unit : (h : OpenedFile) (k : ℕ) (t : Seen) → opened_alone host ≡ Ok h
        → slice_get list k ≡ Some t → In s (of_unit h k t) → In s of_all
    unfolding findings_of_units
    in_unit h k t is at u = in_link (rw (host_read, h)
        (in_flat (findings_of_unit paths h.order h.file list) (enumerate_from 0 list) (0 + k, t) s
        (k, in_numbered 0 list k t at) (rw zero-add u)))
