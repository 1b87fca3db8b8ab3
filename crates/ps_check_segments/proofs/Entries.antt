-- Where the segment of a slot comes from: each entry is one of a file that can be opened, and where
-- there is none, no library has the unit.
use Rattle.std.proofs.Common.{◌≡◌, ◌≢◌, ◌∙◌, ◌+◌, ◌<◌, ◌∷◌, [], ℕ, Bool, List, length, true, refl, sym, ap, subst, inl, inr, add-one, arith}
use Rattle.std.specs.Prelude.{◌⊎◌, Option, Some, None, Result, Ok, Err, if◌then◌else◌, is_none, nat_lt, option_and_then, slice_get, unwrap_or}
use Rattle.std.specs.List.{enumerate_from, find}
use Rattle.std.specs.Option.{option_map, option_or}
use Rattle.std.specs.Result.{result_ok}
use Rattle.std.proofs.lemmas.Bool.{and_from, cases_Bool, false≢true, or_cases}
use Rattle.std.proofs.lemmas.Slice.Eq.{bytes_eq-Decides}
use Rattle.std.proofs.lemmas.Option.{none-some, same_Some, slice_get-map}
use Rattle.ps_words.specs.declared.fault.Fault.{Fault}
use Rattle.ps_words.specs.declared.fault.Reason.{Reason}
use Rattle.ps_words.specs.declared.fault.Reason.TheVariants as reason
use Rattle.ps_words.specs.declared.order.Order.{Order}
use Rattle.ps_words.specs.declared.order.Order.TheVariants.{Little, Big}
use Rattle.ps_codefile.specs.Dictionary.{FileOrder, OpenedFile, block_len, entry_at, file_order, is_filled, is_nameless, opened_as, opened_beside, opened_beside_as, role_of, same_order, slots}
use Rattle.ps_codefile.specs.declared.entry.Role.{Role}
use Rattle.ps_codefile.specs.declared.entry.Role.TheVariants as role
use Rattle.ps_codefile.specs.declared.dictionary_layout.TheConstants.{SLOTS}
use Rattle.ps_reading.specs.Faults.{libraries_fault, no_host_fault, slots_fault, sources_fault}
use Rattle.ps_reading.specs.Readings.{HostFiles, host_reading_fault, named_entry, opened_host, own_entry, read_rounds}
use Rattle.ps_reading.specs.Requests.{is_missing, request_by_slot}
use Rattle.ps_reading.specs.SlotReadings.{entry_in, first_in, request_in}
use Rattle.ps_reading.specs.Sources.{chosen_library, file_at, has_entry, is_named, library_file, opened_file, opened_files, unit_source}
use Rattle.ps_reading.specs.Standing.Slots.{HasRole}
use Rattle.ps_reading.specs.declared.reading.request.Request.{Request}
use Rattle.ps_reading.proofs.EachRound.{unit_there}
use Rattle.ps_reading.proofs.FirstSlots.{some_mapped}
use Rattle.ps_reading.proofs.ReadingLibraries.{chosen_file, no_entries, opened_is, refused_is}
use Rattle.ps_reading.proofs.ReadingSlots.{host_ok}
use Rattle.ps_resolve.specs.Standing.Sources.{HasEntry}
use Rattle.ps_check_segments.specs.SeenFacts.{IsInLibrary}
use Rattle.ps_lists.proofs.Items.{in_numbered}
use Rattle.ps_lists.proofs.Places.{from_zero, in_any, none_found, of_find, of_range}
use Rattle.ps_check_segments.proofs.SlotsRead.{request_of_own}

-- the entry of a segment
module _ (order : Order) (host : List ℕ) (libs : List (List ℕ)) where
  -- a library is opened that has the unit of a name
  library_opens : (name : List ℕ) (k i : ℕ) (file : List ℕ)
      → chosen_library order name (opened_files order libs) ≡ Some (k, file)
      → find (is_named order name file) slots ≡ Some i
      → (f : OpenedFile) × (opened_beside order (file_at host libs (k + 1)) ≡ Ok f)
  library_opens name k i file chosen found = by (slice_get libs k) refl
    where
      there : unwrap_or (option_map (opened_file order) (slice_get libs k)) [] ≡ file
      there = ap (λ (o : Option (List ℕ)). unwrap_or o []) (sym (slice_get-map (opened_file order) libs k))
          ∙ (rw add-one at (chosen_file order name (opened_files order libs) k file host chosen))

      nothing : file ≡ [] → ⊥
      nothing is = none-some i (sym (no_entries order name)
          ∙ ap (λ (bytes : List ℕ). find (is_named order name bytes) slots) (sym is) ∙ found)

      opens : (lib : List ℕ) → opened_file order lib ≡ file → (r : Result OpenedFile Reason)
          → opened_beside order lib ≡ r → (f : OpenedFile) × (opened_beside order lib ≡ Ok f)
      opens lib is (Ok f) e = (f, e)
      opens lib is (Err why) e = absurd (nothing (sym is ∙ refused_is order lib why e))

      by : (o : Option (List ℕ)) → slice_get libs k ≡ o
          → (f : OpenedFile) × (opened_beside order (unwrap_or (slice_get (host ∷ libs) (k + 1)) []) ≡ Ok f)
      by None e = absurd (nothing (sym there ∙ (rw e)))
      by (Some lib) e = let is : opened_file order lib ≡ file = rw e at there in
          rw (add-one, e) (opens lib is (opened_beside order lib) refl)

  unit_opens : (name : List ℕ) (at : ℕ × ℕ)
      → unit_source order name (opened_files order libs) ≡ Some at
      → (at.1 < SLOTS) × ((f : OpenedFile) × (opened_beside order (file_at host libs at.0) ≡ Ok f))
  unit_opens name at e = by (chosen_library order name (opened_files order libs)) refl e
    where
      by : (o : Option (ℕ × List ℕ)) → chosen_library order name (opened_files order libs) ≡ o
          → option_and_then {U = ℕ × ℕ} (λ (lib : ℕ × List ℕ). option_map {U = ℕ × ℕ}
          (λ i. (library_file lib.0, i)) (find (is_named order name lib.1) slots)) o ≡ Some at
          → (at.1 < SLOTS)
          × ((f : OpenedFile) × (opened_beside order (file_at host libs at.0) ≡ Ok f))
      by None chosen e = absurd (none-some {A = ℕ × ℕ} at e)
      by (Some lib) chosen e =
          let m = some_mapped {Y = ℕ × ℕ} (λ (i : ℕ). (library_file lib.0, i))
          (find (is_named order name lib.1) slots) at e in
          let t = of_find (is_named order name lib.1) slots m.0 m.1 in
          let at_slot = of_range 0 SLOTS t.0 m.0 t.1 in
          let opens = library_opens name lib.0 m.0 lib.1 chosen m.1 in
          rw m.2 (omega (arith, at_slot.0, at_slot.1), opens)

module _ (host : List ℕ) (libs : List (List ℕ)) (h : HostFiles)
    (is_host : opened_host host libs ≡ Ok h) where
  abbrev files : List (List ℕ)
  files = opened_files h.order h.libs

  -- the host is opened beside itself
  same_itself : (order : Order) → same_order order order ≡ true
  same_itself Little = refl
  same_itself Big = refl

  alone_beside : (short : Bool) (of : FileOrder) (file : List ℕ) (f : OpenedFile)
      → (if short then Err reason.ShortFile else opened_as file of) ≡ Ok f
      → (if short then Err reason.ShortFile else opened_beside_as f.order file of) ≡ Ok f
  alone_beside short of file f e = grind (arith, same_itself)

  host_opens : (f : OpenedFile) × (opened_beside h.order host ≡ Ok f)
  host_opens = let t = (host_ok host libs h is_host).0 in (
    record { order = h.order; file = h.file },
    alone_beside (nat_lt (length host) block_len) (file_order host) host
        (record { order = h.order; file = h.file }) t,
  )

  abbrev Opens : ℕ × ℕ → Type 0
  Opens at = (at.1 < SLOTS)
      × ((f : OpenedFile) × (opened_beside h.order (file_at host libs at.0) ≡ Ok f))

  -- the entry of a segment is one of a file that is opened
  pub entry_opens : (slot : ℕ) (at : ℕ × ℕ) → slot < SLOTS → entry_in h slot ≡ Some at → Opens at
  entry_opens slot at low e = by (request_in h slot) (role_of (entry_at h.order h.file slot)) e
    where
      own : ◌≡◌ {A = Option (ℕ × ℕ)} (Some (0, slot)) (Some at) → Opens at
      own is = subst Opens (same_Some {A = ℕ × ℕ} (0, slot) at is) (low, host_opens)

      by : (o : Option Request) (r : Result Role Reason) → (elim o [
        | Some request ↦ named_entry h.order files request.name
        | None ↦ option_and_then (own_entry slot) (result_ok r)
      ]) ≡ Some at → Opens at
      by (Some r) q e = elim (cases_Bool (is_missing h.order files r.name)) [
        | inl missing ↦ absurd (none-some {A = ℕ × ℕ} at (rw missing at e))
        | inr there ↦ subst (λ (ls : List (List ℕ)). (at.1 < SLOTS)
            × ((f : OpenedFile) × (opened_beside h.order (file_at host ls at.0) ≡ Ok f)))
            (host_ok host libs h is_host).1
            (unit_opens h.order host h.libs r.name at (rw there at e))
      ]
      by None (Ok role.Plain) e = own e
      by None (Ok role.Host) e = own e
      by None (Ok role.Unit) e = own e
      by None other e = absurd (none-some {A = ℕ × ℕ} at e)

-- names that are missing
module _ (h : HostFiles) where
  abbrev read_files : List (List ℕ)
  read_files = opened_files h.order h.libs

  nothing : {X : Type 0} (o : Option X) → is_none o ≡ true → o ≡ None
  nothing None e = refl
  nothing (Some x) e = absurd (false≢true e)

  has_named : (name file : List ℕ) → HasEntry h.order name file
      → has_entry h.order name file ≡ true
  has_named name file (i, low, (filled, named)) =
      in_any (is_named h.order name file) slots i i (from_zero SLOTS i low)
      (and_from (is_filled (entry_at h.order file i)) _ filled
      ((bytes_eq-Decides (entry_at h.order file i).name name).1 named))

  -- it is none, or no library that can be opened has it
  pub asked_missing : (name : List ℕ) → is_missing h.order read_files name ≡ true
      → (is_nameless name ≡ true) ⊎ (IsInLibrary h name → ⊥)
  asked_missing name e = elim (or_cases (is_nameless name)
      (is_none (chosen_library h.order name read_files)) e) [
        | inl nameless ↦ inl nameless
        | inr none ↦ inr (λ t. by (nothing (chosen_library h.order name read_files) none) t)
      ]
    where
      by : chosen_library h.order name read_files ≡ None → IsInLibrary h name → ⊥
      by none (k, lib, there, (f, opens, has)) =
          let file = opened_file h.order lib in
          let at : slice_get read_files k ≡ Some file = slice_get-map (opened_file h.order) h.libs k
          ∙ ap (option_map (opened_file h.order)) there in
          let is : f ≡ record { order = h.order; file = file } = opened_is h.order lib f opens in
          let has_one : HasEntry h.order name file =
          subst (λ (o : OpenedFile). HasEntry o.order name o.file) is has in
          false≢true (sym (none_found (λ (l : ℕ × List ℕ). has_entry h.order name l.1)
          (enumerate_from 0 read_files) k (0 + k, file) none (in_numbered 0 read_files k file at))
          ∙ has_named name file has_one)

  -- a request for a unit that comes from no entry is for one that is missing
  pub missing_when : (slot : ℕ) (r : Request) → request_in h slot ≡ Some r
      → entry_in h slot ≡ None → is_missing h.order read_files r.name ≡ true
  missing_when slot r asks none = elim (cases_Bool (is_missing h.order read_files r.name)) [
    | inl missing ↦ missing
    | inr other ↦ absurd (unit_there h.order r.name read_files other
        (rw other at (named ∙ none)))
  ]
    where
      named : named_entry h.order read_files r.name ≡ entry_in h slot
      named = ap (λ (o : Option Request). elim o [
        | Some request ↦ named_entry h.order read_files request.name
        | None ↦ option_and_then (own_entry slot)
            (result_ok (role_of (entry_at h.order h.file slot)))
      ]) (sym asks)

  -- a slot of the host that is filled comes from its entry, or wants a unit
  entry_is : (slot : ℕ) (r : Role) → HasRole h.order h.file slot r
      → request_in h slot ≡ None → entry_in h slot ≡ own_entry slot r
  entry_is slot r is asks = ap (λ (o : Option Request). elim o [
    | Some request ↦ named_entry h.order read_files request.name
    | None ↦ option_and_then (own_entry slot)
        (result_ok (role_of (entry_at h.order h.file slot)))
  ]) asks ∙ ap (λ (q : Result Role Reason). option_and_then (own_entry slot) (result_ok q)) is

  pub wants_unit : (slot : ℕ) (r : Role) → HasRole h.order h.file slot r → r ≢ role.Empty
      → entry_in h slot ≡ None → (q : Request) × (request_in h slot ≡ Some q)
  wants_unit slot role.Empty is other none = absurd (other refl)
  wants_unit slot role.Wanted is other none = (
    request_by_slot h.order h.file slot,
    request_of_own h.order h.file read_files slot role.Wanted is other,
  )
  wants_unit slot role.Plain is other none = absurd (none-some {A = ℕ × ℕ} (0, slot) (sym none
      ∙ entry_is slot role.Plain is
      (request_of_own h.order h.file read_files slot role.Plain is other)))
  wants_unit slot role.Host is other none = absurd (none-some {A = ℕ × ℕ} (0, slot) (sym none
      ∙ entry_is slot role.Host is
      (request_of_own h.order h.file read_files slot role.Host is other)))
  wants_unit slot role.Unit is other none = absurd (none-some {A = ℕ × ℕ} (0, slot) (sym none
      ∙ entry_is slot role.Unit is
      (request_of_own h.order h.file read_files slot role.Unit is other)))

  -- a fault of the rounds is the first of the reading, or comes after it
  or_later : (a b : Option Fault) → (f : Fault) × (b ≡ Some f)
      → (f : Fault) × (option_or a b ≡ Some f)
  or_later None b t = t
  or_later (Some f) b t = (f, refl)

  pub first_after : (f : Fault) → (read_rounds h.order h.file read_files).fault ≡ Some f
      → (g : Fault) × (first_in h ≡ Some g)
  unfolding host_reading_fault
  first_after f e =
      let rounds = (read_rounds h.order h.file read_files).fault in
      let sources = sources_fault h.order h.file read_files in
      let of_libraries = libraries_fault h.order h.libs in
      let no_host = no_host_fault h.order h.file in
      or_later (slots_fault h.order h.file)
      (option_or no_host (option_or of_libraries (option_or sources rounds)))
      (or_later no_host (option_or of_libraries (option_or sources rounds))
      (or_later of_libraries (option_or sources rounds) (or_later sources rounds (f, e))))
