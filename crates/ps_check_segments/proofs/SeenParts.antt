-- Which units of a host are refused, and what the segment of a slot is.
use Rattle.std.proofs.Common.{◌≡◌, ◌≢◌, ◌∙◌, ℕ, Bool, List, true, false, refl, sym, ap, subst, inl, inr, arith}
use Rattle.std.specs.Prelude.{◌⊎◌, ◌&&◌, Option, Some, None, Result, Ok, Err, if◌then◌else◌}
use Rattle.std.specs.Option.{option_map_or}
use Rattle.std.specs.Str.{bytes_eq}
use Rattle.std.proofs.lemmas.Bool.{and_from, and_parts, eqb-true, false≢true}
use Rattle.std.proofs.lemmas.Slice.Eq.{bytes_eq-Decides}
use Rattle.ps_words.specs.declared.fault.Fault.{Fault}
use Rattle.ps_words.specs.declared.fault.Reason.{Reason}
use Rattle.ps_codefile.specs.Dictionary.{entry_at, slots}
use Rattle.ps_codefile.specs.declared.dictionary_layout.TheConstants.{SLOTS}
use Rattle.ps_codefile.specs.declared.entry.Role.{Role}
use Rattle.ps_codefile.specs.declared.entry.Role.TheVariants as role
use Rattle.ps_reading.specs.KnownSegments.{is_in_slot}
use Rattle.ps_reading.specs.Standing.Slots.{HasRole, IsUnitSlot}
use Rattle.ps_reading.specs.declared.reading.added.UnitReference.{UnitReference}
use Rattle.ps_reading.specs.declared.reading.request.Request.{Request}
use Rattle.ps_lists.proofs.Items.{find_passes}
use Rattle.ps_resolve.specs.Added.{request_of}
use Rattle.ps_resolve.specs.Readings.{HostFiles}
use Rattle.ps_resolve.specs.SlotReadings.{reading_in, request_in}
use Rattle.ps_resolve.specs.Sources.{Segment, opened_files}
use Rattle.ps_check_segments.specs.SeenFacts.{IsOfRecord, IsOfSegment, IsPart, IsRefusedUnit}
use Rattle.ps_check_segments.specs.SeenSegments.{is_fault, is_for_unit, is_of_host, is_refused_unit, part_for, part_in, requests_in, role_in, seen_segment, segments_in}
use Rattle.ps_check_segments.specs.SegmentParts.{added_by, part_added, part_as, requester_of}
use Rattle.ps_check_segments.specs.declared.segments.SegmentPart.{SegmentPart}
use Rattle.ps_check_segments.specs.declared.segments.SegmentPart.TheVariants as part
use Rattle.ps_lists.proofs.Places.{from_zero, in_any, of_any, of_find, of_range}
use Rattle.ps_check_segments.proofs.Requesters.{IsAsked}
use Rattle.ps_check_segments.proofs.SlotsRead.{request_of_own}

-- units of the host that are refused
fault_of : (o : Option (Result Segment Fault)) → is_fault o ≡ true
    → (f : Fault) × (o ≡ Some (Err f))
fault_of (Some (Err f)) e = (f, refl)
fault_of other e = absurd (false≢true e)

unit_role : (r : Result Role Reason) → is_for_unit r ≡ true
    → (r ≡ Ok role.Unit) ⊎ (r ≡ Ok role.Wanted)
unit_role (Ok role.Unit) e = inl refl
unit_role (Ok role.Wanted) e = inr refl
unit_role other e = absurd (false≢true e)

module _ (h : HostFiles) where
  pub refused_unit : (name : List ℕ) → is_of_host h name ≡ true → IsRefusedUnit h name
  unfolding is_of_host
  refused_unit name e =
      let t = of_any (is_refused_unit h name) slots e in
      let at = of_range 0 SLOTS t.1.0 t.0 t.1.1 in
      let both = and_parts (is_fault (reading_in h t.0)) (is_for_unit (role_in h t.0)
      && bytes_eq (entry_at h.order h.file t.0).name name) t.2 in
      let unit = and_parts (is_for_unit (role_in h t.0))
      (bytes_eq (entry_at h.order h.file t.0).name name) both.1 in (
        t.0,
        omega (arith, at.0, at.1),
        (
          unit_role (role_in h t.0) unit.0,
          (bytes_eq-Decides (entry_at h.order h.file t.0).name name).0 unit.1,
          fault_of (reading_in h t.0) both.0,
        ),
      )

  for_unit : (slot : ℕ) → IsUnitSlot h.order h.file slot → is_for_unit (role_in h slot) ≡ true
  for_unit slot (inl e) = ap is_for_unit e
  for_unit slot (inr e) = ap is_for_unit e

  of_host : (name : List ℕ) → IsRefusedUnit h name → is_of_host h name ≡ true
  unfolding is_of_host
  of_host name (slot, low, (unit, named, (f, refused))) =
      in_any (is_refused_unit h name) slots slot slot (from_zero SLOTS slot low)
      (and_from (is_fault (reading_in h slot)) _ (ap is_fault refused)
      (and_from (is_for_unit (role_in h slot)) _ (for_unit slot unit)
      ((bytes_eq-Decides (entry_at h.order h.file slot).name name).1 named)))

  pub not_refused : (name : List ℕ) → is_of_host h name ≡ false → IsRefusedUnit h name → ⊥
  not_refused name other is = false≢true (sym other ∙ of_host name is)

  -- what the segment of a slot is
  role_part : (slot : ℕ) (r : Role) (o : Option Request) → HasRole h.order h.file slot r
      → request_in h slot ≡ o → part_in h slot ≡ part_for h (Ok r) o
  role_part slot r o is asks = ap (λ (q : Result Role Reason). part_for h q (request_in h slot)) is
      ∙ ap (part_for h (Ok r)) asks

  abbrev pub HasPart : ℕ → Type 0
  HasPart slot = (what : SegmentPart) × (part_in h slot ≡ Some what) × IsPart h slot what

  pub own_part : (slot : ℕ) (r : Role) → HasRole h.order h.file slot r → r ≢ role.Empty → HasPart slot
  own_part slot role.Empty is other = absurd (other refl)
  own_part slot role.Plain is other = (
    part.Plain,
    role_part slot role.Plain None is
        (request_of_own h.order h.file (opened_files h.order h.libs) slot role.Plain is other),
    inl (is, refl),
  )
  own_part slot role.Host is other = (
    part.Host,
    role_part slot role.Host None is
        (request_of_own h.order h.file (opened_files h.order h.libs) slot role.Host is other),
    inr (inl (is, refl)),
  )
  own_part slot role.Unit is other = (
    part.Unit,
    role_part slot role.Unit None is
        (request_of_own h.order h.file (opened_files h.order h.libs) slot role.Unit is other),
    inr (inr (inl (is, refl))),
  )
  own_part slot role.Wanted is other = (
    part.Wanted,
    role_part slot role.Wanted _ is
        (request_of_own h.order h.file (opened_files h.order h.libs) slot role.Wanted is other),
    inr (inr (inr (inl (is, refl)))),
  )

  abbrev pub Asks : ℕ → UnitReference → Type 0
  Asks slot g = request_in h slot ≡ Some (request_of g slot)

  pub taken_part : (slot : ℕ) (g : UnitReference) (b : Bool) → HasRole h.order h.file slot role.Empty
      → Asks slot g → is_of_host h g.name ≡ b
      → part_in h slot ≡ (if b then None else Some (added_by (segments_in h) g.at))
  taken_part slot g b is asks e = role_part slot role.Empty (Some (request_of g slot)) is asks
      ∙ ap (λ (b : Bool). if b then None else Some (added_by (segments_in h) g.at)) e

  -- a record requests it
  abbrev pub Asked : UnitReference → Type 0
  Asked g = IsAsked h.order h.file (opened_files h.order h.libs) g

  pub of_record : (g : UnitReference) → Asked g → IsOfRecord h g.at (added_by (segments_in h) g.at)
  of_record g a =
      let slot = g.at.segment.slot in
      let t = of_find (is_in_slot slot) (segments_in h) a.segment a.found in
      let here = eqb-true a.segment.slot slot
      (find_passes (is_in_slot slot) (segments_in h) a.segment a.found) in (
        t.0,
        a.segment,
        t.1,
        (
          here,
          ap (λ (o : Option Segment). option_map_or
              (λ (q : Segment). part.Added q.name g.at.rec) o part.Wanted) a.found,
        ),
      )

  pub added_part : (slot : ℕ) (g : UnitReference) → HasRole h.order h.file slot role.Empty
      → Asks slot g → Asked g → IsPart h slot (added_by (segments_in h) g.at)
  added_part slot g is asks a =
      inr (inr (inr (inr (is, (request_of g slot, g.at, asks, refl, of_record g a)))))

  -- what a segment is that was read
  abbrev pub read_part : Segment → SegmentPart
  read_part q = part_as (segments_in h) (requests_in h) q q.role

  role_is : (q : Segment) (r : Role) → q.role ≡ r
      → read_part q ≡ part_as (segments_in h) (requests_in h) q r
  role_is q r e = ap (part_as (segments_in h) (requests_in h) q) e

  pub own_read_part : (slot : ℕ) (r : Role) (q : Segment) → HasRole h.order h.file slot r
      → r ≢ role.Empty → q.role ≡ r → q.added ≡ false → IsPart h slot (read_part q)
  own_read_part slot role.Empty q is other e own = absurd (other refl)
  own_read_part slot role.Plain q is other e own = inl (is, role_is q role.Plain e)
  own_read_part slot role.Host q is other e own = inr (inl (is, role_is q role.Host e))
  own_read_part slot role.Unit q is other e own = inr (inr (inl (is, role_is q role.Unit e)))
  own_read_part slot role.Wanted q is other e own =
      inr (inr (inr (inl (is, role_is q role.Wanted e ∙ (rw own)))))

  pub added_read_part : (slot : ℕ) (g : UnitReference) (q : Segment)
      → HasRole h.order h.file slot role.Empty → Asks slot g → Asked g → q.role ≡ role.Wanted
      → q.added ≡ true → q.name ≡ g.name → IsPart h slot (read_part q)
  added_read_part slot g q is asks a e added named =
      let first : requester_of (requests_in h) q.name ≡ Some g =
      ap (requester_of (requests_in h)) named ∙ a.first in
      let same : read_part q ≡ added_by (segments_in h) g.at = role_is q role.Wanted e
      ∙ ap (λ (b : Bool). if b then part_added (segments_in h) (requester_of (requests_in h) q.name)
      else part.Wanted) added
      ∙ ap (part_added (segments_in h)) first in
      subst (IsPart h slot) (sym same) (added_part slot g is asks a)

  pub of_segment : (q : Segment) → IsPart h q.slot (read_part q) → IsOfSegment h (seen_segment h q) q
  unfolding seen_segment
  of_segment q what = record {
    slot = refl;
    name = refl;
    part = what;
    origin = refl;
    file = refl;
    records = refl;
  }
