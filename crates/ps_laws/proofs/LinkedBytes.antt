-- Where no fault applies, the edits of a link make the linked bytes, and each place has one.
use Rattle.ps_laws.proofs.Vocabulary.{table_of, OfReferences, IsSegment, IsOfFile, private_offset, IsReference, IsOnePlace, segments_of, summed_segment, NoneStands, Record, needs_linking, is_host, Segment, order_of, target_of, known_of, Target, in_record, Reason, ◌≡◌, ℕ, ◌<◌, ◌≤◌, List, length, Some, None, Result, Ok, Err, true, refl, inl, RecordHas, IsLinkedByte, HaveLinkedBytes, HaveOneLinkedByte, HaveApartPlaces, reading_fault, linked_byte, Edit, rounds_fine}
use Rattle.std.proofs.lemmas.List.Elements.{All-same, All-map}
use Rattle.ps_laws.proofs.Least.{Least, this}
use Rattle.ps_laws.proofs.Steps.{Ranked}
use Rattle.ps_laws.proofs.Sources.{OneStop}
use Rattle.ps_laws.proofs.RequestedUnits.{requested_is_there}
use Rattle.ps_lists.proofs.Items.{all_items}
use Rattle.ps_laws.proofs.OfLink.{of_link}
use Rattle.ps_laws.proofs.References.{record_rows}
use Rattle.ps_laws.proofs.Whole.{unread}
use Rattle.ps_laws.proofs.SummedOffsets.{offsets}
use Rattle.ps_laws.proofs.SoundCodes.{HasOuter, long, outer}
use Rattle.ps_laws.proofs.OnePlace.{host_linked, one_place}
use Rattle.ps_laws.proofs.OneName.{of_segments, one_unit}
use Rattle.ps_laws.proofs.OneHost.{base_there, one_base, one_public}
use Rattle.ps_laws.proofs.ByteFacts.{facts, one_byte}

-- what is no error is a target
target_there : (o : Result Target Reason) → ((why : Reason) → o ≡ Err why → ⊥)
    → (t : Target) × (o ≡ Ok t)
target_there (Ok t) h = (t, refl)
target_there (Err why) h = absurd (h why refl)

module _ (law : OneStop) (host : List ℕ) (libs : List (List ℕ)) (none : NoneStands host libs)
  where
    read : reading_fault host libs ≡ None
    read = unread law host libs (λ step f r h. none step f h)

    file : (s : Segment) → IsSegment (order_of host) host libs s
        → IsOfFile (order_of host) host libs s
    file s is = (of_link host libs read s is).file

    apart : (s : Segment) → IsSegment (order_of host) host libs s → (p : ℕ)
        → IsOnePlace (order_of host) s p
    apart s is p = one_place host libs none s is (file s is) p

    pub places : HaveApartPlaces host libs
    places = all_items (λ (s : Segment). (p : ℕ) → IsOnePlace (order_of host) s p) (segments_of
        host libs) (λ k s e p. apart s (of_segments (order_of host) host libs k s e) p)

    module _ (s : Segment) (is : IsSegment (order_of host) host libs s) where
      long_code : needs_linking s.role ≡ true → 2 ≤ length s.code
      long_code h = long (order_of host) s.code (is_host s.role) ((file s is).tables h)

      outer_block : (t : ℕ) → is_host s.role ≡ true
          → table_of (order_of host) s.code 1 ≡ Some t → HasOuter (order_of host) s.code t
      outer_block t h table = outer _ s.code t _ h ((file s is).tables (host_linked s.role h)) table

      -- each reference of a record has what its operand becomes
      targets : (rec i x : ℕ) (r : Record) → IsReference s rec r i x
          → (t : Target) × (target_of (known_of (segments_of host libs))
          (private_offset (segments_of host libs) s.slot rec) r ≡ Ok t)
      targets rec i x r u = target_there (target_of (known_of (segments_of host libs))
          (private_offset (segments_of host libs) s.slot rec) r) (λ why e. bad why (rw e at
          (record_rows (segments_of host libs) (private_offset (segments_of host libs) s.slot rec)
          r.name r.body
          (requested_is_there (order_of host) host libs (rounds_fine host libs read) s is
          rec r u.0))))
        where
          bad : (why : Reason) → Least Ranked (RecordHas (segments_of host libs) r.name r.body)
              (Some why) → ⊥
          bad why (this y h l) = none OfReferences (in_record s.file s.slot rec why)
              (record { stands = (s, is, (rec, r, u.0, inl (why, refl, h))) })

      is_byte : (p : ℕ) → IsLinkedByte (order_of host) (segments_of host libs) s p
          (linked_byte (order_of host) (summed_segment (order_of host) (segments_of host libs) s) p)
      is_byte p = facts (order_of host) (segments_of host libs) (base_there host libs none read)
          s long_code outer_block (host_linked s.role) (file s is).unread targets p (apart s is p)

      one_at : (p b c : ℕ) → IsLinkedByte (order_of host) (segments_of host libs) s p b
          → IsLinkedByte (order_of host) (segments_of host libs) s p c → b ≡ c
      one_at p b c x y = one_byte _ _ (base_there host libs none read) s long_code outer_block
          (host_linked s.role) (file s is).unread targets p (apart s is p) (one_unit host libs none
          read) (one_public host libs none read) (one_base host libs none read) b c x y

    abbrev IsMade : Segment × List Edit → Type 0
    IsMade e = (p : ℕ) → p < length e.0.code
        → IsLinkedByte (order_of host) (segments_of host libs) e.0 p
        (linked_byte (order_of host) e p)

    pub bytes : HaveLinkedBytes host libs
    bytes = All-same IsMade _ _ (offsets host libs) (All-map IsMade _ _ (all_items (λ (s :
        Segment). IsMade _) _ (λ k s e p lt. is_byte s (of_segments _ host libs k s e) p)))

    abbrev IsOne : Segment → Type 0
    IsOne s = (p b c : ℕ) → IsLinkedByte (order_of host) (segments_of host libs) s p b
        → IsLinkedByte (order_of host) (segments_of host libs) s p c → b ≡ c

    pub one_linked : HaveOneLinkedByte host libs
    one_linked = all_items IsOne (segments_of host libs)
        (λ k s e p b c x y. one_at s (of_segments (order_of host) host libs k s e) p b c x y)
