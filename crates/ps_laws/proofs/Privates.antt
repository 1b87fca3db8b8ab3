-- The first fault of the privates is the smallest that is.
use Rattle.ps_laws.proofs.Vocabulary.{◌⊎◌, enumerate_from, Decides-and, Decides-ltb, Record, first_of, Segment, host_records, next_of, owner_of, OfPrivates, private_offset, in_record, Order, Reason, Fault, ◌≡◌, ℕ, List, [], map, Option, refl, sym, subst, arith, segments, is_private_reference, first_private_fault, PrivateHas, InPrivates, again, reason_at, record_fault, privates_carried}
use Rattle.ps_resolve.specs.Faults.{privates_fault}
use Rattle.ps_laws.proofs.Least.{Least, Precedes, least_same, least_or, least_if, least_items, at_apart}
use Rattle.ps_laws.proofs.Steps.{Ranked, because, because_apart}
use Rattle.ps_laws.proofs.Looking.{of_test}
use Rattle.ps_laws.proofs.Segments.{over_segments, ascend}
use Rattle.ps_laws.proofs.PrivateOffsets.{carried}
use Rattle.ps_resolve.specs.declared.allotment.TheConstants.{MAX_NEXT_FREE}
pub use Rattle.ps_resolve.proofs.LookingBack.{more_words}
use Rattle.ps_words.specs.declared.fault.Reason.TheVariants as reason

-- the first fault of the privates of a segment, with the offsets of all segments
abbrev segment_fault : List Segment → Segment → Option Fault
segment_fault segs s = first_of (record_fault (λ why rec. in_record s.file s.slot rec why)
    (λ n. private_offset segs s.slot n) s.records) (enumerate_from 0 s.records)

-- the reason that is given for a private is the one of smallest rank that applies
private_rows : (segs : List Segment) (s : Segment) (rec : ℕ) (r : Record) → Least Ranked
    (PrivateHas segs s rec r) (reason_at (λ n. private_offset segs s.slot n) s.records (rec, r))
private_rows segs s rec r = least_same to from (least_or (least_if _ reason.DoubledPrivate (again
    is_private_reference s.records rec r)) (least_if _ reason.NoRoom (Decides-and _ _ (of_test _)
    (Decides-ltb MAX_NEXT_FREE _))) (at_apart Ranked reason.DoubledPrivate reason.NoRoom
    (omega arith)))
  where
    to : (x : Reason) → ((x ≡ reason.DoubledPrivate)
        × PrivateHas segs s rec r reason.DoubledPrivate) ⊎ ((x ≡ reason.NoRoom)
        × PrivateHas segs s rec r reason.NoRoom) → PrivateHas segs s rec r x
    to x h = grind arith

    from : (x : Reason) → PrivateHas segs s rec r x
        → ((x ≡ reason.DoubledPrivate) × PrivateHas segs s rec r reason.DoubledPrivate)
        ⊎ ((x ≡ reason.NoRoom) × PrivateHas segs s rec r reason.NoRoom)
    from x h = grind arith

-- the first fault of the privates is the smallest that applies
pub step_8 : (order : Order) (host : List ℕ) (libs : List (List ℕ)) → Least
    (Precedes OfPrivates) (InPrivates order host libs) (privates_fault (segments order host libs))
unfolding privates_fault
step_8 order host libs =
    let segs = segments order host libs in
    let e : first_private_fault (next_of (host_records segs)) (map owner_of segs) ≡ first_of
    (segment_fault segs) segs = carried segs (λ n ss. first_private_fault n (map owner_of ss)
    ≡ first_of (segment_fault segs) ss) (λ n. refl) (λ s rest n offsets later. (let own =
    privates_carried (λ why rec. in_record s.file s.slot rec why) (λ m. private_offset segs s.slot
    m) n [] s.records 0 refl offsets in
    grind (arith, own, later))) (ascend order host libs) in
    subst (λ (o : Option Fault). Least (Precedes OfPrivates) (InPrivates order host libs) o)
    (sym e) (over_segments order host libs _ (λ s is. least_items _ s.records (λ k r e. because
    OfPrivates _ (λ a b h. grind arith) (private_rows segs s k r)) (λ i j a b x y h. because_apart
    OfPrivates _ _ (λ q p. grind arith) x y)) (λ s t x y h a b. because_apart OfPrivates _ _
    (λ q p. grind arith) x y a.3 b.3))
