-- Where no fault applies, no place of a segment is covered twice.
use Rattle.ps_laws.proofs.Vocabulary.{is_reserved, OfReferences, IsSegment, IsOfFile, IsReference, Reaches, IsSizePlace, IsOnePlace, segments_of, NoneStands, Role, Record, Before, needs_linking, is_host, Segment, order_of, Reason, arith, ◌≡◌, ℕ, List, [], ◌∷◌, true, refl, sym, inl, inr, ReferenceHas, in_reference}
use Rattle.ps_lists.proofs.Items.{not_apart}
use Rattle.ps_laws.proofs.SoundCodes.{HasOuter, outer, number_reserved, size_reserved, own_apart}
use Rattle.ps_words.specs.declared.fault.Reason.TheVariants as reason

pub host_linked : (r : Role) → is_host r ≡ true → needs_linking r ≡ true
host_linked r h = grind arith

module _ (host : List ℕ) (libs : List (List ℕ)) (none : NoneStands host libs) (s : Segment)
    (is : IsSegment (order_of host) host libs s) (file : IsOfFile (order_of host) host libs s) where
  -- no reference has a fault
  fine : (rec i x : ℕ) (r : Record) → IsReference s rec r i x → (why : Reason)
      → ReferenceHas (order_of host) (segments_of host libs) s rec r i x why → ⊥
  fine rec i x r t why h = none OfReferences (in_reference s.file s.slot rec i why)
      (record { stands = (s, is, (rec, r, t.0, inr (i, x, t.1, (why, refl, h)))) })

  -- the operands of an earlier and a later reference have no place in common
  no_overlap : (rec i x other j y : ℕ) (r q : Record) (p : ℕ) → Reaches s rec r i x p
      → Reaches s other q j y p → Before (rec ∷ i ∷ []) (other ∷ j ∷ []) → ⊥
  no_overlap rec i x other j y r q p a b h =
      fine other j y q b.0 reason.Overlap (rec, r, a.0.0, (i, x, a.0.1, (h, (p, b.1, a.1))))

  one_reference : (rec i x other j y : ℕ) (r q : Record) (p : ℕ) → Reaches s rec r i x p
      → Reaches s other q j y p → (rec ≡ other) × (i ≡ j)
  one_reference rec i x other j y r q p a b =
      let same =
      not_apart rec other (λ h. no_overlap rec i x other j y r q p a b (inl h))
      (λ h. no_overlap other j y rec i x q r p b a (inl h)) in
      let number =
      not_apart i j (λ h. no_overlap rec i x other j y r q p a b (inr (same, inl h)))
      (λ h. no_overlap other j y rec i x q r p b a (inr (sym same, inl h))) in
      (same, number)

  -- where the outer block's table is
  pub outer_at : (t j p : ℕ) → IsSizePlace (order_of host) s t j p
      → HasOuter (order_of host) s.code t
  outer_at t j p h = outer _ s.code t _ h.0 (file.tables (host_linked s.role h.0)) h.1

  not_reserved : (rec i x : ℕ) (r : Record) (p : ℕ) → Reaches s rec r i x p
      → is_reserved (order_of host) s.code p ≡ true → ⊥
  not_reserved rec i x r p a h = fine rec i x r a.0 reason.ReservedPlace (p, a.1, h)

  pub one_place : (p : ℕ) → IsOnePlace (order_of host) s p
  one_place p = record {
    references = λ rec i x other j y r q a b. one_reference rec i x other j y r q p a b;
    number = λ rec i x r a n. not_reserved rec i x r p a (number_reserved _ s.code p n.1);
    size = λ rec i x t j r a h. not_reserved rec i x r p a (size_reserved _ s.code t j p (outer_at
        t j p h) h.1 h.2 h.3);
    own = λ t j n h. own_apart _ s.code t j p (outer_at t j p h) h.2 h.3 n.1;
  }
