-- Where no fault applies, no two units of a link have a name in common.
use Rattle.ps_laws.proofs.Vocabulary.{◌⊎◌, slice_get, same_Some, entry_at, is_unit, added_segments, segments_of, IsOfRound, AddedUnits, Segment, order_of, NoneStands, OfSlots, IsSegment, IsUnitSlot, UnitReference, Order, rules, ◌≡◌, ℕ, ◌<◌, List, Some, None, true, refl, sym, ap, ◌∙◌, inl, inr, SlotHas, segments, reading_fault, IsSlotOf, queue_of, rounds_fine, sources_fine, all_at, SLOTS}
use Rattle.ps_laws.proofs.AddedUnits.{unit_slot, units_are}
use Rattle.ps_lists.proofs.Items.{not_apart, of_all}
use Rattle.ps_laws.proofs.OfLink.{of_link}
use Rattle.ps_words.specs.declared.fault.Reason.TheVariants as reason

-- a segment of the list of all is one of the link
pub of_segments : (order : Order) (host : List ℕ) (libs : List (List ℕ)) (k : ℕ) (s : Segment)
    → slice_get (segments order host libs) k ≡ Some s → IsSegment order host libs s
of_segments order host libs k s e = of_all (IsSegment order host libs) (segments order host libs)
    (all_at order host libs) k s e

module _ (host : List ℕ) (libs : List (List ℕ)) (none : NoneStands host libs)
    (read : reading_fault host libs ≡ None) where
  abbrev order : Order
  order = order_of host

  units : AddedUnits order host libs (queue_of order host libs) (added_segments order host libs)
  units = units_are order host libs (sources_fine host libs read) (rounds_fine host libs read)

  -- a unit that is the host's own has its slot there; one that was added has its name in the queue
  abbrev IsOwn : Segment → Type 0
  IsOwn s = (s.slot < SLOTS) × IsUnitSlot order host s.slot
      × ((entry_at order host s.slot).name ≡ s.name)

  abbrev IsAdded : Segment → Type 0
  IsAdded s = (j : ℕ) × (g : UnitReference) × IsOfRound order host libs j g s

  kind_of : (s : Segment) → IsSegment order host libs s → is_unit s.role ≡ true
      → IsOwn s ⊎ IsAdded s
  kind_of s t unit = search (rules, of_link, unit_slot)

  -- two of the host's own
  before_own : (s q : Segment) → IsOwn s → IsOwn q → s.name ≡ q.name → s.slot < q.slot
      → ⊥
  before_own s q a b same lt =
      let has : SlotHas order host q.slot reason.DoubledSegment =
      (b.1, (s.slot, lt, (a.1, a.2 ∙ (same ∙ sym b.2)))) in
      none OfSlots _ (record { stands = (q.slot, b.0, (reason.DoubledSegment, refl, has)) })

  -- an added one has no name that the host has
  not_both : (s q : Segment) → IsOwn s → IsAdded q → s.name ≡ q.name → ⊥
  not_both s q a b same = (units.requested b.0 b.1 b.2.requested).1
      (s.slot, a.0, (a.1, a.2 ∙ same ∙ b.2.name))

  -- two added ones
  same_added : (s q : Segment) → IsAdded s → IsAdded q → s.name ≡ q.name → s ≡ q
  same_added s q a b same =
      let at = units.once a.0 b.0 a.1 b.1 a.2.requested b.2.requested (sym a.2.name ∙ same
      ∙ b.2.name) in
      same_Some s q (sym a.2.there ∙ ap (slice_get _) at ∙ b.2.there)

  one_slot : (s q : Segment) → IsSegment order host libs s → IsSegment order host libs q
      → is_unit s.role ≡ true → is_unit q.role ≡ true → s.name ≡ q.name
      → s.slot ≡ q.slot
  one_slot s q a b u v same = elim (kind_of s a u) [
    | inl x ↦ elim (kind_of q b v) [
      | inl y ↦ not_apart s.slot q.slot (before_own s q x y same) (before_own q s y x (sym same))
      | inr y ↦ absurd (not_both s q x y same)
    ]
    | inr x ↦ elim (kind_of q b v) [
      | inl y ↦ absurd (not_both q s y x (sym same))
      | inr y ↦ ap (λ (z : Segment). z.slot) (same_added s q x y same)
    ]
  ]

  pub one_unit : (name : List ℕ) (a b : ℕ) → IsSlotOf (segments_of host libs) name a
      → IsSlotOf (segments_of host libs) name b → a ≡ b
  one_unit name a b t u =
      let s = of_segments order host libs t.0 t.1 t.2 in
      let q = of_segments order host libs u.0 u.1 u.2 in
      sym t.3.2 ∙ (one_slot t.1 u.1 s q t.3.0 u.3.0 (t.3.1 ∙ sym u.3.1) ∙ u.3.2)
