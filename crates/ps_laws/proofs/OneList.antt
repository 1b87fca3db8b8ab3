-- What is said plainly of the units that are added holds of the queue and the segments that the
-- rounds come to, and of no others.
use Rattle.ps_laws.proofs.Vocabulary.{slice_get, option_map, same_Some, added_segments, added_fault, request_of, Segment, AddedUnits, UnitReference, Order, rules, ◌≡◌, ℕ, zero, suc, List, map, Option, Some, None, refl, sym, ap, subst, ◌∙◌, arith, slice_get-map, sources_fault, queue_of, name_placed}
use Rattle.ps_laws.proofs.AddedUnits.{mapped, same_items, units_are}
use Rattle.ps_laws.proofs.OneQueue.{Agree, HasOneEntry, same_name, same_segment}
use Rattle.ps_laws.proofs.UnitPlaces.{no_entry_fault, one_entry}

agree_longer : {A : Type 0} (k : ℕ) (xs ys : List A) → Agree k xs ys
    → slice_get xs k ≡ slice_get ys k → Agree (suc k) xs ys
agree_longer k xs ys h e j l = grind arith

module _ (segs : List Segment) (queue : List UnitReference) (k : ℕ) where
  -- a sequence of segments has at each place a segment of the name that is there
  named : (g : UnitReference) → map (λ (s : Segment). s.name) segs
      ≡ map (λ (h : UnitReference). h.name) queue → slice_get queue k ≡ Some g
      → (s : Segment) × (slice_get segs k ≡ Some s) × (s.name ≡ g.name)
  named g same e = mapped (λ (s : Segment). s.name) segs k g.name (ap
      (λ names. slice_get names k) same ∙ slice_get-map (λ (h : UnitReference). h.name) queue k
      ∙ ap (option_map (λ (h : UnitReference). h.name)) e)

  -- there is no segment where no name is left
  unnamed : map (λ (s : Segment). s.name) segs ≡ map (λ (h : UnitReference). h.name) queue
      → slice_get queue k ≡ None → slice_get segs k ≡ None
  unnamed same e = go (slice_get segs k) (sym (slice_get-map (λ (s : Segment). s.name) segs k)
      ∙ ap (λ names. slice_get names k) same ∙ slice_get-map (λ
      (h : UnitReference). h.name) queue k ∙ ap (option_map (λ (h : UnitReference). h.name)) e)
    where
      go : (o : Option Segment) → option_map (λ (s : Segment). s.name) o ≡ None → o ≡ None
      go o h = grind arith

module _ (order : Order) (host : List ℕ) (libs : List (List ℕ))
    (fine : sources_fault order host libs ≡ None) (ended : added_fault order host libs ≡ None)
    (other : List UnitReference) (others : List Segment)
    (B : AddedUnits order host libs other others) where
  abbrev Queue : List UnitReference
  Queue = queue_of order host libs

  abbrev Segs : List Segment
  Segs = added_segments order host libs

  A : AddedUnits order host libs Queue Segs
  A = units_are order host libs fine ended

  -- the name at a place, where all before it are the same
  queue_at : (k : ℕ) → Agree k Segs others → Agree k Queue other
      → slice_get Queue k ≡ slice_get other k
  queue_at k segs queue = go (slice_get Queue k) refl (slice_get other k) refl
    where
      go : (o : Option UnitReference) → slice_get Queue k ≡ o → (p : Option UnitReference)
          → slice_get other k ≡ p → slice_get Queue k ≡ slice_get other k
      go (Some g) e p u =
          e ∙ sym (same_name order host libs Queue other Segs others A B k segs queue g e)
      go None e (Some g) u = same_name order host libs other Queue others Segs B A k
          (λ j l. sym (segs j l)) (λ j l. sym (queue j l)) g u ∙ sym u
      go None e None u = search (rules, arith)

  -- the segments at an index are the same where the names are
  segs_at : (k : ℕ) → slice_get Queue k ≡ slice_get other k
      → slice_get Segs k ≡ slice_get others k
  segs_at k same = go (slice_get Queue k) refl
    where
      go : (o : Option UnitReference) → slice_get Queue k ≡ o
          → slice_get Segs k ≡ slice_get others k
      go None e = grind (arith, unnamed, A)
      go (Some g) e =
          let s = named Segs Queue k g A.names e in
          let t = named others other k g B.names (sym same ∙ e) in
          let p = name_placed order host libs ended k g e in
          let only = one_entry order libs g.name p.0.slot
          (no_entry_fault order host libs (request_of g p.0.slot) p.1.fits) in
          let slot = same_Some s.0.slot t.0.slot (sym (A.slots k s.0 s.1) ∙ B.slots k t.0 t.1) in
          let role = (A.roles k s.0 s.1).0 ∙ sym (B.roles k t.0 t.1).0 in
          let marked = (A.roles k s.0 s.1).1 ∙ sym (B.roles k t.0 t.1).1 in
          let one : s.0 ≡ t.0 = same_segment order libs s.0 t.0 slot (s.2 ∙ sym t.2) role marked
          (A.found k s.0 s.1) (B.found k t.0 t.1)
          (subst (λ n. HasOneEntry order libs n) (sym s.2) only) in
          s.1 ∙ ap (λ x. Some x) one ∙ sym t.1

  agreed : (k : ℕ) → Agree k Segs others × Agree k Queue other
  agreed zero = search (rules, arith)
  agreed (suc k) = let h = agreed k in grind (arith, queue_at, agree_longer, segs_at)

  pub only_units : (other ≡ Queue) × (others ≡ Segs)
  only_units = (
    sym (same_items Queue other (λ k. (agreed (suc k)).1 k (omega arith))),
    sym (same_items Segs others (λ k. (agreed (suc k)).0 k (omega arith))),
  )
