-- The slot of a record that requests a unit does not itself want one that no library has.
use Rattle.ps_codefile.specs.declared.entry.Role.TheVariants as role
use Rattle.ps_laws.proofs.Vocabulary.{Segment, unit_source, own_segment, IsGiver, HasRole, UnitReference, Order, slice_get, false≢true, none-some, is_empty, added_segments, is_role, ◌≡◌, List, ◌++◌, Option, ◌∙◌, is_none, ℕ, take, Some, None, true, refl, subst, inl, inr, arith, own_segments, IsRequested, NoneHas, own_made, in_empty}
use Rattle.ps_resolve.specs.FaultParts.{WantsMissing}
use Rattle.ps_lists.proofs.Items.{of_take}
use Rattle.ps_laws.proofs.Segments.{own_in_slot}
use Rattle.ps_laws.proofs.Sources.{none_has, ok_is}
use Rattle.ps_laws.proofs.RequestedUnits.{empty_slot, own_at}
use Rattle.ps_laws.proofs.AddedUnits.{given, split_at}

-- what passes the test for None is None
nothing_is : {A : Type 0} (o : Option A) → is_none o ≡ true → o ≡ None
nothing_is o h = grind arith

-- 1. an added segment is in an empty slot, also where a later round has a fault
module _ (order : Order) (host : List ℕ) (libs : List (List ℕ)) where
  added_slot : (j : ℕ) (s : Segment) → slice_get (added_segments order host libs) j ≡ Some s
      → is_role is_empty order host s.slot ≡ true
  added_slot j s e = (empty_slot order host j s.slot (in_empty order host libs j s e)).2

  not_empty : (slot : ℕ) → HasRole order host slot role.Wanted
      → is_role is_empty order host slot ≡ true → ⊥
  not_empty slot has e = grind (arith, false≢true)

  -- 2. a segment of the host's own that a slot wants has its library
  none_source : (name : List ℕ) → NoneHas order name libs
      → unit_source order name libs ≡ None
  none_source name none = rw (nothing_is _ ((none_has order name libs).1 none)) refl

  own_has_library : (slot : ℕ) (s : Segment) → own_segment order host libs slot ≡ Some s
      → WantsMissing order host libs slot → ⊥
  own_has_library slot s e wants = grind (arith, own_made, ok_is, none-some, none_source)

  -- 3. the giver of a name that is requested
  pub not_wanted : (k : ℕ) (g : UnitReference) → IsRequested order host libs k g
      → WantsMissing order host libs g.at.segment.slot → ⊥
  not_wanted k g t wants =
      elim (split_at _ _ giver.0 s there) [
        | inl h ↦
            let o = own_at order host libs s (giver.0, h) in
            own_has_library o.0 s o.2 (subst (λ n. WantsMissing order host libs n) (slot
            ∙ own_in_slot order host libs o.0 s o.2) wants)
        | inr u ↦
            let v = of_take k _ u.0 s u.2 in
            not_empty s.slot (subst (λ n. HasRole order host n role.Wanted) slot wants.0)
            (added_slot u.0 s v.1)
      ]
    where
      giver : (i : ℕ) × IsGiver (own_segments order host libs
          ++ take k (added_segments order host libs)) i g
      giver = given order host libs (take k (added_segments order host libs)) k g t.1

      s : Segment
      s = giver.1.0.0

      there : slice_get (own_segments order host libs ++ take k (added_segments order host libs))
          giver.0 ≡ Some s
      there = giver.1.0.1

      slot : g.at.segment.slot ≡ s.slot
      slot = giver.1.0.3
