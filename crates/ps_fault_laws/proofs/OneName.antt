-- What a fault is about has one name at most, and it has one where the fault has a slot.
use Rattle.ps_laws.proofs.Vocabulary.{◌≡◌, ◌∙◌, ◌≤◌, ◌↔◌, ℕ, Bool, true, false, List, Option, Some, None, arith, ap, inl, inr, is_some, refl, sym, leb-true, le-leb, slice_get, Fault, Order, order_of, HasRole}
use Rattle.ps_words.specs.FaultPlaces.{has_slot, is_unread}
use Rattle.ps_words.specs.FaultText.{number_of}
use Rattle.ps_codefile.specs.declared.entry.Role.TheVariants as role
use Rattle.ps_reading.specs.Added.{empty_slots}
use Rattle.ps_lists.proofs.Items.{not_apart}
use Rattle.ps_laws.proofs.RequestedUnits.{empty_ascend, empty_slot}
use Rattle.ps_fault_laws.specs.About.{HasRecord, HasSlotAlone, IsAbout, IsNameInRecord, IsNameOfSlot}
use Rattle.ps_fault_laws.proofs.EachFault.{empty_is, not_unread, unread_between}

module _ (order : Order) (host : List ℕ) (libs : List (List ℕ)) where
  is_empty_slot : (k slot : ℕ) → slice_get (empty_slots order host) k ≡ Some slot
      → HasRole order host slot role.Empty
  is_empty_slot k slot e = empty_is _ (empty_slot order host k slot e).2

  -- one place of the empty slots is that of the slot
  same_place : (j k slot : ℕ) → slice_get (empty_slots order host) j ≡ Some slot
      → slice_get (empty_slots order host) k ≡ Some slot → j ≡ k
  same_place j k slot e u = not_apart j k
      (λ h. let lt = empty_ascend order host j k slot slot h e u in omega (arith, lt))
      (λ h. let lt = empty_ascend order host k j slot slot h u e in omega (arith, lt))

  one_of_slot : (slot : ℕ) (x y : List ℕ) → IsNameOfSlot order host libs slot x
      → IsNameOfSlot order host libs slot y → x ≡ y
  one_of_slot slot x y (inl a) (inl b) = sym a.1 ∙ b.1
  one_of_slot slot x y (inl a) (inr b) = absurd (a.0 (is_empty_slot b.0 slot b.3))
  one_of_slot slot x y (inr a) (inl b) = absurd (b.0 (is_empty_slot a.0 slot a.3))
  one_of_slot slot x y (inr a) (inr b) =
      let k = same_place a.0 b.0 slot a.3 b.3 in
      let asked = rw k at a.2 in
      let same : a.1 ≡ b.1 = (let u = asked.1 in let v = b.2.1 in cc) in
      sym a.4 ∙ rw same b.4

  one_in_record : (f : Fault) (rec : ℕ) (x y : List ℕ)
      → IsNameInRecord order host libs f rec x → IsNameInRecord order host libs f rec y
      → x ≡ y
  one_in_record f rec x y a b =
      let slot : a.0.slot ≡ b.0.slot = (let u = a.2.1 in let v = b.2.1 in cc) in
      let there = rw slot at a.1.1 in
      let same : a.0 ≡ b.0 = (let v = b.1.1 in cc) in
      let read = rw same at a.2.3 in
      let record_same : a.2.2 ≡ b.2.2 = (let v = b.2.3 in cc) in
      sym a.2.4 ∙ rw record_same b.2.4

-- a fault is reported without a slot, with a record that was read, or with neither
data Reported (f : Fault) : Type 0 where
  whole : f.slot ≡ None → Reported f
  record_of : (rec : ℕ) → HasRecord f rec → is_some f.slot ≡ true → Reported f
  slot_of : (slot : ℕ) → HasSlotAlone f slot → Reported f

reported : (f : Fault) → Reported f
reported f = go f.slot refl f.rec refl (is_unread f.reason) refl
  where
    go : (slot : Option ℕ) → f.slot ≡ slot → (rec : Option ℕ) → f.rec ≡ rec
        → (b : Bool) → is_unread f.reason ≡ b → Reported f
    go None at rec of b is = whole at
    go (Some slot) at None of b is = slot_of slot (at, inl of)
    go (Some slot) at (Some rec) of true is = slot_of slot (at, inr (unread_between f.reason is))
    go (Some slot) at (Some rec) of false is = record_of rec (of, not_unread f is) (ap is_some at)

pub one : (host : List ℕ) (libs : List (List ℕ)) (f : Fault) (name other : Option (List ℕ))
    → IsAbout host libs f name → IsAbout host libs f other → name ≡ other
one host libs f name other a b = go (reported f)
  where
    go : Reported f → name ≡ other
    go (whole none) = a.of_file none ∙ sym (b.of_file none)
    go (record_of rec h s) =
        let x = a.in_record rec h in
        let y = b.in_record rec h in
        x.2 ∙ rw (one_in_record (order_of host) host libs f rec x.0 y.0 x.1 y.1) (sym y.2)
    go (slot_of slot h) =
        let x = a.in_slot slot h in
        let y = b.in_slot slot h in
        x.2 ∙ rw (one_of_slot (order_of host) host libs slot x.0 y.0 x.1 y.1) (sym y.2)

-- there is a name just where the fault has a slot
named : (host : List ℕ) (libs : List (List ℕ)) (f : Fault) (name : Option (List ℕ))
    → IsAbout host libs f name → is_some name ≡ is_some f.slot
named host libs f name a = go (reported f)
  where
    go : Reported f → is_some name ≡ is_some f.slot
    go (whole none) = ap is_some (a.of_file none) ∙ sym (ap is_some none)
    go (record_of rec h s) = ap is_some (a.in_record rec h).2 ∙ sym s
    go (slot_of slot h) = ap is_some (a.in_slot slot h).2 ∙ sym (ap is_some h.0)

-- and a fault has a slot just where its number is 5 or more
pub numbered : (host : List ℕ) (libs : List (List ℕ)) (f : Fault) (name : Option (List ℕ))
    → IsAbout host libs f name → is_some f.slot ≡ has_slot (number_of f.reason)
    → (is_some name ≡ true) ↔ (5 ≤ number_of f.reason)
numbered host libs f name a parts =
    let same = named host libs f name a ∙ parts in (
      λ e. leb-true 5 (number_of f.reason) (sym same ∙ e),
      λ h. same ∙ le-leb 5 (number_of f.reason) h,
    )
