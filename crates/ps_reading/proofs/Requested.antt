-- The request of a slot: of an empty one that of a name of the queue, of another its own.
use Rattle.ps_reading.proofs.Vocabulary.{◌≡◌, ◌∙◌, ℕ, ◌+◌, ◌==◌, List, [], ◌∷◌, Bool, true, false, Option, Some, None, Result, Ok, Err, All, All-head, All-tail, ap, arith, eqb-true, enumerate_from, find, option_and_then, option_map, option_or, refl, result_ok, slice_get, sym, Order, Reason, Role, entry_at, role_of, is_empty, is_role, empty_slots, queued_request, request_of, Request, UnitReference}
use Rattle.ps_codefile.specs.declared.entry.Role.TheVariants as role
use Rattle.ps_reading.specs.Readings.{read_requests, slot_request, wanted_request}
use Rattle.ps_reading.proofs.BySlot.{empty_are}

-- an empty slot has no request of its own
own_of_empty : (order : Order) (host : List ℕ) (slot : ℕ) (r : Result Role Reason)
    → role_of (entry_at order host slot) ≡ r → is_role is_empty order host slot ≡ true
    → option_and_then (wanted_request order host slot) (result_ok r) ≡ None
own_of_empty order host slot (Ok role.Empty) e h = refl
own_of_empty order host slot (Ok role.Plain) e h = refl
own_of_empty order host slot (Ok role.Host) e h = refl
own_of_empty order host slot (Ok role.Unit) e h = refl
own_of_empty order host slot (Ok role.Wanted) e h = let both = rw e at h in cc
own_of_empty order host slot (Err why) e h = refl

-- one that is not empty is none of the empty ones
not_found : (order : Order) (host : List ℕ) (slot n : ℕ) (xs : List ℕ)
    → All (λ x. is_role is_empty order host x ≡ true) xs
    → is_role is_empty order host slot ≡ false
    → find (λ k. k.1 == slot) (enumerate_from n xs) ≡ None
not_found order host slot n [] all h = refl
not_found order host slot n (x ∷ xs) all h = by (x == slot) refl
    (All-head (λ (y : ℕ). is_role is_empty order host y ≡ true) x xs all)
    (not_found order host slot (n + 1) xs
    (All-tail (λ (y : ℕ). is_role is_empty order host y ≡ true) x xs all) h)
  where
    by : (b : Bool) → (x == slot) ≡ b → is_role is_empty order host x ≡ true
        → find (λ k. k.1 == slot) (enumerate_from (n + 1) xs) ≡ None
        → find (λ k. k.1 == slot) (enumerate_from n (x ∷ xs)) ≡ None
    by true e empty rest =
        let here = sym (ap (is_role is_empty order host) (eqb-true x slot e)) ∙ empty in
        let both = sym h ∙ here in
        cc
    by false e empty rest = grind (arith, e, rest)

module _ (order : Order) (host : List ℕ) (libs : List (List ℕ)) (slot : ℕ) where
  pub of_empty : is_role is_empty order host slot ≡ true → slot_request order host libs slot
      ≡ queued_request (read_requests order host libs) (empty_slots order host) slot
  of_empty h = ap (λ (o : Option Request). option_or o
      (queued_request (read_requests order host libs) (empty_slots order host) slot))
      (own_of_empty order host slot (role_of (entry_at order host slot)) refl h)

  neither : (o : Option Request) → option_or o None ≡ o
  neither None = refl
  neither (Some r) = refl

  pub of_other : is_role is_empty order host slot ≡ false → slot_request order host libs slot
      ≡ option_and_then (wanted_request order host slot)
      (result_ok (role_of (entry_at order host slot)))
  of_other h =
      let own = option_and_then (wanted_request order host slot)
      (result_ok (role_of (entry_at order host slot))) in
      ap (λ (k : Option (ℕ × ℕ)). option_or own (option_and_then (λ (k : ℕ × ℕ). option_map
      (λ (g : UnitReference). request_of g slot)
      (slice_get (read_requests order host libs) k.0)) k))
      (not_found order host slot 0 (empty_slots order host) (empty_are order host libs) h)
      ∙ neither own
