-- A list to which names are added, each once.
use Rattle.ps_laws.proofs.Vocabulary.{◌⊎◌, if◌then◌else◌, Decides, Decides-and, Decides-like, bytes_eq, bytes_eq-Decides, slice_get, false≢true, same_Some, is_unit, is_role, entry_at, role_of, slots, ◌≡◌, ℕ, zero, suc, List, [], ◌∷◌, ◌++◌, length, Some, None, Bool, true, false, refl, sym, ap, subst, ◌∙◌, inl, inr, arith, filter_map, SomeItem, SLOTS}
use Rattle.std.specs.Prelude.{Result, Ok, Err}
use Rattle.ps_lists.proofs.Items.{in_filter_map, in_left, in_range, in_right, of_filter_map, of_range}
use Rattle.ps_laws.proofs.Looking.{any_of_items, of_test}
use Rattle.ps_words.specs.declared.fault.Reason.{Reason}
use Rattle.ps_codefile.specs.declared.entry.Role.{Role}
use Rattle.ps_codefile.specs.declared.entry.Role.TheVariants as role
use Rattle.ps_resolve.specs.Readings.{HostFiles, read_requests}
use Rattle.ps_resolve.specs.Sources.{opened_files}
use Rattle.ps_texts.specs.UnitNames.{AreTaken, IsNamed, IsOfHost, IsTaken, IsWanted, has_name, has_slot_of, is_slot_of, slots_wanted, sought_name, units_wanted, wanted_as, wanted_name, with_each, with_name}

-- no name is there twice
abbrev Once : List (List ℕ) → Type 0
Once names = (j k : ℕ) (name : List ℕ) → slice_get names j ≡ Some name
    → slice_get names k ≡ Some name → j ≡ k

-- whether the list has a name
named : (names : List (List ℕ)) (name : List ℕ)
    → Decides (has_name names name) (SomeItem names (λ i other. other ≡ name))
named names name = any_of_items (λ other. bytes_eq other name) (λ other. other ≡ name)
    (λ other. bytes_eq-Decides other name) names

absent : (names : List (List ℕ)) (name : List ℕ) → has_name names name ≡ false
    → IsNamed names name → ⊥
absent names name none t =
    false≢true (sym none ∙ (named names name).1 (t.0, name, t.1, refl))

present : (names : List (List ℕ)) (name : List ℕ) → has_name names name ≡ true
    → IsNamed names name
present names name is = let t = (named names name).0 is in
    (t.0, t.2 ∙ ap (λ n. Some n) t.3)

-- what is in a list with one name behind it
at_end : (names : List (List ℕ)) (name other : List ℕ) (j : ℕ)
    → slice_get (names ++ name ∷ []) j ≡ Some other
    → (slice_get names j ≡ Some other) ⊎ ((j ≡ length names) × (name ≡ other))
at_end [] name other zero e = inr (refl, same_Some name other e)
at_end [] name other (suc j) e = absurd (cc)
at_end (n ∷ names) name other zero e = inl e
at_end (n ∷ names) name other (suc j) e = elim (at_end names name other j e) [
  | inl t ↦ inl t
  | inr t ↦ inr (ap suc t.0, t.1)
]

once_by : (b : Bool) (names : List (List ℕ)) (name : List ℕ) → has_name names name ≡ b
    → Once names → Once (if b then names else names ++ name ∷ [])
once_by true names name is once j k other e u = once j k other e u
once_by false names name none once j k other e u =
    elim (at_end names name other j e) [
      | inl a ↦ elim (at_end names name other k u) [
        | inl b ↦ once j k other a b
        | inr b ↦ absurd (absent names name none (j, a ∙ ap (λ n. Some n) (sym b.1)))
      ]
      | inr a ↦ elim (at_end names name other k u) [
        | inl b ↦ absurd (absent names name none (k, b ∙ ap (λ n. Some n) (sym a.1)))
        | inr b ↦ a.0 ∙ sym b.0
      ]
    ]

once_each : (names more : List (List ℕ)) → Once names → Once (with_each names more)
once_each names [] once = once
once_each names (name ∷ more) once = once_each (with_name names name) more
    (once_by (has_name names name) names name refl once)

-- what is in it was there, or was added
of_by : (b : Bool) (names : List (List ℕ)) (name other : List ℕ)
    → IsNamed (if b then names else names ++ name ∷ []) other
    → IsNamed names other ⊎ (name ≡ other)
of_by true names name other t = inl t
of_by false names name other t = elim (at_end names name other t.0 t.1) [
  | inl e ↦ inl (t.0, e)
  | inr e ↦ inr e.1
]

of_each : (names more : List (List ℕ)) (other : List ℕ) → IsNamed (with_each names more) other
    → IsNamed names other ⊎ IsNamed more other
of_each names [] other t = inl t
of_each names (name ∷ more) other t = elim (of_each (with_name names name) more other t) [
  | inl u ↦ elim (of_by (has_name names name) names name other u) [
    | inl v ↦ inl v
    | inr e ↦ inr (zero, ap (λ n. Some n) e)
  ]
  | inr u ↦ inr (suc u.0, u.1)
]

-- what was there is in it, and what was added
old_by : (b : Bool) (names : List (List ℕ)) (name other : List ℕ) → IsNamed names other
    → IsNamed (if b then names else names ++ name ∷ []) other
old_by true names name other t = t
old_by false names name other t = in_left names (name ∷ []) other t

new_by : (b : Bool) (names : List (List ℕ)) (name : List ℕ) → has_name names name ≡ b
    → IsNamed (if b then names else names ++ name ∷ []) name
new_by true names name is = present names name is
new_by false names name none = in_right names (name ∷ []) name (zero, refl)

in_old : (names more : List (List ℕ)) (other : List ℕ) → IsNamed names other
    → IsNamed (with_each names more) other
in_old names [] other t = t
in_old names (name ∷ more) other t = in_old (with_name names name) more other
    (old_by (has_name names name) names name other t)

in_new : (names more : List (List ℕ)) (other : List ℕ) → IsNamed more other
    → IsNamed (with_each names more) other
in_new names [] other t = absurd (let e = t.1 in cc)
in_new names (name ∷ more) other (zero, e) = in_old (with_name names name) more other
    (subst (λ (n : List ℕ). IsNamed (with_name names name) n) (same_Some name other e)
    (new_by (has_name names name) names name refl))
in_new names (name ∷ more) other (suc k, e) = in_new (with_name names name) more other (k, e)

-- the name of a slot that wants a unit
wanted_is : (name other : List ℕ) (r : Result Role Reason) → wanted_as name r ≡ Some other
    → (r ≡ Ok role.Wanted) × (name ≡ other)
wanted_is name other (Ok role.Empty) e = absurd (cc)
wanted_is name other (Ok role.Wanted) e = (refl, same_Some name other e)
wanted_is name other (Ok role.Plain) e = absurd (cc)
wanted_is name other (Ok role.Host) e = absurd (cc)
wanted_is name other (Ok role.Unit) e = absurd (cc)
wanted_is name other (Err why) e = absurd (cc)

-- the name of a request that no slot has
sought_by : (b : Bool) (name other : List ℕ) → (if b then None else Some name) ≡ Some other
    → (b ≡ false) × (name ≡ other)
sought_by true name other e = absurd (cc)
sought_by false name other e = (refl, same_Some name other e)

module _ (h : HostFiles) where
  -- whether some slot has a name
  of_host : (name : List ℕ) → Decides (has_slot_of h.order h.file name) (IsOfHost h name)
  unfolding has_slot_of
  of_host name = Decides-like _ (λ t. (t.1, (of_range 0 SLOTS t.1 t.0 t.2).1, t.3))
      (λ t. let r = in_range 0 SLOTS t.0 (omega arith) t.1 in (r.0, t.0, r.1, t.2))
      (any_of_items (is_slot_of h.order h.file name)
      (λ slot. (is_role is_unit h.order h.file slot ≡ true)
      × ((entry_at h.order h.file slot).name ≡ name))
      (λ slot. Decides-and _ _ (of_test (is_role is_unit h.order h.file slot))
      (bytes_eq-Decides (entry_at h.order h.file slot).name name)) slots)

  of_slots : (name : List ℕ) → IsNamed (slots_wanted h.order h.file) name → IsWanted h name
  unfolding slots_wanted
  of_slots name t = elim (of_each [] (filter_map (wanted_name h.order h.file) slots) name t) [
    | inl u ↦ absurd (let e = u.1 in cc)
    | inr u ↦
        let r = of_filter_map (wanted_name h.order h.file) slots name u in
        let is = wanted_is (entry_at h.order h.file r.0).name name
        (role_of (entry_at h.order h.file r.0)) r.2 in
        (r.0, (of_range 0 SLOTS r.0 r.1.0 r.1.1).1, is)
  ]

  in_slots : (name : List ℕ) → IsWanted h name → IsNamed (slots_wanted h.order h.file) name
  unfolding slots_wanted
  in_slots name t = in_new [] (filter_map (wanted_name h.order h.file) slots) name
      (in_filter_map (wanted_name h.order h.file) slots t.0 name
      (in_range 0 SLOTS t.0 (omega arith) t.1)
      (ap (wanted_as (entry_at h.order h.file t.0).name) t.2.0 ∙ ap (λ n. Some n) t.2.1))

  -- the names that are requested and that no slot of the host has
  abbrev all_sought : List (List ℕ)
  all_sought = filter_map (λ g. sought_name h.order h.file g.name)
      (read_requests h.order h.file (opened_files h.order h.libs))

  of_wanted : (name : List ℕ) → IsNamed (units_wanted h) name → IsTaken h name
  unfolding units_wanted
  of_wanted name t = elim (of_each (slots_wanted h.order h.file) all_sought name t) [
    | inl u ↦ inl (of_slots name u)
    | inr u ↦
        let r = of_filter_map (λ g. sought_name h.order h.file g.name)
        (read_requests h.order h.file (opened_files h.order h.libs)) name u in
        let is = sought_by (has_slot_of h.order h.file r.0.name) r.0.name name r.2 in
        inr (
          (r.1.0, r.0, r.1.1, is.1),
          (λ has. false≢true (sym is.0 ∙ (of_host r.0.name).1 (rw (← is.1) at has))),
        )
  ]

  in_wanted : (name : List ℕ) → IsTaken h name → IsNamed (units_wanted h) name
  unfolding units_wanted
  in_wanted name (inl t) = in_old (slots_wanted h.order h.file) all_sought name
      (in_slots name t)
  in_wanted name (inr t) = in_new (slots_wanted h.order h.file) all_sought name
      (in_filter_map (λ g. sought_name h.order h.file g.name)
      (read_requests h.order h.file (opened_files h.order h.libs)) t.0.1 name
      (t.0.0, t.0.2) (sought t.0.1.name t.0.3))
    where
      sought : (given : List ℕ) → given ≡ name → sought_name h.order h.file given ≡ Some name
      sought given same = go (has_slot_of h.order h.file given) refl
        where
          go : (b : Bool) → has_slot_of h.order h.file given ≡ b
              → (if b then None else Some given) ≡ Some name
          go true is = absurd (t.1 (rw same at ((of_host given).0 is)))
          go false none = ap (λ n. Some n) same

  once_wanted : Once (units_wanted h)
  unfolding units_wanted slots_wanted
  once_wanted = once_each (slots_wanted h.order h.file) all_sought
      (once_each [] (filter_map (wanted_name h.order h.file) slots)
      (λ j k name e u. absurd (let a = e in cc)))

  pub taken : AreTaken h (units_wanted h)
  taken = record { once = once_wanted; taken = of_wanted; all = in_wanted }
