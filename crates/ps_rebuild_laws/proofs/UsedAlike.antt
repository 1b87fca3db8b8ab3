-- Libraries of which a link reads the same: what it does not look for may differ.
use Rattle.ps_codefile.specs.declared.entry.Role.TheVariants as role
use Rattle.ps_rebuild_laws.proofs.Vocabulary.{Bool, Both, HaveSameEntries, In, List, None, Order, Segment, Some, [], arith, both, chosen_library, enumerate_from, false, find, first_fault, has_entry, if◌then◌else◌, is_some, library_file, is_named, library_reason, list_any, map, neither, option_map, order_of, refl, segments_of, slots, some_mapped, sym, true, unit_source, ℕ, ◌+◌, ◌∙◌, ◌∷◌, ◌≡◌, ◌≤◌}
use Rattle.std.proofs.lemmas.Option.{option_and_then_some}
use Rattle.ps_rebuild_laws.specs.SameSegments.{AreSameSegments}
use Rattle.ps_rebuild_laws.specs.Used.{AreUsedAlike, IsLookedForIn}
use Rattle.ps_rebuild_laws.proofs.Kept.{still_links}
use Rattle.ps_rebuild_laws.proofs.SameEntries.{IsSame, found_alike, same_search, unmoved}
use Rattle.ps_rebuild_laws.proofs.SameFile.{same_renewed}
use Rattle.ps_rebuild_laws.proofs.SameSearches.{IsFound, renewed}

-- the number of what is found is not below the first
numbered_from : (test : ℕ × List ℕ → Bool) (n : ℕ) (libs : List (List ℕ)) (a : ℕ × List ℕ)
    → find test (enumerate_from n libs) ≡ Some a → n ≤ a.0
numbered_from test n [] a e = absurd (cc)
numbered_from test n (x ∷ xs) a e = grind (arith, numbered_from test (n + 1) xs a)

module _ (order : Order) (segs : List Segment) where
  -- those that are opened are the same
  same_opened : (file : ℕ) (libs others : List (List ℕ))
      → AreUsedAlike order segs file libs others
      → list_any (λ lib. is_some (library_reason order lib)) others
      ≡ list_any (λ lib. is_some (library_reason order lib)) libs
  same_opened file [] [] t = refl
  same_opened file [] (y ∷ ys) t = absurd t
  same_opened file (x ∷ xs) [] t = absurd t
  same_opened file (x ∷ xs) (y ∷ ys) t =
      rw (← t.0.opened, same_opened (file + 1) xs ys t.1) refl

  -- the unit of a name that is looked for is found in the same one
  module _ (name : List ℕ) (s : Segment) (there : In s segs) (wanted : s.role ≡ role.Wanted)
      (is : s.name ≡ name) where
    abbrev test : ℕ × List ℕ → Bool
    test lib = has_entry order name lib.1

    same_choice : (n : ℕ) (libs others : List (List ℕ)) (a : ℕ × List ℕ)
        → AreUsedAlike order segs (library_file n) libs others
        → find test (enumerate_from n libs) ≡ Some a → library_file a.0 ≡ s.file
        → Both (IsSame order name) (find test (enumerate_from n libs))
        (find test (enumerate_from n others))
    same_choice n [] [] a t e file = neither
    same_choice n [] (y ∷ ys) a t e file = absurd t
    same_choice n (x ∷ xs) [] a t e file = absurd t
    same_choice n (x ∷ xs) (y ∷ ys) a t e file =
        let low = numbered_from test n (x ∷ xs) a e in
        let looked : IsLookedForIn segs (library_file n) name =
        (there.0, s, there.1, (wanted, is, omega (arith, low, file))) in
        let like = t.0.entries name looked in
        rw (same_search order name x y like).0 (go like
        (λ h. same_choice (n + 1) xs ys a t.1 (rw h at e) file) (has_entry order name x) refl)
      where
        go : HaveSameEntries order name x y → (has_entry order name x ≡ false
            → Both (IsSame order name) (find test (enumerate_from (n + 1) xs))
            (find test (enumerate_from (n + 1) ys)))
            → (b : Bool) → has_entry order name x ≡ b → Both (IsSame order name)
            (if b then Some (n, x) else find test (enumerate_from (n + 1) xs))
            (if b then Some (n, y) else find test (enumerate_from (n + 1) ys))
        go like later true h = both (n, x) (n, y) (refl, like)
        go like later false h = later h

-- the library of a unit's source
chosen_one : (order : Order) (name : List ℕ) (libs : List (List ℕ)) (place : ℕ × ℕ)
    → unit_source order name libs ≡ Some place → (a : ℕ × List ℕ)
    × (chosen_library order name libs ≡ Some a) × (library_file a.0 ≡ place.0)
chosen_one order name libs place h =
    option_and_then_some (λ (lib : ℕ × List ℕ). option_map (λ i. (library_file lib.0, i))
    (find (is_named order name lib.1) slots)) (chosen_library order name libs) place h
    (λ a is rest. (
      a,
      is,
      (λ j. (sym (some_mapped {X = ℕ} {Y = ℕ × ℕ}
          (λ i. (library_file a.0, i)) _ place rest).2 j).0),
    ))

module _ (host : List ℕ) (libs others : List (List ℕ)) (none : first_fault host libs ≡ None)
    (alike : AreUsedAlike (order_of host) (segments_of host libs) 1 libs others) where
  abbrev order : Order
  order = order_of host

  found : (name : List ℕ) (s : Segment) → In s (segments_of host libs) → s.role ≡ role.Wanted
      → s.name ≡ name → unit_source order name libs ≡ Some (s.file, s.index)
      → IsFound (unmoved host host libs others) name
  found name s t wanted is source =
      let one = chosen_one order name libs (s.file, s.index) source in
      found_alike host host libs others name
      (same_choice order (segments_of host libs) name s t wanted is 0 libs others one.0 alike
      one.1 one.2)

  all : (first_fault host others ≡ None)
      × (segments_of host others ≡ map (renewed (unmoved host host libs others))
      (segments_of host libs))
  all = still_links host libs others (λ k. k) refl (unmoved host host libs others).block none
      (λ t. same_opened order (segments_of host libs) 1 libs others alike ∙ t) (λ r i. refl) found

  pub fine : first_fault host others ≡ None
  fine = all.0

  pub same : AreSameSegments (segments_of host libs) (segments_of host others)
  same = same_renewed (unmoved host host libs others) (segments_of host libs)
      (segments_of host others) all.1
