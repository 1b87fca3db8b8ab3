-- Links whose libraries stand elsewhere, or one of which is left out.
use Rattle.ps_codefile.specs.declared.entry.Role.TheVariants as role
use Rattle.ps_rebuild_laws.proofs.Vocabulary.{All, AreSameSegments, Bool, Both, HaveNoNameInCommon, In, IsOpened, List, None, Option, Segment, Some, [], ap, arith, both, chosen_library, enumerate_from, exchanged, false, find, first_fault, has, has_entry, is_some, length, library_file, list_any, list_any-append, map, nat_tests, neither, of_all, option_map, order_of, refl, renumbered, segments_of, some_mapped, true, unit_source, without, ℕ, ◌++◌, ◌+◌, ◌∙◌, ◌∷◌, ◌≡◌, ◌≢◌, ◌≤◌}
use Rattle.ps_rebuild_laws.proofs.Kept.{AllOpened, change_of, is_refused, still_links}
use Rattle.ps_rebuild_laws.proofs.SameSearches.{AreChosenAlike, Change, IsFound}
use Rattle.ps_rebuild_laws.proofs.SameFile.{same_renewed}

-- 1. libraries by their numbers
-- the first that passes of those that are numbered from n on
abbrev chosen_from : (List ℕ → Bool) → ℕ → List (List ℕ) → Option (ℕ × List ℕ)
chosen_from test n libs = find (λ (lib : ℕ × List ℕ). test lib.1) (enumerate_from n libs)

-- another number
abbrev placed : (ℕ → ℕ) → Option (ℕ × List ℕ) → Option (ℕ × List ℕ)
placed place o = option_map (λ (a : ℕ × List ℕ). (place a.0, a.1)) o

module _ (test : List ℕ → Bool) where
  -- libraries that are numbered from m on, and not from n on
  shifted : (place : ℕ → ℕ) (n m : ℕ) (xs : List (List ℕ))
      → ((i j : ℕ) → n ≤ i → j + n ≡ i + m → place i ≡ j)
      → chosen_from test m xs ≡ placed place (chosen_from test n xs)
  shifted place n m [] h = refl
  shifted place n m (x ∷ xs) h =
      let now : place n ≡ m = h n m (omega arith) (omega arith) in
      let later = shifted place (n + 1) (m + 1) xs (λ i j low e.
      h i j (omega (arith, low)) (omega (arith, e))) in grind (arith, now, later)

  -- neighbours, not both of which pass, are exchanged
  swapped : (n spot : ℕ) (before after : List (List ℕ)) (a b : List ℕ)
      → spot ≡ n + length before → (test a ≡ true → test b ≡ true → ⊥)
      → chosen_from test n (before ++ (b ∷ a ∷ after))
      ≡ placed (exchanged spot) (chosen_from test n (before ++ (a ∷ b ∷ after)))
  swapped n spot [] after a b e apart =
      let rest = shifted (exchanged spot) (n + 1 + 1) (n + 1 + 1) after
      (λ i j low k. grind (arith, nat_tests)) in grind (arith, nat_tests)
  swapped n spot (x ∷ before) after a b e apart =
      grind (arith, nat_tests, swapped (n + 1) spot before after a b (omega (arith, e)) apart)

  -- one that is not chosen is left out
  left : (n spot : ℕ) (before after : List (List ℕ)) (lib : List ℕ)
      → spot ≡ n + length before
      → (chosen_from test n (before ++ (lib ∷ after)) ≡ Some (spot, lib) → ⊥)
      → chosen_from test n (before ++ after)
      ≡ placed (without spot) (chosen_from test n (before ++ (lib ∷ after)))
  left n spot [] after lib e other =
      let rest = shifted (without spot) (n + 1) n after (λ i j low k. grind (arith, nat_tests)) in
      grind (arith, nat_tests)
  left n spot (x ∷ before) after lib e other =
      let rest = λ (no : test x ≡ false). left (n + 1) spot before after lib (omega (arith, e))
      (λ h. other (rw no h)) in grind (arith, nat_tests, rest)

-- where none of them passes, none of those passes that are left, or stand elsewhere
none_swapped : (test : List ℕ → Bool) (before after : List (List ℕ)) (a b : List ℕ)
    → list_any test (before ++ (a ∷ b ∷ after)) ≡ false
    → list_any test (before ++ (b ∷ a ∷ after)) ≡ false
none_swapped test before after a b t = grind (arith, list_any-append test)

none_left : (test : List ℕ → Bool) (before after : List (List ℕ)) (a : List ℕ)
    → list_any test (before ++ (a ∷ after)) ≡ false → list_any test (before ++ after) ≡ false
none_left test before after a t = grind (arith, list_any-append test)

none_more : (test : List ℕ → Bool) (libs : List (List ℕ)) (a : List ℕ) → test a ≡ false
    → list_any test libs ≡ false → list_any test (libs ++ a ∷ []) ≡ false
none_more test libs a e t = grind (arith, list_any-append test)

-- what is kept: no fault, and the segments but for the numbers of their files
pub record IsKept (number : ℕ → ℕ)
    (host : List ℕ) (libs others : List (List ℕ)) : Type 0 where
  pub fine : first_fault host others ≡ None
  pub same : AreSameSegments (segments_of host libs) (segments_of host others)
  pub segments : segments_of host others ≡ map (renumbered number) (segments_of host libs)

-- 2. libraries become others, in which each unit of the link is found under another number
module _ (host : List ℕ) (libs others : List (List ℕ)) (number place : ℕ → ℕ)
    (same_host : number 0 ≡ 0)
    (places : (k : ℕ) → library_file (place k) ≡ number (library_file k))
    (none : first_fault host libs ≡ None)
    (opened : AllOpened host libs others)
    (chosen : (name : List ℕ) (s : Segment) → In s (segments_of host libs)
    → s.role ≡ role.Wanted → s.name ≡ name
    → unit_source (order_of host) name libs ≡ Some (s.file, s.index)
    → chosen_library (order_of host) name others
    ≡ placed place (chosen_library (order_of host) name libs)) where
  abbrev change : Change
  change = change_of host libs others number same_host (λ r k i b. b)

  found : (name : List ℕ) (s : Segment) → In s (segments_of host libs) → s.role ≡ role.Wanted
      → s.name ≡ name → unit_source (order_of host) name libs ≡ Some (s.file, s.index)
      → IsFound change name
  found name s t wanted is source =
      rw (chosen name s t wanted is source) (go (chosen_library (order_of host) name libs))
    where
      go : (o : Option (ℕ × List ℕ)) → Both (AreChosenAlike change name) o (placed place o)
      go None = neither
      go (Some a) = both a (place a.0, a.1) (record {
        file = places a.0;
        index = refl;
        reasons = refl;
        source = λ i at fine. record { code = refl; records = λ n. refl; behind = refl };
      })

  pub kept : IsKept number host libs others
  kept =
      let all = still_links host libs others number same_host (λ r k i b. b) none opened
      (λ r i. refl) found in
      record {
        fine = all.0;
        same = same_renewed change (segments_of host libs) (segments_of host others) all.1;
        segments = all.1;
      }

module _ (host : List ℕ) (before after : List (List ℕ)) (lib : List ℕ) where
  abbrev spot : ℕ
  spot = length before

  -- 3. neighbours are exchanged
  pub exchanged_kept : (next : List ℕ)
      → first_fault host (before ++ (lib ∷ next ∷ after)) ≡ None
      → HaveNoNameInCommon (order_of host) (segments_of host (before ++ (lib ∷ next ∷ after)))
      lib next → IsKept (exchanged (library_file spot)) host (before ++ (lib ∷ next ∷ after))
      (before ++ (next ∷ lib ∷ after))
  exchanged_kept next none apart = kept host (before ++ (lib ∷ next ∷ after))
      (before ++ (next ∷ lib ∷ after)) (exchanged (library_file spot)) (exchanged spot)
      (grind (arith, nat_tests)) (λ k. grind (arith, nat_tests)) none
      (none_swapped (is_refused host) before after lib next)
      (λ name s t wanted is source. let is_there = has (order_of host) name in
      swapped (has_entry (order_of host) name) 0 spot before after lib next (omega arith)
      (λ p q. apart name (t.0, s, t.1, (wanted, is)) ((is_there lib).0 p)
      ((is_there next).0 q)))

  -- 4. a library is left out
  pub left_out : first_fault host (before ++ (lib ∷ after)) ≡ None
      → All (λ (s : Segment). s.file ≢ library_file spot)
      (segments_of host (before ++ (lib ∷ after)))
      → IsKept (without (library_file spot)) host (before ++ (lib ∷ after)) (before ++ after)
  left_out none gives = kept host (before ++ (lib ∷ after)) (before ++ after)
      (without (library_file spot)) (without spot)
      (grind (arith, nat_tests)) (λ k. grind (arith, nat_tests)) none
      (none_left (is_refused host) before after lib)
      (λ name s t wanted is source. left (has_entry (order_of host) name) 0 spot before after lib
      (omega arith) (λ e. of_all (λ (q : Segment). q.file ≢ library_file spot)
      (segments_of host (before ++ (lib ∷ after))) gives t.0 s t.1
      (λ j. ((some_mapped {X = ℕ} {Y = ℕ × ℕ} (λ i. (library_file spot, i)) _
      (s.file, s.index) (rw e at source)).2 j).0)))

-- 5. a library is appended
-- what is found is found first, whatever follows
found_before : (test : List ℕ → Bool) (n : ℕ) (libs : List (List ℕ)) (lib : List ℕ)
    → (chosen_from test n libs ≡ None → ⊥)
    → chosen_from test n (libs ++ lib ∷ []) ≡ placed (λ k. k) (chosen_from test n libs)
found_before test n [] lib found = absurd (found refl)
found_before test n (x ∷ libs) lib found =
    let rest = λ (no : test x ≡ false). found_before test (n + 1) libs lib
    (λ e. found (rw no e)) in grind (arith, rest)

module _ (host : List ℕ) (libs : List (List ℕ)) (lib : List ℕ) where
  abbrev more : List (List ℕ)
  more = libs ++ lib ∷ []

  appended_all : first_fault host libs ≡ None → IsOpened (order_of host) lib
      → IsKept (λ k. k) host libs more
  appended_all none opened = kept host libs more (λ k. k) (λ k. k) refl (λ k. refl) none
      (none_more (is_refused host) libs lib (ap is_some opened))
      (λ name s t wanted is source. found_before (has_entry (order_of host) name) 0 libs lib
      (λ e. let bad : None ≡ Some (s.file, s.index) = rw e at source in cc))

  -- the segments with the numbers that they have
  same_numbers : (segs : List Segment) → map (renumbered (λ k. k)) segs ≡ segs
  same_numbers [] = refl
  same_numbers (s ∷ segs) = λ j. s ∷ same_numbers segs j

  pub appended_fine : first_fault host libs ≡ None → IsOpened (order_of host) lib
      → first_fault host more ≡ None
  appended_fine none opened = (appended_all none opened).fine

  pub appended_same : first_fault host libs ≡ None → IsOpened (order_of host) lib
      → segments_of host more ≡ segments_of host libs
  appended_same none opened =
      (appended_all none opened).segments ∙ same_numbers (segments_of host libs)
