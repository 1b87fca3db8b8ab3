-- Files that are read alike link to the same bytes, or have the same first fault.
use Rattle.ps_words.specs.declared.fault.Reason.TheVariants as reason
use Rattle.ps_rebuild_laws.proofs.Vocabulary.{AreFilesAlike, AreReadAlike, AreSameSegments, Bool, Both, Fault, HaveSameEntries, IsReadAlike, List, None, Option, Order, Reason, Result, Role, Some, [], and_left, arith, both, both_none, bytes_eq, enumerate_from, false, fault_if, find, first_fault, first_of, has_entry, host_fault, if◌then◌else◌, in_file, in_slot, is_host, is_unit, libraries_fault, library_fault, linking_fault, list_any, map, name_at, neither, no_host_fault, not, option_map, option_map_or, option_or, order_of, range_with_len, reading_fault, reading_rest, refl, result_err, result_ok, rounds_fine, same_clipped, segments, segments_of, slots, slots_fault, sources_fine, sym, true, ℕ, ◌&&◌, ◌+◌, ◌∙◌, ◌∷◌, ◌≡◌}
use Rattle.ps_rebuild_laws.proofs.SameEntries.{IsSame, found_alike, same_search, unmoved}
use Rattle.ps_rebuild_laws.proofs.SameSearches.{AreMoved, Change, IsFound, linking_moved, refiled, renewed, rest_moved, same_roles, segments_moved}
use Rattle.ps_rebuild_laws.proofs.SameFile.{same_renewed}

-- 1. libraries that are read alike have the same entries of each name
same_test : (b c : Bool) (x y name : List ℕ) → b ≡ c → (b ≡ true → x ≡ y)
    → (b && bytes_eq x name) ≡ (c && bytes_eq y name)
same_test b c x y name e h = grind arith

same_entries : (order : Order) (lib other : List ℕ) → IsReadAlike order lib other
    → (name : List ℕ) → HaveSameEntries order name lib other
same_entries order lib other like name = record {
  named = λ i h. same_test _ _ _ _ name (like.filled i h) (like.names i h);
  kinds = λ i h e. like.kinds i h (and_left _ _ e);
  units = λ i h e k. like.units i h (and_left _ _ e) k;
}

-- 2. libraries that are read alike, one by one: the faults of all are the same, and for each name
-- the same one is chosen
same_libraries : (order : Order) (name : List ℕ) (n : ℕ) (libs others : List (List ℕ))
    → AreReadAlike order libs others
    → (first_of (library_fault order) (enumerate_from n others)
    ≡ first_of (library_fault order) (enumerate_from n libs)) × Both (IsSame order name)
    (find (λ (lib : ℕ × List ℕ). has_entry order name lib.1) (enumerate_from n libs))
    (find (λ (lib : ℕ × List ℕ). has_entry order name lib.1) (enumerate_from n others))
same_libraries order name n [] [] t = (refl, neither)
same_libraries order name n [] (y ∷ ys) t = absurd t
same_libraries order name n (x ∷ xs) [] t = absurd t
same_libraries order name n (x ∷ xs) (y ∷ ys) t =
    let later = same_libraries order name (n + 1) xs ys t.1 in
    let like = same_entries order x y t.0 name in (
      rw (← t.0.opened, later.0) refl,
      rw (same_search order name x y like).0 (go like (has_entry order name x) _ _ later.1),
    )
  where
    go : HaveSameEntries order name x y → (b : Bool) (o p : Option (ℕ × List ℕ))
        → Both (IsSame order name) o p → Both (IsSame order name)
        (if b then Some (n, x) else o) (if b then Some (n, y) else p)
    go like true o p later = both (n, x) (n, y) (refl, like)
    go like false o p later = later

or_same : {A : Type 0} (a b x y : Option A) → b ≡ a → (a ≡ None → y ≡ x)
    → option_or b y ≡ option_or a x
or_same a b x y e h = grind arith

module _ (host other : List ℕ) (libs others : List (List ℕ))
    (alike : AreFilesAlike host other libs others) where
  abbrev order : Order
  order = order_of host

  -- 3. all is the same but the blocks of link information
  abbrev change : Change
  change = unmoved host other libs others

  found : (name : List ℕ) → IsFound change name
  found name = found_alike host other libs others name
      (same_libraries order name 0 libs others alike.libraries).1

  all : AreMoved change
  all = record {
    roles = alike.roles;
    names = alike.heads.names;
    own = λ slot inside r e own. record {
      code = alike.codes slot inside r e own;
      records = alike.records slot inside r e own;
      behind = refl;
    };
    found = λ slot inside e. found (name_at host slot);
    fits = λ k g e. found g.name;
  }

  same_faults : (o : Option Fault) → refiled change o ≡ o
  same_faults None = refl
  same_faults (Some f) = refl

  -- 4. the faults of the slots
  abbrev is_of : (Role → Bool) → Result Role Reason → Bool
  is_of test r = option_map_or test (result_ok r) false

  same_slots : slots_fault order other ≡ slots_fault order host
  unfolding slots_fault
  same_slots = λ j. by (same_roles change all j) (same_clipped [] (name_at other) (name_at host)
      (λ slot inside. sym (alike.heads.names slot inside)) j)
    where
      by : (ℕ → Result Role Reason) → (ℕ → List ℕ) → Option Fault
      by roles names = first_of (λ slot. option_map (in_slot 0 slot)
          (option_or (result_err (roles slot)) (option_or (fault_if (is_of is_host (roles slot)
          && list_any (λ s. is_of is_host (roles s)) (range_with_len 0 slot)) reason.TwoHosts)
          (fault_if (is_of is_unit (roles slot) && list_any (λ s. is_of is_unit (roles s)
          && bytes_eq (names s) (names slot)) (range_with_len 0 slot)) reason.DoubledSegment))))
          slots

  same_no_host : no_host_fault order other ≡ no_host_fault order host
  unfolding no_host_fault
  same_no_host = λ j. fault_if (not (list_any (λ slot. is_of is_host
      (same_roles change all j slot)) slots)) (in_file 0 reason.NoHost)

  -- 5. so the first fault of all is the same, and the segments but for these blocks
  segs : reading_fault host libs ≡ None
      → segments order other others ≡ map (renewed change) (segments order host libs)
  segs none = segments_moved change all (sources_fine host libs none) (rounds_fine host libs none)

  reading : option_or (host_fault other) (option_or (slots_fault order other)
      (option_or (no_host_fault order other) (option_or (libraries_fault order others)
      (reading_rest order other others)))) ≡ reading_fault host libs
  unfolding reading_fault libraries_fault
  reading = let none = (same_libraries order [] 1 libs others alike.libraries).0 in
      let rest = rest_moved change all ∙ same_faults (reading_rest order host libs) in
      rw (← alike.opened, same_slots, same_no_host, none, rest) refl

  pub first_same : first_fault other others ≡ first_fault host libs
  unfolding first_fault reading_fault
  first_same = rw (← alike.heads.order) (or_same _ _ _ _ reading (λ none.
      rw (segs none, linking_moved change (segments order host libs))
      (same_faults (linking_fault order (segments order host libs)))))

  pub segments_same : first_fault host libs ≡ None
      → AreSameSegments (segments_of host libs) (segments_of other others)
  unfolding first_fault
  segments_same none = rw (← alike.heads.order) (same_renewed change (segments order host libs)
      (segments order other others) (segs (both_none (reading_fault host libs) _ none).0))
