-- A link stays a link with other libraries, where each unit that it takes is found again.
use Rattle.ps_codefile.specs.declared.entry.Role.TheVariants as role
use Rattle.ps_rebuild_laws.proofs.Vocabulary.{Bool, In, List, None, Ok, Option, Reason, Role, SLOTS, Segment, Some, UnitReference, [], added_at, ap, arith, both_none, empty_slot, entry_at, enumerate_from, false, first_fault, first_of, found_added, has_own, in_file, in_segments, information_block, is_some, libraries_fault, library_reason, list_any, map, name_at, name_placed, needs_linking, option_map, option_or, order_of, own_made, queue_of, reading_fault, refl, role_of, rounds_fine, segments_of, slice_get, source_of, sources_fine, subst, sym, unit_source, ℕ, ◌+◌, ◌<◌, ◌∙◌, ◌∷◌, ◌≡◌}
use Rattle.ps_rebuild_laws.proofs.SameSearches.{AreMoved, Change, IsFound, linking_moved, renewed, rest_moved, segments_moved}

-- 1. libraries that are opened
-- none is refused, where each passes by itself
are_opened : (reason : List ℕ → Option Reason) (n : ℕ) (libs : List (List ℕ))
    → is_some (first_of (λ (lib : ℕ × List ℕ). option_map (in_file lib.0) (reason lib.1))
    (enumerate_from n libs)) ≡ list_any (λ lib. is_some (reason lib)) libs
are_opened reason n [] = refl
are_opened reason n (lib ∷ libs) = grind (arith, are_opened reason (n + 1) libs)

-- a library is refused beside this host
abbrev pub is_refused : List ℕ → List ℕ → Bool
is_refused host lib = is_some (library_reason (order_of host) lib)

-- where all of the first are opened, all of the others are
abbrev pub AllOpened : List ℕ → List (List ℕ) → List (List ℕ) → Type 0
AllOpened host libs others = list_any (is_refused host) libs ≡ false
    → list_any (is_refused host) others ≡ false

-- 2. libraries become others, in which the unit of each name of the link is found
module _ (host : List ℕ) (libs others : List (List ℕ)) (number : ℕ → ℕ)
    (same_host : number 0 ≡ 0) (block : Role → ℕ → ℕ → ℕ → ℕ) where
  abbrev pub change_of : Change
  change_of = record {
    order = order_of host;
    host = host;
    libs = libs;
    other = host;
    others = others;
    number = number;
    same_host = same_host;
    block = block;
  }

  module _ (none : first_fault host libs ≡ None) (opened : AllOpened host libs others)
      (own_block : (r : Role) (i : ℕ)
      → information_block (entry_at (order_of host) host i) (needs_linking r)
      ≡ block r 0 i (information_block (entry_at (order_of host) host i) (needs_linking r)))
      (found : (name : List ℕ) (s : Segment) → In s (segments_of host libs)
      → s.role ≡ role.Wanted → s.name ≡ name
      → unit_source (order_of host) name libs ≡ Some (s.file, s.index)
      → IsFound change_of name) where
    read : reading_fault host libs ≡ None
    unfolding first_fault
    read = (both_none (reading_fault host libs) _ none).0

    of_slots : (slot : ℕ) → slot < SLOTS
        → role_of (entry_at (order_of host) host slot) ≡ Ok role.Wanted
        → IsFound change_of (name_at host slot)
    of_slots slot inside wants =
        let order = order_of host in
        let own = has_own order host libs (sources_fine host libs read) slot inside role.Wanted
        wants (λ e. cc) in
        let t = own_made order host libs slot own.0 own.1 in
        let is : role.Wanted ≡ t.0 = grind (arith, wants, t.1) in
        found (name_at host slot) own.0 (in_segments order host libs slot own.0 inside
        (ap (λ o. option_or o (added_at order host libs slot)) own.1))
        (ap (λ s. s.role) t.3.is ∙ sym is) (ap (λ s. s.name) t.3.is)
        (ap (λ r. source_of order host libs slot r) is ∙ (t.4
        ∙ (λ j. Some ((sym t.3.is j).file, (sym t.3.is j).index))))

    of_queue : (k : ℕ) (g : UnitReference) → slice_get (queue_of (order_of host) host libs) k
        ≡ Some g → IsFound change_of g.name
    of_queue k g e =
        let order = order_of host in
        let t = name_placed order host libs (rounds_fine host libs read) k g e in
        let b = (empty_slot order host k t.0.slot t.1.slot).1 in
        subst (λ name. IsFound change_of name) t.1.name (found t.0.name t.0
        (in_segments order host libs t.0.slot t.0 (omega (arith, b))
        (found_added order host libs k t.0 t.1.there)) t.1.role refl t.1.source)

    -- no fault applies, and the segments are the same but for what the change says
    pub still_links : (first_fault host others ≡ None)
        × (segments_of host others ≡ map (renewed change_of) (segments_of host libs))
    unfolding first_fault reading_fault libraries_fault
    still_links =
        let order = order_of host in
        let moved : AreMoved change_of = record {
          roles = λ slot h. refl;
          names = λ slot h. refl;
          own = λ slot h r e o. record {
            code = refl;
            records = λ n. refl;
            behind = own_block r slot;
          };
          found = of_slots;
          fits = of_queue;
        } in
        let was = are_opened (library_reason order) 1 libs in
        let now = are_opened (library_reason order) 1 others in
        let same = segments_moved change_of moved (sources_fine host libs read)
        (rounds_fine host libs read) in
        let rest = rest_moved change_of moved in
        let linking = linking_moved change_of (segments_of host libs) in
        (grind (arith, both_none, opened), same)
