-- Libraries that have the same entries of a name: what is looked up in them is the same.
use Rattle.ps_words.specs.declared.fault.Reason.TheVariants as reason
use Rattle.ps_rebuild_laws.proofs.Vocabulary.{Both, HasSameCode, HasSameRecords, HaveSameEntries, List, None, Option, Order, Reason, SLOTS, Some, ap, both, chosen_file, chosen_library, clipped, entries_reason, entry_at, false, fault_if, file_at, find, find_in, find_passes, has_entry, if◌then◌else◌, in_slots, information_block, is_named, kind_is, library_file, list_any, needs_linking, neither, not, option_and_then, order_of, range_with_len, refl, same_clipped, slots, sym, true, ℕ, ◌&&◌, ◌<◌, ◌==◌, ◌∙◌, ◌≡◌}
use Rattle.ps_rebuild_laws.proofs.SameSearches.{AreChosenAlike, Change, IsFound}

-- 1. what is looked up in their entries
module _ (order : Order) (name file other : List ℕ) (like : HaveSameEntries order name file other)
  where
    named : clipped false (is_named order name other) ≡ clipped false (is_named order name file)
    named = same_clipped false _ _ (λ i h. sym (like.named i h))

    pub same_search : (has_entry order name other ≡ has_entry order name file)
        × (find (is_named order name other) slots ≡ find (is_named order name file) slots)
    same_search = (λ j. list_any (named j) slots, λ j. find (named j) slots)

    -- an entry that is found has the name
    named_at : (i : ℕ) → find (is_named order name file) slots ≡ Some i
        → (i < SLOTS) × (is_named order name file i ≡ true)
    named_at i e = (
      in_slots i (find_in (is_named order name file) slots i e),
      find_passes (is_named order name file) slots i e,
    )

    pub same_reasons : entries_reason order name other ≡ entries_reason order name file
    same_reasons = λ j. if list_any (λ i. named j i
        && list_any (named j) (range_with_len 0 i)) slots
        then Some reason.DoubledUnit else ((λ j. kind_in other (same_search.1 j))
        ∙ go (find (is_named order name file) slots) refl) j
      where
        kind_in : List ℕ → Option ℕ → Option Reason
        kind_in lib o = option_and_then (λ i. let kind = (entry_at order lib i).kind in
            fault_if (not (kind == 3)) (reason.NotAUnit kind)) o

        go : (o : Option ℕ) → find (is_named order name file) slots ≡ o
            → kind_in other o ≡ kind_in file o
        go None e = refl
        go (Some i) e = let at = named_at i e in
            ap (λ kind. fault_if (not (kind == 3)) (reason.NotAUnit kind))
            (sym (like.kinds i at.0 at.1))

    pub same_unit : (i : ℕ) → find (is_named order name file) slots ≡ Some i
        → entries_reason order name file ≡ None
        → HasSameCode order file other i × HasSameRecords order file other i
    same_unit i e fine = let at = named_at i e in
        like.units i at.0 at.1 (kind_is order name file i fine e)

-- 2. the library that is chosen for a name
abbrev pub IsSame : Order → List ℕ → ℕ × List ℕ → ℕ × List ℕ → Type 0
IsSame order name a b = (b.0 ≡ a.0) × HaveSameEntries order name a.1 b.1

module _ (host other : List ℕ) (libs others : List (List ℕ)) where
  -- all is the same but the blocks of link information
  abbrev pub unmoved : Change
  unmoved = record {
    order = order_of host;
    host = host;
    libs = libs;
    other = other;
    others = others;
    number = λ k. k;
    same_host = refl;
    block = λ r k i b. information_block (entry_at (order_of host) (file_at other others k) i)
        (needs_linking r);
  }

  pub found_alike : (name : List ℕ) → Both (IsSame (order_of host) name)
      (chosen_library (order_of host) name libs) (chosen_library (order_of host) name others)
      → IsFound unmoved name
  found_alike name t = go (chosen_library (order_of host) name libs)
      (chosen_library (order_of host) name others) refl t
    where
      go : (o p : Option (ℕ × List ℕ)) → chosen_library (order_of host) name others ≡ p
          → Both (IsSame (order_of host) name) o p → Both (AreChosenAlike unmoved name) o p
      go o p e neither = neither
      go o p e (both a b t) = both a b (record {
        file = λ j. library_file (t.0 j);
        index = (same_search (order_of host) name a.1 b.1 t.1).1;
        reasons = same_reasons (order_of host) name a.1 b.1 t.1;
        source = λ i at fine.
            let same = same_unit (order_of host) name a.1 b.1 t.1 i at fine in record {
              code = same.0;
              records = λ n. same.1;
              behind = rw (
                ← t.0,
                chosen_file (order_of host) name others b.0 b.1 other e,
              ) refl;
            };
      })
