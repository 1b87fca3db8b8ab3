-- The place of a unit: the first library that has an entry of its name, and the first such entry.
use Rattle.ps_laws.proofs.Vocabulary.{slice_get, option_map, slots, EntryFault, ◌≢◌, find, IsFile, Order, Request, in_slot, Fault, is_named, chosen_library, unit_source, request_fault, file_at, IsNamed, HasEntry, entry_at, ◌≡◌, ℕ, zero, suc, ◌+◌, ◌<◌, List, [], Some, sym, ap, subst, arith, unwrap_or, refl, ◌≤◌, None, option_and_then_some, library_file, EntriesHave, some_mapped, IsUnitOf, request_parts, SLOTS}
use Rattle.ps_laws.proofs.Least.{quiet, Least}
use Rattle.ps_lists.proofs.Items.{find_in, find_passes, of_range, not_apart}
use Rattle.ps_laws.proofs.Sources.{Found, IsChosen, chosen, is_chosen, named, entry_least}
use Rattle.ps_laws.proofs.OneQueue.{HasOneEntry}
use Rattle.ps_words.specs.declared.fault.Reason.TheVariants as reason

-- a unit's place: this library is at its number, and no smaller one has an entry of the name; in
-- the library this entry has the name
pub record UnitPlace (order : Order) (name : List ℕ) (libs : List (List ℕ))
    (at : ℕ × ℕ) : Type 0 where
  pub number : ℕ
  pub library : List ℕ
  pub there : slice_get libs number ≡ Some library
  pub first : (lesser : ℕ) (other : List ℕ) → lesser < number
      → slice_get libs lesser ≡ Some other → HasEntry order name other → ⊥
  pub file : at.0 ≡ number + 1
  pub within : at.1 < SLOTS
  pub named : IsNamed order name library at.1
  pub is_file : (host : List ℕ) → IsFile host libs at.0 library
  pub file_is : (host : List ℕ) → file_at host libs at.0 ≡ library

module _ (order : Order) (name : List ℕ) (libs : List (List ℕ)) where
  first_library : (p : ℕ × List ℕ) → chosen_library order name libs ≡ Some p
      → IsChosen order name libs p
  first_library p e = is_chosen order name libs p
      (subst (λ o. Least (λ a b. a.0 < b.0) (Found order name libs) o) e (chosen order name libs))

  -- the library at place k is file k + 1 of the link
  library_at : (host : List ℕ) (k : ℕ) (lib : List ℕ) → slice_get libs k ≡ Some lib
      → IsFile host libs (k + 1) lib
  library_at host k lib e = grind arith

  pub unit_place : (at : ℕ × ℕ) → unit_source order name libs ≡ Some at
      → UnitPlace order name libs at
  unit_place at e =
      option_and_then_some (λ (lib : ℕ × List ℕ). option_map {U = ℕ × ℕ} (λ (i : ℕ).
      (library_file lib.0, i)) _) _ at e (λ p chosen rest. let entry = some_mapped {Y = ℕ × ℕ}
      (λ (i : ℕ). (library_file p.0, i)) _ at rest in subst (UnitPlace order name libs)
      (sym entry.2) (made p chosen entry.0 entry.1))
    where
      made : (p : ℕ × List ℕ) → chosen_library order name libs ≡ Some p → (i : ℕ)
          → find (is_named order name p.1) slots ≡ Some i
          → UnitPlace order name libs (library_file p.0, i)
      made p chosen i found =
          let first = first_library p chosen in
          let in_slots = find_in (is_named order name p.1) slots i found in
          record {
            number = p.0;
            library = p.1;
            there = first.there;
            first = first.lesser;
            file = refl;
            within = (of_range 0 SLOTS i in_slots.0 in_slots.1).1;
            named = (named order name p.1 i).0
                (find_passes (is_named order name p.1) slots i found);
            is_file = λ host. library_at host p.0 p.1 first.there;
            file_is = λ host. ap (λ o. unwrap_or o []) (library_at host p.0 p.1 first.there);
          }

-- numbers that are not different are the same
stable : {a b : ℕ} → ((a ≡ b → ⊥) → ⊥) → a ≡ b
stable h = grind arith

-- The unit of a name in the libraries, where nothing is wrong with the entries of the name.

-- where no fault applies in the entries of a name, the first library that has one has no second one
pub one_entry : (order : Order) (libs : List (List ℕ)) (name : List ℕ) (slot : ℕ)
    → ((f : Fault) → EntryFault order name libs slot f → ⊥) → HasOneEntry order libs name
one_entry order libs name slot fine n lib there first i j h k a b =
    not_apart i j (λ l. not_two i j l k a b) (λ l. not_two j i l h b a)
  where
    not_two : (i j : ℕ) → i < j → j < SLOTS → IsNamed order name lib i
        → IsNamed order name lib j → ⊥
    not_two i j lt h a b = fine (in_slot (n + 1) slot reason.DoubledUnit)
        (n, lib, there, (((j, h, b), first), (reason.DoubledUnit, refl, (j, h, (b, (i, lt, a))))))

module _ (order : Order) (host : List ℕ) (libs : List (List ℕ)) (q : Request) where
  -- where a request has no fault, none applies to the library's entries of its name
  pub no_entry_fault : request_fault order host libs q ≡ None
      → (f : Fault) → EntryFault order q.name libs q.slot f → ⊥
  no_entry_fault fits = quiet (rw (request_parts order host libs q fits).1 at
      (entry_least order q.name libs q.slot))

  -- the unit is the only one of its name in the first library that has one
  pub unit_of : (at : ℕ × ℕ) → request_fault order host libs q ≡ None
      → unit_source order q.name libs ≡ Some at → IsUnitOf order host libs q.name at.0 at.1
  unit_of at fits e =
      record {
        library = u.library;
        file = u.is_file host;
        beside = omega (arith, u.file);
        first = none_lesser;
        within = u.within;
        entry = u.named;
        only = one;
        kind = stable (λ other. unit_else other);
      }
    where
      u : UnitPlace order q.name libs at
      u = unit_place order q.name libs at e

      fine : (f : Fault) → EntryFault order q.name libs q.slot f → ⊥
      fine = no_entry_fault fits

      none_lesser : (lesser : ℕ) (other : List ℕ) → 1 ≤ lesser → lesser < at.0
          → IsFile host libs lesser other → HasEntry order q.name other → ⊥
      none_lesser zero other low lt is has = omega (arith, low)
      none_lesser (suc k) other low lt is has = u.first k other (omega (arith, lt, u.file)) is has

      one : (j : ℕ) → j < SLOTS → IsNamed order q.name u.library j → j ≡ at.1
      one j h n = one_entry order
          libs q.name q.slot fine u.number u.library u.there u.first j at.1 h u.within n u.named

      unit_else : (entry_at order u.library at.1).kind ≢ 3 → ⊥
      unit_else other =
          let why = reason.NotAUnit (entry_at order u.library at.1).kind in
          let has : HasEntry order q.name u.library = (at.1, u.within, u.named) in
          let bad : EntriesHave order q.name u.library why =
          (at.1, u.within, (u.named, one, refl, other)) in
          fine _ (u.number, u.library, u.there, ((has, u.first), (why, refl, bad)))
