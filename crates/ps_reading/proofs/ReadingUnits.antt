-- Why the library's first entry of a name is not taken.
use Rattle.ps_reading.proofs.Vocabulary.{◌≡◌, ◌≢◌, ◌&&◌, ℕ, List, Bool, true, false, Some, None, inl, inr, arith, cases_Bool, cases_eq, nat_tests, list_any, find, range_with_len, Order, slots, entry_at, is_named, entries_reason}
use Rattle.ps_words.specs.declared.fault.Reason.TheVariants as reason

-- some entry of the name has another of the name below it
abbrev pub is_duplicate : Order → List ℕ → List ℕ → Bool
is_duplicate order name lib =
    list_any (λ i. is_named order name lib i
    && list_any (is_named order name lib) (range_with_len 0 i)) slots

of_duplicate : (order : Order) (name lib : List ℕ) → is_duplicate order name lib ≡ true
    → entries_reason order name lib ≡ Some reason.DoubledUnit
of_duplicate order name lib d = grind arith

pub of_kind : (order : Order) (name lib : List ℕ) (i : ℕ)
    → is_duplicate order name lib ≡ false → find (is_named order name lib) slots ≡ Some i
    → (entry_at order lib i).kind ≢ 3
    → entries_reason order name lib ≡ Some (reason.NotAUnit (entry_at order lib i).kind)
of_kind order name lib i d first other = grind (arith, nat_tests)

pub of_unit : (order : Order) (name lib : List ℕ) (i : ℕ)
    → is_duplicate order name lib ≡ false → find (is_named order name lib) slots ≡ Some i
    → (entry_at order lib i).kind ≡ 3 → entries_reason order name lib ≡ None
of_unit order name lib i d first unit = grind (arith, nat_tests)

-- where there is no reason the kind of the first entry of a name is that of a unit
pub kind_is : (order : Order) (name lib : List ℕ) (i : ℕ)
    → entries_reason order name lib ≡ None → find (is_named order name lib) slots ≡ Some i
    → (entry_at order lib i).kind ≡ 3
kind_is order name lib i h first = elim (cases_Bool (is_duplicate order name lib)) [
  | inl d ↦ let e = of_duplicate order name lib d in cc
  | inr d ↦ elim (cases_eq (entry_at order lib i).kind 3)
      [ inl unit ↦ unit | inr other ↦ let e = of_kind order name lib i d first other in cc ]
]
