-- One reference more.
use Rattle.ps_resolve.proofs.Vocabulary.{drop_more, ◌≡◌, ℕ, suc, ◌+◌, ◌<◌, ◌≤◌, ◌||◌, ◌++◌, List, [], ◌∷◌, length, map, take, drop, get_or, Bool, true, false, Some, None, append_assoc, arith, nat_lt, IsPermutation, list_any, range_with_len, map-append, take_more, list_any-append, is_reserved, ProcedureTables, reason_in, AreTaken, place_of, width, covers, Edit, IsTableOf, edits_of, is_taken_at, put_in, PlaceState, edit_of, is_in, operands, width_of, value_of, refs_fault, reference_reason, fault_if, Target}
use Rattle.ps_words.specs.declared.fault.Reason.TheVariants as reason
use Rattle.ps_resolve.proofs.EditTables.{table_more, put_more, put_taken, free_idle}
use Rattle.ps_resolve.specs.declared.edit_table.PlaceState.TheVariants.{Free, Taken}
use Rattle.ps_words.specs.declared.words.TheConstants.{MAX_OPERAND}

pub map_one : {X : Type 0} (f : ℕ → X) (xs : List ℕ) (i : ℕ) → i < length xs
    → map f (take (i + 1) xs) ≡ map f (take i xs) ++ f (get_or xs i 0) ∷ []
map_one f xs i h = rw (take_more xs i 0 h) (map-append f (take i xs) (get_or xs i 0 ∷ []))

pub operands_one : (t : Target) (os : List (ℕ × ℕ)) (xs : List ℕ) (i : ℕ) → i < length xs
    → os ++ operands t (take (i + 1) xs)
    ≡ (os ++ operands t (take i xs)) ++ (get_or xs i 0, width_of t) ∷ []
operands_one t os xs i h = grind (arith, map_one, append_assoc)

-- a reference without a fault is passed over
pub fault_one : (R : ℕ → Bool) (code : List ℕ) (t : Target) (os : List (ℕ × ℕ))
    (xs : List ℕ) (i : ℕ) → i < length xs
    → reference_reason R code (os ++ operands t (take i xs)) t (get_or xs i 0) ≡ None
    → refs_fault R code t i (os ++ operands t (take i xs)) (drop i xs)
    ≡ refs_fault R code t (i + 1) (os ++ operands t (take (i + 1) xs)) (drop (i + 1) xs)
fault_one R code t os xs i h none = grind (arith, operands_one, drop_more xs i 0 h)

-- whether one of four tests holds does not depend on which two of them are taken together
or_over : (a b c d : Bool) → ((a || b) || ((c || d) || false))
    ≡ ((a || (c || false)) || (b || (d || false)))
or_over a b c d = grind arith

-- a test that no place of an operand passes fails at each of them
pub none_at : (t : Target) (x : ℕ) (q : ℕ → Bool)
    → list_any q (range_with_len x (width_of t)) ≡ false → (p : ℕ)
    → is_in p (x, width_of t) ≡ true → q p ≡ false
none_at t x q h p k = grind arith

-- an edit covers what its operand has
pub same_places : (code : List ℕ) (t : Target) (p x : ℕ)
    → covers p (edit_of code t x) ≡ is_in p (x, width_of t)
same_places code t p x = grind arith

-- the operand lies in a table of the places of the code
pub fits : (code : List ℕ) (t : Target) (x : ℕ) (ts : List PlaceState)
    → length ts ≡ length code → x + width_of t ≤ length code
    → place_of (edit_of code t x) + width (edit_of code t x) ≤ length ts
fits code t x ts len within = grind arith

-- the edit of an operand of which no place is taken, put in
pub operand_put : (code : List ℕ) (t : Target) (x : ℕ) (ts : List PlaceState) (es : List Edit)
    → length ts ≡ length code → x + width_of t ≤ length code
    → list_any (is_taken_at ts) (range_with_len x (width_of t)) ≡ false
    → IsPermutation es (edits_of ts) → IsPermutation (es ++ edit_of code t x ∷ [])
    (edits_of (put_in ts (edit_of code t x)))
operand_put code t x ts es len within free same =
    grind (arith, put_more, free_idle, none_at, same_places)

-- the table is one with it
pub operand_table : (code : List ℕ) (t : Target) (x : ℕ) (ts : List PlaceState)
    → IsTableOf code ts → x + width_of t ≤ length code
    → list_any (is_taken_at ts) (range_with_len x (width_of t)) ≡ false
    → IsTableOf code (put_in ts (edit_of code t x))
operand_table code t x ts table within free =
    table_more code ts (edit_of code t x) table
    (λ p wide next. beside p (table.spaced p wide) next) (fits code t x ts table.len within)
  where
    first : is_taken_at ts (place_of (edit_of code t x)) ≡ false
    first = grind arith

    beside : (p : ℕ) → get_or ts (suc p) Free ≡ Taken
        → suc p ≡ place_of (edit_of code t x) → ⊥
    beside p taken next = grind arith

-- one operand more
pub taken_more : (tables : ProcedureTables) (ts : List PlaceState) (t : Target) (x : ℕ)
    (os : List (ℕ × ℕ)) → length ts ≡ length tables.code
    → x + width_of t ≤ length tables.code → AreTaken tables ts os
    → AreTaken tables (put_in ts (edit_of tables.code t x)) (os ++ (x, width_of t) ∷ [])
taken_more tables ts t x os len within taken p lt =
    grind (arith, put_taken, fits, list_any-append, same_places)

module _ (tables : ProcedureTables) (ts : List PlaceState) (os : List (ℕ × ℕ)) (t : Target)
    (x : ℕ) (taken : AreTaken tables ts os) (within : x + width_of t ≤ length tables.code) where
  abbrev places : List ℕ
  places = range_with_len x (width_of t)

  abbrev Reserved : ℕ → Bool
  Reserved = is_reserved tables.order tables.code

  abbrev Covered : ℕ → Bool
  Covered p = list_any (is_in p) os

  -- a place of the operand is taken where one is reserved or in an operand before
  any_taken : list_any (is_taken_at ts) places
      ≡ (list_any Reserved places || list_any Covered places)
  any_taken = grind (arith, or_over)

  inside : nat_lt (length tables.code) (x + width_of t) ≡ false
  inside = grind arith

  -- an operand of which a place is taken, and none is reserved
  pub overlaps : list_any (is_taken_at ts) places ≡ true → list_any Reserved places ≡ false
      → reason_in tables os t x ≡ Some reason.Overlap
  overlaps some none = grind (arith, any_taken)

  -- an operand of which no place is taken
  pub stands_free : list_any (is_taken_at ts) places ≡ false
      → reason_in tables os t x ≡ fault_if
      (nat_lt MAX_OPERAND (value_of tables.code t x)) reason.OperandTooLarge
  stands_free none = grind (arith, any_taken, inside)
