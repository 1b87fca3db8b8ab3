-- The edits of a segment that are no reference's: they cover reserved places, each once, and so are
-- beside those of the references.
use Rattle.ps_resolve.proofs.Vocabulary.{rules, ◌≡◌, ℕ, suc, ◌+◌, ◌-◌, ◌<◌, ◌≤◌, ◌++◌, ◌&&◌, List, [], ◌∷◌, length, Bool, true, Option, None, get_or, sym, subst, arith, IsPermutation, All, IfSome, nat_le, nat_lt, option_to_list, get_or-set_other, get_or_past, All-nil, All-append, covers, place_of, width, IsInside, Order, Edit, Byte, is_reserved, ProcedureTables, IsOfTable, data_size_edit, Record, Known, records_edits, records_fault, IsTableOf, edits_of, first_state, is_wide, put_in, AreTaken, PlaceState}
use Rattle.ps_resolve.specs.declared.edit_table.PlaceState.TheVariants.{Free}
use Rattle.ps_resolve.proofs.EditTables.{IsIdle, idle_narrow, table_more, put_more, put_taken, none_listed}
use Rattle.ps_resolve.proofs.EditsInside.{records_inside}

-- the place of a segment's number is one of the procedure dictionary's
number_reserved : (order : Order) (code : List ℕ) → 4 ≤ length code
    → is_reserved order code (length code - 2) ≡ true
number_reserved order code h = grind arith

module _ (order : Order) (known : Known) (code : List ℕ) (rs : List Record) (off slot : ℕ)
    (table : Option Edit) (h : 4 ≤ length code) (d : IfSome table (IsOfTable order code))
    (none : records_fault known (is_reserved order code) code 0 off [] rs ≡ None) where
  -- all edits of a segment lie in the code
  pub edits_inside : All (IsInside (length code))
      (Byte slot (length code - 2) ∷ (option_to_list table ++ records_edits known code off rs))
  edits_inside = grind (arith, All-append, All-nil, records_inside)

-- the edit of the data size suits the host's segment
pub own_of_table : (order : Order) (code : List ℕ) (b : Bool) (size : Edit)
    → (b ≡ true → IsOfTable order code size)
    → IfSome (data_size_edit b size) (IsOfTable order code)
own_of_table order code b size h = grind arith

-- A table of the places of a code has these edits, each at reserved places, and no place more is
-- taken.
pub record IsOwnTable (tables : ProcedureTables) (edits : List Edit) (ts : List PlaceState) : Type 0
  where
    pub table : IsTableOf tables.code ts
    pub taken : AreTaken tables ts []
    pub same : IsPermutation edits (edits_of ts)

-- one edit of reserved places more
own_more : (tables : ProcedureTables) (es : List Edit) (ts : List PlaceState) (e : Edit)
    → IsOwnTable tables es ts → place_of e + width e ≤ length tables.code
    → ((p : ℕ) → covers p e ≡ true → is_reserved tables.order tables.code p ≡ true)
    → ((p : ℕ) → covers p e ≡ true → IsIdle (get_or ts p Free))
    → ((p : ℕ) → is_wide (get_or ts p Free) ≡ true → suc p ≡ place_of e → ⊥)
    → IsOwnTable tables (es ++ e ∷ []) (put_in ts e)
own_more tables es ts e own le reserved idle beside =
    search (rules, table_more, put_taken, put_more)

module _ (tables : ProcedureTables) (ts : List PlaceState) (slot : ℕ)
    (large : 4 ≤ length tables.code) (len : length ts ≡ length tables.code)
    (first : (p : ℕ) → p < length tables.code
    → get_or ts p Free ≡ first_state (is_reserved tables.order tables.code p)) where
  abbrev number : Edit
  number = Byte slot (length tables.code - 2)

  idle : (p : ℕ) → IsIdle (get_or ts p Free)
  idle p = grind (arith, IsIdle, get_or_past)

  narrow : (p : ℕ) → is_wide (get_or ts p Free) ≡ true → ⊥
  narrow p wide = grind (arith, idle_narrow, idle)

  no_edits : IsOwnTable tables [] ts
  no_edits = grind (arith, narrow, none_listed, idle)

  at_number : (p : ℕ) → covers p number ≡ true → p ≡ length tables.code - 2
  at_number p covered = grind arith

  -- the table of the number of the segment
  pub number_table : IsOwnTable tables (number ∷ []) (put_in ts number)
  number_table = own_more tables [] ts number no_edits (omega arith)
      (λ p covered. subst (λ (n : ℕ). is_reserved tables.order tables.code n ≡ true)
      (sym (at_number p covered)) (number_reserved tables.order tables.code large))
      (λ p covered. idle p) (λ p wide next. narrow p wide)

  -- the table of that and an edit of the procedure tables
  pub size_table : (size : Edit) → IsOfTable tables.order tables.code size
      → IsOwnTable tables (number ∷ size ∷ []) (put_in (put_in ts number) size)
  size_table size of_table = own_more tables (number ∷ []) (put_in ts number) size number_table
      (omega (arith, of_table.before)) of_table.reserved
      (λ p covered. let low : p < length tables.code - 2 =
      below (place_of size) (width size) p of_table.before covered in
      subst IsIdle (sym (kept p low)) (idle p))
      (λ p wide next. narrow p (subst (λ (s : PlaceState). is_wide s ≡ true)
      (kept p (omega (arith, of_table.before, next))) wide))
    where
      below : (x w p : ℕ) → x + w ≤ length tables.code - 2
          → (nat_le x p && nat_lt p (x + w)) ≡ true → p < length tables.code - 2
      below x w p le covered = grind arith

      kept : (p : ℕ) → p < length tables.code - 2
          → get_or (put_in ts number) p Free ≡ get_or ts p Free
      kept p low = grind (arith, get_or-set_other)
