-- What follows for a segment of a link from its file: its records end once, and in its code the
-- number and the data size lie apart, at reserved places.
use Rattle.ps_laws.proofs.Vocabulary.{table_of, is_reserved, needs_linking, IsOfFile, Segment, Order, ◌==◌, ◌&&◌, ◌||◌, or_parts, ◌≡◌, ℕ, ◌+◌, ◌<◌, ◌≤◌, List, length, Some, None, Bool, true, false, arith, eqb-false, procedures, dictionary_start, content_of, tables_fault, EndsOnce}
use Rattle.ps_codefile.specs.Places.{HasTables}
use Rattle.ps_codefile.proofs.Tables.{whole_table}
use Rattle.ps_linkinfo.proofs.Stands.{reading_is}

-- the records of a linked one end in the only EOFMARK
pub ends_once : (order : Order) (host : List ℕ) (libs : List (List ℕ)) (s : Segment)
    → IsOfFile order host libs s → needs_linking s.role ≡ true → EndsOnce s.records
ends_once order host libs s h linked = grind (arith, reading_is)

module _ (order : Order) (code : List ℕ) (host : Bool) where
  has_tables : tables_fault order code host ≡ None → HasTables order code
      × ((host && (procedures code == 0 || content_of order code 1 == 0)) ≡ false)
  has_tables h = grind arith

  -- the bounds of a code whose tables have no fault
  pub long : tables_fault order code host ≡ None → 2 ≤ length code
  long h = let fits = (has_tables h).0.fits in omega (arith, fits)

pub record HasOuter (order : Order) (code : List ℕ) (t : ℕ) : Type 0 where
  pub procedure : 1 ≤ procedures code
  pub low : 8 ≤ t
  pub high : t + 1 < dictionary_start code

module _ (order : Order) (code : List ℕ) where
  -- where the tables of a host have no fault, that of its outer block is whole before the procedure
  -- dictionary
  pub outer : (t : ℕ) (host : Bool) → host ≡ true → tables_fault order code host ≡ None
      → table_of order code 1 ≡ Some t → HasOuter order code t
  outer t host is h e = grind (arith, has_tables, or_parts, eqb-false, whole_table)

  -- the last place but one of a code is reserved
  pub number_reserved : (p : ℕ) → p + 2 ≡ length code → is_reserved order code p ≡ true
  number_reserved p h = grind arith

  -- the two places of the data size of the outer block are reserved
  pub size_reserved : (t j p : ℕ) → HasOuter order code t → table_of order code 1 ≡ Some t
      → j < 2 → p + 8 ≡ t + j → is_reserved order code p ≡ true
  size_reserved t j p o e h k = grind arith

  -- the place of the data size and that of the number are apart
  pub own_apart : (t j p : ℕ)
      → HasOuter order code t → j < 2 → p + 8 ≡ t + j → p + 2 ≡ length code → ⊥
  own_apart t j p o h k n = grind arith
