-- The words and the tables of a code, procedure by procedure.
use Rattle.std.proofs.Common.{◌≡◌, ℕ, suc, ◌-◌, ◌+◌, ◌*◌, ◌<◌, ◌≤◌, ◌==◌, ◌||◌, List, [], ◌∷◌, Bool, false, Option, get_or, length, refl, sym, ◌∙◌, ap, arith}
use Rattle.std.specs.List.{list_any, filter_map, range_with_len}
use Rattle.std.proofs.lemmas.List.FromFn.{get_or-map-range_with_len, length-map-range_with_len}
use Rattle.std.proofs.lemmas.Bool.Decides.{nat_tests}
use Rattle.ps_words.specs.declared.order.Order.{Order}
use Rattle.ps_codefile.specs.Procedures.{content_of, is_placed, numbers, procedures, table_of, tables}
use Rattle.ps_codefile.specs.Places.{HasTables, HasWords, IsWhole, passes}
use Rattle.ps_codefile.proofs.Alls.{all_at}

-- the table of some number passes a test just where one of the tables of all numbers does
any_of : (test : ℕ → Bool) (f : ℕ → Option ℕ) (ns : List ℕ)
    → list_any (λ n. passes test (f n)) ns ≡ list_any test (filter_map f ns)
any_of test f [] = refl
any_of test f (n ∷ ns) = grind (arith, any_of test f ns)

-- the table of some procedure passes a test just where one of all tables does
pub any_table : (test : ℕ → Bool) (order : Order) (code : List ℕ)
    → list_any (λ p. passes test (table_of order code p)) (numbers code)
    ≡ list_any test (tables order code)
any_table test order code = any_of test (table_of order code) (numbers code)

-- there is a word for each procedure
pub count : (order : Order) (code words : List ℕ) → HasWords order code words
    → length words ≡ procedures code
count order code words has = grind (arith, length-map-range_with_len)

-- the word of procedure p is the content of its word in the code
pub word_at : (order : Order) (code words : List ℕ) (p d : ℕ) → HasWords order code words
    → 1 ≤ p → p ≤ procedures code → get_or words (p - 1) d ≡ content_of order code p
word_at order code words p d has low high = grind (arith, get_or-map-range_with_len)

-- the table of procedure p lies in the code
pub whole_table : (order : Order) (code : List ℕ) (p : ℕ) → HasTables order code → 1 ≤ p
    → p ≤ procedures code → (content_of order code p == 0) ≡ false
    → IsWhole code (length code - 2 - 2 * p - content_of order code p)
whole_table order code p has low high some =
    let placed = all_at (is_placed order code) (procedures code) has.placed p low high in
    record {
      low = grind (arith, nat_tests, placed, some);
      high =
          grind (arith, nat_tests, placed, some);
    }

-- the content of a procedure's word is not more than the word's place
pub below_table : (order : Order) (code : List ℕ) (p : ℕ) → HasTables order code → 1 ≤ p
    → p ≤ procedures code → (content_of order code p == 0) ≡ false
    → content_of order code p ≤ length code - 2 - 2 * p
below_table order code p has low high some = let table = whole_table order code p has low high some
    in omega (arith, table.low)

-- whose word is in this list
pub whole_at : (order : Order) (code words : List ℕ) (p d : ℕ) → HasWords order code words
    → 1 ≤ p → p ≤ procedures code → (get_or words (p - 1) d == 0) ≡ false
    → IsWhole code (length code - 2 - 2 * p - get_or words (p - 1) d)
whole_at order code words p d has low high some =
    rw (word_at order code words p d has low high)
    (whole_table order code p has.tables low high
    (sym (ap (λ (w : ℕ). w == 0) (word_at order code words p d has low high)) ∙ some))

-- the content of a word of these is not more than the word's place
pub below_at : (order : Order) (code words : List ℕ) (p d : ℕ) → HasWords order code words
    → 1 ≤ p → p ≤ procedures code → (get_or words (p - 1) d == 0) ≡ false
    → get_or words (p - 1) d ≤ length code - 2 - 2 * p
below_at order code words p d has low high some = let table =
    whole_at order code words p d has low high some in omega (arith, table.low)

-- a number from p on passes a test just where p does or one after it
pub any_from : (test : ℕ → Bool) (p e : ℕ) → p < e
    → list_any test (range_with_len p (e - p))
    ≡ (test p || list_any test (range_with_len (p + 1) (e - (p + 1))))
any_from test p e lt = let more : e - p ≡ suc (e - (p + 1)) = omega (arith, lt) in rw more refl
