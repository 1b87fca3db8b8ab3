-- The first fault of the procedure tables of a code, and the reason with which they are refused.
use Rattle.std.proofs.Common.{◌≡◌, ℕ, ◌+◌, ◌-◌, ◌<◌, ◌≤◌, ◌&&◌, not, List, Bool, true, false, length, Ok, Err, refl, sym, ◌∙◌, arith}
use Rattle.std.specs.List.{list_all, list_any}
use Rattle.std.specs.Prelude.{slice_index, ◌==◌}
use Rattle.std.proofs.lemmas.Bool.Decides.{nat_tests}
use Rattle.ps_words.specs.declared.order.Order.{Order}
use Rattle.ps_words.specs.declared.fault.Reason.TheVariants as reason
use Rattle.ps_codefile.specs.Places.{HasTables}
use Rattle.ps_codefile.specs.ProcedureFaults.{IsFirstProcedure, is_native, is_outside, lacks_outer_block}
use Rattle.ps_codefile.specs.Procedures.{dictionary_len, is_placed, numbers, procedures, read_tables, tables}
use Rattle.ps_codefile.proofs.Alls.{all_from, none_from, not_all, some_at}
use Rattle.ps_codefile.proofs.Tables.{any_table}

not_false : (b : Bool) → not b ≡ false → b ≡ true
not_false true h = refl
not_false false h = cc

not_true : (b : Bool) → not b ≡ true → b ≡ false
not_true true h = cc
not_true false h = refl

-- where none of the procedures from 1 on is outside, the code has its tables
pub none_outside : (order : Order) (code : List ℕ) → dictionary_len code ≤ length code
    → ((q : ℕ) → 1 ≤ q → q < procedures code + 1 → is_outside order code q ≡ false)
    → HasTables order code
none_outside order code fits none = grind (arith, all_from, not_false)

-- where none of them passes a test, no procedure does
pub none_passes : (code : List ℕ) (test : ℕ → Bool)
    → ((q : ℕ) → 1 ≤ q → q < procedures code + 1 → test q ≡ false)
    → list_any test (numbers code) ≡ false
none_passes code test none = grind (arith, none_from)

-- the first that passes passes
first_passes : (code : List ℕ) (test : ℕ → Bool) (p : ℕ) → IsFirstProcedure code test p
    → list_any test (numbers code) ≡ true
first_passes code test p first =
    let low = first.low in
    let high = first.high in
    some_at test 1 (procedures code) (p - 1) p (omega (arith, low, high))
    (omega (arith, low)) first.found

-- a table that is outside
pub refused_outside : (order : Order) (code : List ℕ) (host : Bool) (p : ℕ)
    → dictionary_len code ≤ length code
    → IsFirstProcedure code (is_outside order code) p
    → read_tables order code host ≡ Err reason.BadProcDict
refused_outside order code host p fits first =
    let low = first.low in
    let high = first.high in
    let some : list_all (is_placed order code) (numbers code) ≡ false =
    not_all (is_placed order code) 1 (procedures code) (p - 1) p (omega (arith, low, high))
    (omega (arith, low)) (not_true (is_placed order code p) first.found) in
    grind (arith, nat_tests, some, fits)

-- a native procedure, where nothing comes before it
pub refused_native : (order : Order) (code : List ℕ) (host : Bool) (p : ℕ)
    → HasTables order code → (host && lacks_outer_block order code) ≡ false
    → IsFirstProcedure code (is_native order code) p
    → read_tables order code host ≡ Err reason.NativeProcedure
refused_native order code host p has whole first =
    let native : list_any (λ t. slice_index code t == 0) (tables order code) ≡ true =
    sym (any_table (λ t. slice_index code t == 0) order code)
    ∙ first_passes code (is_native order code) p first in
    let fits = has.fits in
    let placed = has.placed in
    grind (arith, nat_tests, native, whole, fits, placed)

-- no fault
pub read_whole : (order : Order) (code : List ℕ) (host : Bool) → HasTables order code
    → (host && lacks_outer_block order code) ≡ false
    → list_any (is_native order code) (numbers code) ≡ false
    → read_tables order code host ≡ Ok (record { order = order; code = code })
read_whole order code host has whole none = grind (arith, any_table, nat_tests)
