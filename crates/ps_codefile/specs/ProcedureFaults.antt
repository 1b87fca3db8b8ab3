-- What is wrong with the procedure tables of a code, and of which procedure.
-- Source: UCSD Pascal II.0 manual, code file format; which fault is first is this project's
-- profile.
use Rattle.std.specs.Prelude.{◌≡◌, ℕ, ◌<◌, ◌≤◌, ◌==◌, ◌&&◌, ◌||◌, not, List, length, slice_index, Bool, true, false}
use Rattle.ps_words.specs.declared.order.Order.{Order}
use Rattle.ps_words.specs.declared.fault.Reason.{Reason}
use Rattle.ps_words.specs.declared.fault.Reason.TheVariants as reason
use Rattle.ps_codefile.specs.Places.{HasTables, passes}
use Rattle.ps_codefile.specs.Procedures.{content_of, dictionary_len, is_placed, procedures, table_of}
use Rattle.ps_codefile.specs.declared.procedure_fault.ProcedureFault.{ProcedureFault}
use Rattle.ps_codefile.specs.declared.procedure_fault.ProcedureFault.TheVariants.{LongDictionary, Outside, NoOuterBlock, Native}

-- the reason with which a code is refused that has this fault
abbrev pub reason_of : ProcedureFault → Reason
reason_of (LongDictionary bytes) = reason.BadProcDict
reason_of (Outside procedure) = reason.BadProcDict
reason_of NoOuterBlock = reason.BadProcDict
reason_of (Native procedure) = reason.NativeProcedure

-- p is the first procedure of the code that passes the test
pub record IsFirstProcedure (code : List ℕ) (test : ℕ → Bool) (p : ℕ) : Type 0 where
  pub low : 1 ≤ p
  pub high : p ≤ procedures code
  pub found : test p ≡ true
  pub first : (q : ℕ) → 1 ≤ q → q < p → test q ≡ false

-- the table of procedure p, if it has one, is not in the code before the procedure dictionary
abbrev pub is_outside : Order → List ℕ → ℕ → Bool
is_outside order code p = not (is_placed order code p)

-- procedure p has a table, with the procedure number 0
abbrev pub is_native : Order → List ℕ → ℕ → Bool
is_native order code p = passes (λ t. slice_index code t == 0) (table_of order code p)

-- procedure 1 has no table
abbrev pub lacks_outer_block : Order → List ℕ → Bool
lacks_outer_block order code = procedures code == 0 || content_of order code 1 == 0

-- The fault is the first of a code, the host segment's or another's: the dictionary is longer than
-- the code; a table is outside; the host's outer block has no body; a procedure is native.
abbrev pub IsProcedureFault : Order → List ℕ → Bool → ProcedureFault → Type 0
IsProcedureFault order code host (LongDictionary bytes) =
    (bytes ≡ dictionary_len code) × (length code < bytes)
IsProcedureFault order code host (Outside p) =
    (dictionary_len code ≤ length code) × IsFirstProcedure code (is_outside order code) p
IsProcedureFault order code host NoOuterBlock =
    HasTables order code × (host ≡ true) × (lacks_outer_block order code ≡ true)
IsProcedureFault order code host (Native p) =
    HasTables order code × ((host && lacks_outer_block order code) ≡ false)
    × IsFirstProcedure code (is_native order code) p
