-- How often a writer was called, and how its counts rise.
use Rattle.std.specs.Prelude.{◌≡◌, ℕ, ◌+◌, ◌-◌, ◌^◌, ◌<◌, ◌≤◌, ◌==◌, min, Bool, true, false, ◌&&◌, nat_lt, if◌then◌else◌, Result, Ok, Err, ⊤}
use Rattle.ps_writing.specs.declared.counts.Counts.{Counts}
use Rattle.ps_writing.specs.declared.write_fault.WriteFault.{WriteFault}
use Rattle.ps_writing.specs.declared.write_fault.WriteFault.TheVariants.{Device, Stalled}

-- the counts before the first write
abbrev pub no_counts : Counts
no_counts = record { writes = 0; errors = 0; stalls = 0; shorts = 0 }

-- the counts after a write of so many bytes that gave this result, where `next` says what becomes
-- of each that applies
abbrev pub counted_by : {E : Type 0} → (ℕ → ℕ) → Counts → ℕ → Result ℕ E
    → Counts
counted_by next old size (Ok taken) = record {
  writes = next old.writes;
  errors = old.errors;
  stalls = if nat_lt taken size && taken == 0 then next old.stalls else old.stalls;
  shorts = if nat_lt taken size then next old.shorts else old.shorts;
}
counted_by next old size (Err error) = record {
  writes = next old.writes;
  errors = next old.errors;
  stalls = old.stalls;
  shorts = old.shorts;
}

-- each that applies is one more
abbrev pub counts_after : {E : Type 0} → Counts → ℕ → Result ℕ E → Counts
counts_after old size result = counted_by (λ n. n + 1) old size result

-- one more, unless 64 bits hold no more
abbrev pub one_more : ℕ → ℕ
one_more n = min (n + 1) 18446744073709551615

-- each that applies is one more, unless 64 bits hold no more
abbrev pub saturated_after : {E : Type 0} → Counts → ℕ → Result ℕ E → Counts
saturated_after old size result = counted_by one_more old size result

-- none of the counts is above n
pub record AreAtMost (counts : Counts) (n : ℕ) : Type 0 where
  pub writes : counts.writes ≤ n
  pub errors : counts.errors ≤ n
  pub stalls : counts.stalls ≤ n
  pub shorts : counts.shorts ≤ n

-- each of the counts is below n
pub record AreBelow (counts : Counts) (n : ℕ) : Type 0 where
  pub writes : counts.writes < n
  pub errors : counts.errors < n
  pub stalls : counts.stalls < n
  pub shorts : counts.shorts < n

-- 64 bits hold the counts after so many writes more, where they have to
abbrev pub HasRoom : Bool → Counts → ℕ → Type 0
HasRoom true counts n = AreBelow counts (2 ^ 64 - n)
HasRoom false counts n = ⊤

-- there were at most as many writes as bytes
abbrev pub RisesByBytes : Counts → Counts → ℕ → Type 0
RisesByBytes old new size = new.writes ≤ old.writes + size

-- there were at most as many writes as pieces and short writes together
abbrev pub RisesByPieces : Counts → Counts → ℕ → Type 0
RisesByPieces old new pieces = new.writes + old.shorts ≤ old.writes + pieces + new.shorts

-- how often a writer is called while so many bytes are written, in so many pieces; all short writes
-- are counted where 64 bits hold as many as there can be
pub record Rises (old new : Counts) (size pieces : ℕ) : Type 0 where
  pub by_bytes : RisesByBytes old new size
  pub by_pieces : old.shorts + size < 2 ^ 64 → RisesByPieces old new pieces
  pub shorts : new.shorts ≤ old.shorts + size

-- how many writes failed: those that returned an error, and those that stalled
pub record Failures : Type 0 where
  pub errors : ℕ
  pub stalls : ℕ

abbrev pub failures_in : Counts → Failures
failures_in counts = record { errors = counts.errors; stalls = counts.stalls }

-- the failures after one write that failed in the way that the fault says
abbrev pub failures_with : WriteFault → Failures → Failures
failures_with (Device error) old = record { errors = one_more old.errors; stalls = old.stalls }
failures_with Stalled old = record { errors = old.errors; stalls = one_more old.stalls }

-- no write failed
abbrev pub NoneFailed : Counts → Counts → Type 0
NoneFailed old new = failures_in new ≡ failures_in old

-- one write failed, in the way that the fault says
abbrev pub OneFailed : WriteFault → Counts → Counts → Type 0
OneFailed fault old new = failures_in new ≡ failures_with fault (failures_in old)

-- one write returned an error, and none stalled
pub record OneError (old new : Counts) : Type 0 where
  pub errors : new.errors ≡ old.errors + 1
  pub stalls : new.stalls ≡ old.stalls

-- one write stalled, and none returned an error
pub record OneStall (old new : Counts) : Type 0 where
  pub errors : new.errors ≡ old.errors
  pub stalls : new.stalls ≡ old.stalls + 1

-- what holds where a write returned an error
abbrev pub IfDevice : WriteFault → Type 0 → Type 0
IfDevice (Device error) P = P
IfDevice Stalled P = ⊤

-- what holds where a write stalled
abbrev pub IfStalled : WriteFault → Type 0 → Type 0
IfStalled (Device error) P = ⊤
IfStalled Stalled P = P
