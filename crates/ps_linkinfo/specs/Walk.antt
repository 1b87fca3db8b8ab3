-- A walk over link information, record by record: where it is, what it may give next, which records
-- it has given.
use Rattle.std.specs.Prelude.{◌≡◌, ℕ, ◌+◌, ◌-◌, ◌/◌, if◌then◌else◌, length, List, drop, Bool, true, false, Option, Some, None, Result, Ok, Err}
use Rattle.ps_words.specs.declared.order.Order.{Order}
use Rattle.ps_words.specs.declared.fault.Reason.{Reason}
use Rattle.ps_linkinfo.specs.Records.{AreSpelled, BeginsWith, bad, is_eof, size_of, used_by}
use Rattle.ps_linkinfo.specs.declared.record.LinkRecord.{LinkRecord as Record}

-- the order of the words, the bytes, how many of them the records given so far take, and whether an
-- EOFMARK or a fault was given
pub record Walk : Type 0 where
  pub order : Order
  pub bytes : List ℕ
  pub used : ℕ
  pub ended : Bool

-- a walk that has given nothing yet
abbrev pub whole_walk : Order → List ℕ → Walk
whole_walk order bytes = record { order = order; bytes = bytes; used = 0; ended = false }

-- what may be given next, and where that leads: None once the walk has ended; else the fault that
-- occurs at `used`, which ends it, or the record there, which ends it where it is an EOFMARK
abbrev pub Advances : Walk → Option (Result Record Reason) → Walk → Type 0
Advances old None new = (old.ended ≡ true) × (new ≡ old)
Advances old (Some (Err why)) new = (old.ended ≡ false)
    × (bad old.order (drop old.used old.bytes) ≡ Some why)
    × (new ≡ record old { ended = true })
Advances old (Some (Ok r)) new = (old.ended ≡ false)
    × BeginsWith old.order (drop old.used old.bytes) r
    × (new ≡ record old { used = old.used + size_of r; ended = is_eof r })

-- at most how many items are left: one for each 16 bytes, and one for a fault
abbrev pub left_of : Walk → ℕ
left_of w = if w.ended then 0 else (length w.bytes - w.used) / 16 + 1

-- the walk has given these records: their spellings, one after another, are the first `used` of its
-- bytes
pub record HasGiven (w : Walk) (rs : List Record) : Type 0 where
  pub spelled : AreSpelled w.order w.bytes rs
  pub used : w.used ≡ used_by rs
