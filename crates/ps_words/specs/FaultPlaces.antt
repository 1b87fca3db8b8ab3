-- Where a fault occurs: in a file as a whole, in a slot of the host, in a record of that slot's
-- link information, or in a reference of that record.
use Rattle.std.specs.Prelude.{ℕ, ◌==◌, ◌&&◌, ◌||◌, not, nat_le, if◌then◌else◌, Bool, true, false, Option, Some, None}
use Rattle.ps_words.specs.declared.fault.Reason.{Reason}
use Rattle.ps_words.specs.declared.fault.Reason.TheVariants as reason
use Rattle.ps_words.specs.declared.fault.Fault.{Fault}

-- a fault of a file as a whole
abbrev pub in_file : ℕ → Reason → Fault
in_file file why = record { reason = why; file = file; slot = None; rec = None; reference = None }

-- a fault of a segment, with the host's slot
abbrev pub in_slot : ℕ → ℕ → Reason → Fault
in_slot file slot why = record {
  reason = why;
  file = file;
  slot = Some slot;
  rec = None;
  reference = None;
}

-- a fault of a record of a segment's link information
abbrev pub in_record : ℕ → ℕ → ℕ → Reason → Fault
in_record file slot rec why = record {
  reason = why;
  file = file;
  slot = Some slot;
  rec = Some rec;
  reference = None;
}

-- a fault of a reference of a record
abbrev pub in_reference : ℕ → ℕ → ℕ → ℕ → Reason → Fault
in_reference file slot rec reference why =
    record {
      reason = why;
      file = file;
      slot = Some slot;
      rec = Some rec;
      reference =
          Some reference;
    }

-- the number of a fault that is reported with a slot
abbrev pub has_slot : ℕ → Bool
has_slot number = nat_le 5 number

-- the number of a fault that is reported with a record
abbrev pub has_record : ℕ → Bool
has_record number = nat_le 19 number && not (number == 27)

-- the reason of a record that cannot be read
abbrev pub is_unread : Reason → Bool
is_unread reason.RecordsTruncated = true
is_unread reason.UnknownRecord = true
is_unread reason.NativeRecord = true
is_unread reason.SeparateRecord = true
is_unread reason.BadFormat = true
is_unread why = false

-- the record of a fault, where it could be read
abbrev pub read_record : Fault → Option ℕ
read_record f = if is_unread f.reason then None else f.rec

-- the number of a fault that is reported with a reference
abbrev pub has_reference : ℕ → Bool
has_reference number = nat_le 31 number && nat_le number 34

-- the number of a fault of the host
abbrev pub is_of_host : ℕ → Bool
is_of_host number = nat_le 4 number && nat_le number 10 || number == 13 || number == 24
    || number == 27

-- the number of a fault of a library
abbrev pub is_of_library : ℕ → Bool
is_of_library number = number == 3 || number == 14 || number == 15
