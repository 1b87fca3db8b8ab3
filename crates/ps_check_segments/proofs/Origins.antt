-- Where segments come from, and what is seen of them.
use Rattle.std.proofs.Common.{◌≡◌, ◌+◌, ◌-◌, ◌<◌, ◌≤◌, ◌++◌, [], ℕ, Bor, suc, List, true, false, refl, sym, ap, arith}
use Rattle.std.specs.Prelude.{Bool, Option, Some, None, Result, Ok, Err, filter_map, if◌then◌else◌}
use Rattle.std.specs.List.{cons_option, range_with_len}
use Rattle.std.specs.Result.{is_ok}
use Rattle.ps_words.specs.declared.fault.Reason.{Reason}
use Rattle.ps_codefile.specs.Dictionary.{IsViewOf}
use Rattle.ps_linkinfo.specs.declared.record.LinkRecord.{LinkRecord as Record}
use Rattle.ps_reading.proofs.FirstSlots.{range_more}
use Rattle.ps_check_segments.specs.Seen.{Seen, part_needs_linking}
use Rattle.ps_check_segments.specs.SeenSegments.{seen_with}
use Rattle.ps_reading.specs.declared.slot_reading.Absent.{Absent}
use Rattle.ps_check_segments.specs.declared.segments.SegmentPart.{SegmentPart}

pub none_of : (b : Bool) → ◌≡◌ {A = List Record} (if b then [] else []) []
none_of b = grind arith

-- what is seen of a segment that comes from no entry
pub seen_none : (slot : Option ℕ) (name : List ℕ) (part : SegmentPart) (why : Absent)
    (records : List Record) → records ≡ [] → ◌≡◌ {A = Seen} (record {
      slot = slot;
      name = name;
      part = part;
      origin = Err why;
      file = None;
      records = records;
    }) (seen_with slot name part (Err why))
unfolding seen_with
seen_none slot name part why records none = rw (none, none_of (part_needs_linking part))

-- an entry has a code exactly if one was read there
pub ok_is : (r : Result (Bor (List ℕ)) Reason) (answer : Result (List ℕ) Reason)
    → IsViewOf (λ code. code.now) r answer → is_ok r ≡ is_ok answer
ok_is r answer is = grind arith

-- what is seen in the slots from one on
module _ (f : ℕ → Option Seen) (i n : ℕ) where
  pub seen_left : i < n → filter_map f (range_with_len i (n - i))
      ≡ cons_option (f i) [] ++ filter_map f (range_with_len (i + 1) (n - (i + 1)))
  seen_left lt = grind (arith, range_more)

  pub seen_over : n ≤ i → filter_map f (range_with_len i (n - i)) ≡ []
  seen_over le = grind arith
