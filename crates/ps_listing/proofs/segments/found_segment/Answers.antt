use Rattle.ps_listing.proofs.Vocabulary.{◌≡◌, IfOk, List, Ok, Err, Option, Result, refl, Fault, Record, entry_at, needs_linking}
use Rattle.std.specs.Result.{result_err}
use Rattle.ps_resolve.specs.Sources.{records_of}
use Rattle.ps_listing.specs.Listed.{fault_alone, found_segment, or_fault}
use Rattle.ps_listing.proofs.segments.found_segment.Goals as goal

is_found : (r : Result (List Record) Fault) (records : List Record) (fault : Option Fault)
    → result_err r ≡ fault → IfOk r (λ rs. rs ≡ records) → r ≡ or_fault records fault
is_found (Ok rs) records fault e is = rw (← e, is) refl
is_found (Err f) records fault e is = rw (← e) refl

pub returns : goal.returns
unfolding found_segment
returns c =
    let dict = c.args.dict.now in
    let slot = c.args.slot in
    let found = is_found c.read_by_itself-found.result
    (records_of dict.order dict.file (entry_at dict.order dict.file slot)
    (needs_linking c.args.role)) (fault_alone dict.order dict.file slot c.args.role)
    c.read_by_itself-found.ensures.fault c.read_by_itself-found.ensures.records in
    rw (c.segment_with.ensures, c.entry-entry.ensures, found) refl
