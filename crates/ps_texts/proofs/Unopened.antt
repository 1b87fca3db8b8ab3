-- A file that cannot be opened cannot be shown, for the same fault.
use Rattle.std.proofs.Common.{◌≡◌, ℕ, List, Bool, true, false, Some, true≢false, if◌then◌else◌, refl, ap, length, nat_lt}
use Rattle.std.specs.Prelude.{Option, Result, Err, option_map}
use Rattle.std.specs.Result.{is_ok, result_err}
use Rattle.ps_words.specs.FaultPlaces.{in_file}
use Rattle.ps_words.specs.declared.fault.Fault.{Fault}
use Rattle.ps_words.specs.declared.fault.Reason.{Reason}
use Rattle.ps_words.specs.declared.fault.Reason.TheVariants as reason
use Rattle.ps_codefile.specs.Dictionary.{FileOrder, Zero, Ordered, Mixed, OpenedFile, block_len, file_order, opened_as}
use Rattle.ps_codefile.specs.Opened.{opened, opened_after}
use Rattle.ps_linkfile.specs.ShowText.{order_fault, show_fault}

-- the fault of a file that was read in its own order, or was not
abbrev fault_of : Result OpenedFile Reason → Option Fault
fault_of r = option_map (in_file 0) (result_err r)

refused_by : (file : List ℕ) (why : Reason) (short : Bool) (order : FileOrder)
    → nat_lt (length file) block_len ≡ short → file_order file ≡ order
    → opened_after file (if short then Err reason.ShortFile else opened_as file order) ≡ Err why
    → (if short then Some (in_file 0 reason.ShortFile) else order_fault order)
    ≡ Some (in_file 0 why)
refused_by file why true order long of e = ap fault_of e
refused_by file why false Zero long of e =
    absurd (true≢false (rw (long, of) at (ap (λ r. is_ok r) e)))
refused_by file why false (Ordered order) long of e =
    absurd (true≢false (ap (λ r. is_ok r) e))
refused_by file why false Mixed long of e = ap fault_of e

pub refused_as_shown : (file : List ℕ) (why : Reason) → opened file ≡ Err why
    → show_fault file ≡ Some (in_file 0 why)
unfolding opened
refused_as_shown file why e =
    refused_by file why (nat_lt (length file) block_len) (file_order file) refl refl e
