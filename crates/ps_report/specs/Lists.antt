-- Files without a host among them, of which a report has the lists.
use Rattle.std.specs.Prelude.{◌&&◌, not, ℕ, Bool, true, false, List}
use Rattle.ps_words.specs.declared.fault.Reason.{Reason}
use Rattle.ps_words.specs.declared.fault.Reason.TheVariants as reason
use Rattle.ps_listing.specs.FileLists.{has_host_among}
use Rattle.ps_report.specs.declared.verdict.Verdict.{Verdict}
use Rattle.ps_report.specs.declared.verdict.Verdict.TheVariants.{Links, Refused}

-- why the first file is no host
abbrev pub is_no_host_reason : Reason → Bool
is_no_host_reason reason.NoHost = true
is_no_host_reason why = false

-- the files are refused because the first is no host
abbrev pub is_no_host : Verdict → Bool
is_no_host (Links s) = false
is_no_host (Refused f) = is_no_host_reason f.reason

-- no file is a host: neither the first, for which the files are refused, nor a library
abbrev pub lacks_host : Verdict → List (List ℕ) → Bool
lacks_host verdict libs = is_no_host verdict && not (has_host_among libs)
