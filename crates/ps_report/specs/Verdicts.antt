-- What a check finds: whether the files are linked, the line that says so, and the status.
use Rattle.std.specs.Prelude.{◌≡◌, ℕ, ◌==◌, ◌&&◌, not, if◌then◌else◌, Bool, List, ◌++◌, Option, Some, None, codes, decimal}
use Rattle.ps_resolve.specs.FaultNames.{fault_name}
use Rattle.ps_resolve.specs.FaultParts.{HasItsParts}
use Rattle.ps_resolve.specs.Sources.{order_of}
use Rattle.ps_words.specs.FaultText.{fault_text}
use Rattle.ps_words.specs.declared.fault.Fault.{Fault}
use Rattle.ps_resolve.specs.Standing.{IsFirst, NoneStands}
use Rattle.ps_linkfile.specs.LinkedFile.{summary_of}
use Rattle.ps_report.specs.declared.verdict.Verdict.{Verdict}
use Rattle.ps_report.specs.declared.verdict.Verdict.TheVariants.{Links, Refused}

-- `links: segments 2 private words 4 blocks 3`, or the line of the refusal, `pslink: refused 13
-- MissingUnit file 0 slot 7`
abbrev pub verdict_line : Verdict → List ℕ
verdict_line (Links s) =
    codes "links: segments " ++ (decimal s.segments
    ++ (codes " private words " ++ (decimal s.private_words
    ++ (codes " blocks " ++ (decimal s.blocks ++ codes "\n")))))
verdict_line (Refused f) = codes "pslink: " ++ (fault_text f ++ codes "\n")

-- the verdict is right: no fault applies, and the summary is that of the linked file; or the fault
-- is the first of all
abbrev pub IsVerdict : List ℕ → List (List ℕ) → Verdict → Type 0
IsVerdict host libs (Links s) = NoneStands host libs × (s ≡ summary_of host libs)
IsVerdict host libs (Refused f) = IsFirst host libs f × HasItsParts (order_of host) host libs f

-- the fault for which the files are refused
abbrev pub fault_of : Verdict → Option Fault
fault_of (Links s) = None
fault_of (Refused f) = Some f

-- the name of what the fault of a verdict on these files is about
abbrev pub verdict_name : List ℕ → List (List ℕ) → Verdict → Option (List ℕ)
verdict_name host libs (Links s) = None
verdict_name host libs (Refused f) = fault_name host libs f

-- a fault is the first of all
abbrev pub IsRefused : List ℕ → List (List ℕ) → Type 0
IsRefused host libs = (f : Fault) × IsFirst host libs f

-- 0 where the files are linked and 1 where they are refused; if it is to be strict, 1 on a warning
-- too
abbrev pub check_status : Bool → ℕ → Verdict → ℕ
check_status strict warnings (Links s) = if strict && not (warnings == 0) then 1 else 0
check_status strict warnings (Refused f) = 1

-- the text has the line of the verdict, which begins a line of it
abbrev pub Tells : List ℕ → Verdict → Type 0
Tells text verdict = (before : List ℕ) × (after : List ℕ)
    × (text ≡ before ++ (codes "\n" ++ (verdict_line verdict ++ after)))
