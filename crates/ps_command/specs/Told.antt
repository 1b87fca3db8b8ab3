-- The line of files that are refused, on standard error.
use Rattle.std.specs.Prelude.{ℕ, List, ◌++◌, Option, codes}
use Rattle.ps_words.specs.FaultText.{fault_text}
use Rattle.ps_words.specs.declared.fault.Fault.{Fault}
use Rattle.ps_writing.specs.Prefixes.{AppendsPrefix}

-- `pslink: refused 14 NotAUnit kind 5 file 1 slot 7`
abbrev pub refused_line : Fault → List ℕ
refused_line f = codes "pslink: " ++ (fault_text f ++ codes "\n")

-- a known standard error takes this line and nothing else; or a prefix of it, since a write that fails
-- there changes nothing
abbrev pub TellsFault : Fault → Option (List ℕ) → Option (List ℕ) → Type 0
TellsFault f old new = AppendsPrefix old new (refused_line f)
