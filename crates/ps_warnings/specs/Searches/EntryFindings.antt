-- How a check searches the entries of a dictionary; no contract of another crate cites it.
use Rattle.std.specs.Prelude.{ℕ, ◌&&◌, not, if◌then◌else◌, List, nat_lt, Bool, Option, Some, None, Result, Ok, Err}
use Rattle.std.specs.List.{find}
use Rattle.std.specs.Option.{option_map}
use Rattle.ps_words.specs.declared.fault.Reason.{Reason}
use Rattle.ps_codefile.specs.declared.entry.Entry.{Entry}
use Rattle.ps_codefile.specs.declared.entry.Role.{Role}
use Rattle.ps_codefile.specs.declared.entry.Role.TheVariants as role
use Rattle.ps_warnings.specs.Warned.{names_segment}
use Rattle.ps_warnings.specs.declared.findings.extents.Extent.{Extent}
use Rattle.ps_warnings.specs.declared.finding.EntryFinding.TheVariants as finding
use Rattle.ps_warnings.specs.declared.finding.Finding.{Finding}
use Rattle.ps_warnings.specs.declared.finding.Finding.TheVariants as which

-- an empty slot, which no unit takes, has an entry that names a segment
abbrev pub empty_slot : ℕ → Bool → Entry → Option Finding
empty_slot slot taken e = if not taken && names_segment e
    then Some (which.Entry (finding.EmptySlot slot e.name e.kind)) else None

-- what looks wrong in a slot of this role, which a unit takes or not
abbrev pub empty_finding : ℕ → Bool → Entry → Result Role Reason → Option Finding
empty_finding slot taken e (Ok role.Wanted) = None
empty_finding slot taken e (Ok role.Empty) = empty_slot slot taken e
empty_finding slot taken e (Ok role.Plain) = None
empty_finding slot taken e (Ok role.Host) = None
empty_finding slot taken e (Ok role.Unit) = None
empty_finding slot taken e (Err why) = None

-- the bytes of an earlier slot are also some of this slot's
abbrev pub shares : Extent → Extent → Bool
shares e other = nat_lt other.slot e.slot && (nat_lt other.start e.end
    && nat_lt e.start other.end)

-- the first earlier slot that has bytes of this one
abbrev pub overlap : List Extent → Extent → Option Finding
overlap extents e = option_map (λ other. which.Entry (finding.Overlap other.slot))
    (find (shares e) extents)
