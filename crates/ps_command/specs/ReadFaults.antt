-- Why a file was not read whole.
use Rattle.std.specs.Prelude.{◌⊎◌, ◌<◌, ℕ, List, Option, IfSome, length}
use Rattle.ps_output_files.specs.World.{World}
use Rattle.ps_command.specs.declared.files.TheConstants.{LONGEST}
use Rattle.ps_command.specs.declared.files.FileFault.{FileFault}
use Rattle.ps_command.specs.declared.files.FileFault.TheVariants as fault

-- a file has more to give, if that is known, than a program reads of it
abbrev pub IsTooLong : Option (List ℕ) → Type 0
IsTooLong remaining = IfSome remaining (λ left. LONGEST < length left)

-- why nothing was read at a path: nothing could be opened there; or a file was opened, and a read
-- failed, or it has too much to give, or memory ran out; none is read without an end
abbrev pub IsReadFault : World → List ℕ → FileFault → Type 0
IsReadFault world path (fault.Device cause) =
    world.unopened path ⊎ ((left : Option (List ℕ)) × world.opened path left)
IsReadFault world path fault.TooLong =
    (left : Option (List ℕ)) × world.opened path left × IsTooLong left
IsReadFault world path fault.Endless = ⊥
IsReadFault world path fault.Memory = (left : Option (List ℕ)) × world.opened path left

-- a file at a path was not read, or not listed, for one of these reasons: for the bytes of a file
-- that was opened and for its list no contract says that memory was refused
abbrev pub IsNotRead : World → List ℕ → Type 0
IsNotRead world path = (why : FileFault) × IsReadFault world path why
