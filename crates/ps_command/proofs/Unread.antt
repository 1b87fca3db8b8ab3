-- A file that was opened, and not read.
use Rattle.std.proofs.Common.{◌≡◌, ◌≢◌, ℕ, List, Option, Result, Ok, Err, IfErr, inr, refl}
use Rattle.ps_output_files.specs.World.{World}
use Rattle.ps_command.specs.ReadFaults.{IsReadFault, IsTooLong}
use Rattle.ps_command.specs.declared.files.FileFault.{FileFault}
use Rattle.ps_command.specs.declared.files.FileFault.TheVariants as fault

pub opened_unread : {T : Type 0} (world : World) (path : List ℕ) (left : Option (List ℕ))
    (r : Result T FileFault) → world.opened path left
    → IfErr r (λ why. why ≡ fault.TooLong → IsTooLong left)
    → IfErr r (λ why. why ≢ fault.Endless) → IfErr r (IsReadFault world path)
opened_unread world path left (Ok bytes) is long ended = tt
opened_unread world path left (Err (fault.Device cause)) is long ended = inr (left, is)
opened_unread world path left (Err fault.TooLong) is long ended = (left, is, long refl)
opened_unread world path left (Err fault.Endless) is long ended = absurd (ended refl)
opened_unread world path left (Err fault.Memory) is long ended = (left, is)
