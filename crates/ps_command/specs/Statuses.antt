-- What the process ends with: 0 done, 1 refused, 2 usage, 3 a file or standard output, 4 out of
-- memory.
use Rattle.std.specs.Prelude.{ℕ}
use Rattle.ps_command.specs.declared.ended.Ended.{Ended}
use Rattle.ps_command.specs.declared.ended.Ended.TheVariants as ended
use Rattle.ps_command.specs.declared.error.CommandError.{CommandError}
use Rattle.ps_command.specs.declared.error.CommandError.TheVariants as error

-- by how its command ends that was done
abbrev pub ended_status : Ended → ℕ
ended_status ended.Done = 0
ended_status ended.Refused = 1
ended_status ended.Unread = 3

-- by the error of its command
abbrev pub status_of : CommandError → ℕ
status_of (error.Usage text) = 2
status_of (error.NotText argument) = 2
status_of (error.Read path) = 3
status_of (error.Unreadable path cause) = 3
status_of (error.TooLong path) = 3
status_of (error.Write path) = 3
status_of error.StandardOutput = 3
status_of error.Memory = 4
