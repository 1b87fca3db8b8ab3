-- Why a file cannot be read, and what is reported of it and of a command that was not done.
use Rattle.std.specs.Prelude.{ℕ, List}
use Rattle.std.specs.Borrow.{Bor}
use Rattle.std.specs.declared.io.ErrorKind.{ErrorKind}
use Rattle.std.specs.declared.io.ErrorKind.TheVariants as kind
use Rattle.ps_command.specs.declared.error.Cause.{Cause}
use Rattle.ps_command.specs.declared.error.Cause.TheVariants as cause
use Rattle.ps_command.specs.declared.error.CommandError.{CommandError}
use Rattle.ps_command.specs.declared.error.CommandError.TheVariants as error
use Rattle.ps_command.specs.declared.error.FileError.{FileError}
use Rattle.ps_command.specs.declared.error.FileError.TheVariants as file
use Rattle.ps_command.specs.declared.error.RunError.{RunError}
use Rattle.ps_command.specs.declared.error.RunError.TheVariants as run
use Rattle.ps_arguments.specs.declared.usage.UsageError.{UsageError}
use Rattle.ps_arguments.specs.declared.usage.UsageError.TheVariants as usage
use Rattle.ps_command.specs.declared.files.FileFault.{FileFault}
use Rattle.ps_command.specs.declared.files.FileFault.TheVariants as fault

-- the cause that is of a kind of the system's errors; a path below a file names no file
abbrev pub cause_of : ErrorKind → Cause
cause_of kind.NotFound = cause.Missing
cause_of kind.NotADirectory = cause.Missing
cause_of kind.IsADirectory = cause.Folder
cause_of kind.PermissionDenied = cause.Forbidden
cause_of kind.InvalidInput = cause.NotText
cause_of _ = cause.Other

-- why the files of a command are not read, of which the one at this path was not read whole
abbrev pub read_error : Bor (List ℕ) → FileFault → FileError
read_error path (fault.Device cause) = file.Read path cause
read_error path fault.TooLong = file.TooLong path
read_error path fault.Endless = file.Read path cause.Other
read_error path fault.Memory = file.Memory

-- what is reported of files that are not read
abbrev pub told_of_file : FileError → CommandError
told_of_file (file.Read path cause) = error.Read path
told_of_file (file.TooLong path) = error.TooLong path
told_of_file file.Memory = error.Memory

-- what the program says of a file that it cannot read, the cause named
abbrev pub told_with_cause : FileError → CommandError
told_with_cause (file.Read path cause) = error.Unreadable path cause
told_with_cause (file.TooLong path) = error.TooLong path
told_with_cause file.Memory = error.Memory

-- what is reported of a command line that asks for nothing
abbrev pub told_of_usage : UsageError → CommandError
told_of_usage (usage.Wrong text) = error.Usage text
told_of_usage (usage.NotText argument) = error.NotText argument
told_of_usage usage.Memory = error.Memory

-- what is reported of a command that was not done
abbrev pub told_of : RunError → CommandError
told_of (run.File why) = told_of_file why
told_of (run.Unchecked why) = told_with_cause why
told_of (run.Write path) = error.Write path
told_of run.StandardOutput = error.StandardOutput
told_of run.Memory = error.Memory

-- what a list reports of the file at this path, which was not read whole: want of memory is a cause
-- too
abbrev pub unread_error : Bor (List ℕ) → FileFault → CommandError
unread_error path (fault.Device cause) = error.Unreadable path cause
unread_error path fault.TooLong = error.TooLong path
unread_error path fault.Endless = error.Unreadable path cause.Other
unread_error path fault.Memory = error.Unreadable path cause.Memory
