-- What follows of a command that ends with status 3 or 2.
use Rattle.std.proofs.Common.{◌≡◌, ◌≢◌, ◌⊎◌, ◌∷◌, Bor, List, arith, inl, inr, map, get_or, length, ◌<◌, refl, ℕ, suc}
use Rattle.std.specs.Prelude.{Any}
use Rattle.std.proofs.lemmas.List.{get_or-map, length-map}
use Rattle.ps_arguments.specs.CommandLine.{Text}
use Rattle.ps_arguments.specs.declared.usage.UsageError.{UsageError}
use Rattle.ps_arguments.specs.declared.usage.UsageError.TheVariants as usage
use Rattle.ps_output_files.specs.World.{World}
use Rattle.ps_output_files.specs.declared.unlinked.Unlinked.{Unlinked}
use Rattle.ps_output_files.specs.declared.unlinked.Unlinked.TheVariants as unlinked
use Rattle.ps_command.specs.Causes.{read_error, told_of, told_of_file, told_of_usage}
use Rattle.ps_command.specs.Failures.{IsUnreadable}
use Rattle.ps_command.specs.ReadFaults.{IsReadFault}
use Rattle.ps_command.specs.Statuses.{status_of}
use Rattle.ps_command.specs.declared.error.CommandError.{CommandError}
use Rattle.ps_command.specs.declared.error.FileError.{FileError}
use Rattle.ps_command.specs.declared.error.FileError.TheVariants as file
use Rattle.ps_command.specs.declared.error.RunError.{RunError}
use Rattle.ps_command.specs.declared.error.RunError.TheVariants as run
use Rattle.ps_command.specs.declared.files.FileFault.{FileFault}
use Rattle.ps_command.specs.declared.files.FileFault.TheVariants as fault

-- a file that was not read could not be, where the error is not that memory was refused
pub unreadable : (world : World) (path : Bor (List ℕ)) (why : FileFault)
    → IsReadFault world path.now why → read_error path why ≢ file.Memory → IsUnreadable world path.now
unreadable world path (fault.Device cause) is other = (fault.Device cause, grind arith, is)
unreadable world path fault.TooLong is other = (fault.TooLong, grind arith, is)
unreadable world path fault.Endless is other = absurd is
unreadable world path fault.Memory is other = absurd (other refl)

-- the file of a library, among those of a host and libraries
pub of_library : (P : Text → Type 0) (host : Text) (paths : List (Bor Text)) (i : ℕ) (d : Bor Text)
    → i < length paths → P (get_or paths i d).now → Any P (host ∷ map (λ path. path.now) paths)
of_library P host paths i d within is =
    let path = (get_or paths i d).now in
    let same : get_or (map (λ (p : Bor Text). p.now) paths) i path ≡ path =
    get_or-map (λ (p : Bor Text). p.now) paths i d path within in
    let count = length-map paths (λ (p : Bor Text). p.now) in
    (suc i, path, grind (arith, within, count), same, is)

-- files that are not read end a command with status 3 where memory was not refused
file_fails : (why : FileError) → status_of (told_of_file why) ≡ 3 → why ≢ file.Memory
file_fails (file.Read path cause) three = grind arith
file_fails (file.TooLong path) three = grind arith
file_fails file.Memory three = absurd (omega (arith, three))

pub named_fails : (why : FileError) (e : RunError) → e ≡ run.File why → status_of (told_of e) ≡ 3
    → why ≢ file.Memory
named_fails why e is three = file_fails why (rw is at three)

-- a write that failed is no fault of standard output
pub not_output_written : (path : Bor (List ℕ)) (e : Unlinked) → e ≡ unlinked.Write path
    → e ≡ unlinked.StandardOutput → ⊥
not_output_written path e is output = grind arith

-- status 2 is wrong usage
pub usage_fails : {Wrong : Type 0} (error : UsageError) (e : CommandError) → e ≡ told_of_usage error
    → status_of e ≡ 2 → (error ≡ usage.Memory) ⊎ Wrong → Wrong
usage_fails error e is two (inr wrong) = wrong
usage_fails error e is two (inl memory) =
    let other : status_of (told_of_usage usage.Memory) ≡ 2 = rw (is, memory) at two in
    absurd (omega (arith, other))
