-- Where the summary of a link is printed.
use Rattle.std.specs.Prelude.{◌≡◌, ◌⊎◌, ℕ, Bool, true, false, List, Option, IfSome, IsSomeAnd}
use Rattle.std.specs.Io.KnownBytes.{Appends}
use Rattle.ps_writing.specs.Prefixes.{AppendsPrefix}
use Rattle.ps_arguments.specs.declared.outputs.LinkOptions.{LinkOptions}
use Rattle.ps_arguments.specs.declared.outputs.OutBy.TheVariants as named_by
use Rattle.ps_output_files.specs.declared.linking.Place.{Place}
use Rattle.ps_output_files.specs.declared.linking.Place.TheVariants as place
use Rattle.ps_arguments.specs.declared.outputs.Telling.TheVariants as telling

-- Where the summary of a link is printed: nowhere if it prints none; on standard error if its option
-- names OUT, and OUT leads to standard output, or if the file of the map does; and else on standard
-- output. `Leads` says of a path whether it was found to lead there.
abbrev pub IsPlace : (List ℕ → Bool → Type 0) → LinkOptions → List ℕ → Option (List ℕ) → Place
    → Type 0
IsPlace Leads options out map place.Nowhere = options.telling ≡ telling.Nothing
IsPlace Leads options out map place.Output = (options.telling ≡ telling.Summary)
    × (options.named ≡ named_by.Option → Leads out false) × IfSome map (λ file. Leads file false)
IsPlace Leads options out map place.Error = (options.telling ≡ telling.Summary)
    × (((options.named ≡ named_by.Option) × Leads out true)
    ⊎ IsSomeAnd map (λ file. Leads file true))

-- where a line beside the file of a map goes: on standard error if that file leads to standard
-- output, and else on standard output
abbrev pub IsBeside : (List ℕ → Bool → Type 0) → Option (List ℕ) → Place → Type 0
IsBeside Leads map place.Nowhere = ⊥
IsBeside Leads map place.Output = IfSome map (λ file. Leads file false)
IsBeside Leads map place.Error = IsSomeAnd map (λ file. Leads file true)

-- known writers of standard output and of standard error take a summary at its place; of standard
-- error, whose fault changes nothing, a prefix of it
abbrev pub PrintsAt : Place → List ℕ → Option (List ℕ) → Option (List ℕ)
    → Option (List ℕ) → Option (List ℕ) → Type 0
PrintsAt place.Nowhere line old new old_err new_err = (new ≡ old) × (new_err ≡ old_err)
PrintsAt place.Output line old new old_err new_err = Appends old new line × (new_err ≡ old_err)
PrintsAt place.Error line old new old_err new_err = (new ≡ old) × AppendsPrefix old_err new_err line
