-- What the arguments of some command lines ask for.
use Rattle.std.proofs.Common.{◌≡◌, [], ◌∷◌, List, Some, arith, codes, refl, true}
use Rattle.std.specs.Prelude.{option_map}
use Rattle.clap.proofs.OnLiterals.{clap_on_literals}
use Rattle.clap.specs.Words.{Text}
use Rattle.clap.specs.declared.error.ErrorKind.TheVariants.{DisplayHelp, DisplayVersion, MissingSubcommand}
use Rattle.ps_arguments.specs.CommandLine.{AskForText, faults_in, named_in}
use Rattle.ps_arguments.specs.Outputs.{has_output, is_quiet}
use Rattle.ps_arguments.specs.Requests.{map_file, out_and_libraries}

version_asked : faults_in (codes "pslink" ∷ codes "--version" ∷ []) ≡ DisplayVersion ∷ []
unfolding clap_on_literals
version_asked = refl

help_asked : faults_in (codes "pslink" ∷ codes "--help" ∷ []) ≡ DisplayHelp ∷ []
unfolding clap_on_literals
help_asked = refl

help_of_link_asked : faults_in (codes "pslink" ∷ codes "link" ∷ codes "-h" ∷ [])
    ≡ DisplayHelp ∷ []
unfolding clap_on_literals
help_of_link_asked = refl

none_named : faults_in (codes "pslink" ∷ []) ≡ MissingSubcommand ∷ []
unfolding clap_on_literals
none_named = refl

link_named : faults_in (codes "pslink" ∷ codes "link" ∷ codes "a" ∷ codes "b" ∷ codes "c"
    ∷ []) ≡ []
unfolding clap_on_literals
link_named = refl

-- OUT by its option, FILE by its own, and no summary
out_named : faults_in (codes "pslink" ∷ codes "link" ∷ codes "-o" ∷ codes "out" ∷ codes "host" ∷ [])
    ≡ []
unfolding clap_on_literals
out_named = refl

map_named : faults_in (codes "pslink" ∷ codes "link" ∷ codes "--map" ∷ codes "map" ∷ codes "host"
    ∷ codes "out" ∷ []) ≡ []
unfolding clap_on_literals
map_named = refl

quiet_named : faults_in (codes "pslink" ∷ codes "link" ∷ codes "-q" ∷ codes "host" ∷ codes "out" ∷ [])
    ≡ []
unfolding clap_on_literals
quiet_named = refl

-- what these lines name
out_found : option_map (λ n. out_and_libraries n.1)
    (named_in (codes "pslink" ∷ codes "link" ∷ codes "-o" ∷ codes "out" ∷ codes "host" ∷ []))
    ≡ Some (Some (codes "out", []))
unfolding clap_on_literals
out_found = refl

by_option_found : option_map (λ n. has_output n.1)
    (named_in (codes "pslink" ∷ codes "link" ∷ codes "-o" ∷ codes "out" ∷ codes "host" ∷ []))
    ≡ Some true
unfolding clap_on_literals
by_option_found = refl

map_found : option_map (λ n. map_file n.1) (named_in (codes "pslink" ∷ codes "link" ∷ codes "--map"
    ∷ codes "map" ∷ codes "host" ∷ codes "out" ∷ [])) ≡ Some (Some (codes "map"))
unfolding clap_on_literals
map_found = refl

quiet_found : option_map (λ n. is_quiet n.1) (named_in (codes "pslink" ∷ codes "link" ∷ codes "-q"
    ∷ codes "host" ∷ codes "out" ∷ [])) ≡ Some true
unfolding clap_on_literals
quiet_found = refl

-- arguments in which clap finds no fault ask for no text
pub no_text_asked : (args : List Text) → faults_in args ≡ [] → AskForText args → ⊥
no_text_asked args none asks = grind arith
