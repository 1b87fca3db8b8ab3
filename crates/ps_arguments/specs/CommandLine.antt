-- The command line of `pslink`, as clap's contracts see it: the commands, and the arguments of
-- each.
use Rattle.std.specs.Prelude.{◌≡◌, ◌⊎◌, Bool, List, [], ◌∷◌, Option, ℕ, fold, map, false, true, None, Some, codes}
use Rattle.std.specs.Borrow.{Bor}
pub use Rattle.clap.specs.Words.{Kinds, Row, Text}
use Rattle.clap.specs.Words.{App, Rule, app_of, fault_of, new_app, new_rule, rule_of, subcommand_of, takes, with_rule, with_subcommand}
use Rattle.clap.specs.declared.error.ErrorKind.TheVariants.{DisplayHelp, DisplayVersion}
use Rattle.clap.specs.declared.builder.Arg.{Arg}
use Rattle.clap.specs.declared.builder.ArgAction.{ArgAction}
use Rattle.clap.specs.declared.builder.ArgAction.TheVariants.{Set, SetTrue, Append}
use Rattle.clap.specs.declared.builder.Command.{Command}
use Rattle.clap.specs.declared.Command.TheViews.{out-Command}
use Rattle.ps_arguments.specs.declared.command_line.Argument.{Argument}
use Rattle.ps_arguments.specs.declared.command_line.Argument.TheVariants as argument
use Rattle.ps_arguments.specs.declared.command_line.CommandForm.{CommandForm}
use Rattle.ps_arguments.specs.declared.command_line.CommandName.{CommandName}
use Rattle.ps_arguments.specs.declared.command_line.CommandName.TheVariants as command

-- a file that has to be named; with `Append` more of them may be
abbrev pub file_rule : Text → ArgAction → Rule
file_rule id action = record (new_rule id) { required = true; action = Some action }

-- libraries, as many as are named
abbrev pub libraries_rule : Rule
libraries_rule = record (new_rule (codes "LIB")) { action = Some Append }

-- an option with the letter that it has, if any
abbrev pub lettered : Option ℕ → Rule → Rule
lettered None rule = rule
lettered (Some letter) rule = record rule { short = Some letter }

-- `--NAME`, without a value
abbrev pub flag_rule : Text → Option ℕ → Rule
flag_rule id letter = lettered letter (record (new_rule id) {
  long = Some id;
  action = Some SetTrue;
})

-- `--NAME ID`
abbrev pub value_rule : Text → Text → Option ℕ → Rule
value_rule id name letter = lettered letter (record (new_rule id) {
  long = Some name;
  action = Some Set;
})

-- a command that takes a host and libraries, as `NAME HOST [LIB]...`
abbrev pub inputs_app : Text → App
inputs_app name = with_rule (with_rule (new_app name) (file_rule (codes "HOST") Set)) libraries_rule

-- `--json`
abbrev pub json_rule : Rule
json_rule = flag_rule (codes "json") None

-- `link [--output OUT] [--map FILE] [--references] [--json] [--quiet] HOST [LIB]...`, with the
-- letters `o` for OUT and `q` for `--quiet`
abbrev pub link_app : App
link_app = with_rule (with_rule (with_rule (with_rule (with_rule (inputs_app (codes "link"))
    (value_rule (codes "OUT") (codes "output") (Some 111)))
    (value_rule (codes "FILE") (codes "map") None)) (flag_rule (codes "references") None)) json_rule)
    (flag_rule (codes "quiet") (Some 113))

-- `map [--references] [--json] HOST [LIB]...`
abbrev pub map_app : App
map_app = with_rule (with_rule (inputs_app (codes "map")) (flag_rule (codes "references") None))
    json_rule

-- `show [--json] FILE`
abbrev pub show_app : App
show_app = with_rule (with_rule (new_app (codes "show")) (file_rule (codes "FILE") Set))
    json_rule

-- `check [--strict] [--unit] [--json] HOST [LIB]...`
abbrev pub check_app : App
check_app = with_rule (with_rule (with_rule (inputs_app (codes "check"))
    (flag_rule (codes "strict") None)) (flag_rule (codes "unit") None)) json_rule

-- `list [--json] FILE...`
abbrev pub list_app : App
list_app = with_rule (with_rule (new_app (codes "list")) (file_rule (codes "FILE") Append))
    json_rule

-- `pslink`, of which a command is required
abbrev pub bare_app : App
bare_app = record (new_app (codes "pslink")) {
  top = record (new_app (codes "pslink")).top { has_version = true; subcommand_required = true };
}

-- `pslink` with its five commands
abbrev pub pslink_app : App
pslink_app = with_subcommand (with_subcommand
    (with_subcommand (with_subcommand (with_subcommand bare_app link_app.top) map_app.top)
    show_app.top) check_app.top) list_app.top

-- files, of which one has to be named or not
abbrev pub files_rule : Text → ArgAction → Bool → Rule
files_rule id action required =
    record (new_rule id) { required = required; action = Some action }

-- an argument of a row of the table
abbrev pub rule_in : Argument → Rule
rule_in (argument.File name help) = files_rule name.now Set true
rule_in (argument.Files name help) = files_rule name.now Append true
rule_in (argument.AnyFiles name help) = files_rule name.now Append false
rule_in (argument.Flag name help) = flag_rule name.now None
rule_in (argument.LetteredFlag name letter help) = flag_rule name.now (Some letter)
rule_in (argument.Value id name help) = value_rule id.now name.now None
rule_in (argument.LetteredValue id name letter help) = value_rule id.now name.now (Some letter)

-- a command with the argument of a row too
abbrev pub with_argument : App → Argument → App
with_argument app argument = with_rule app (rule_in argument)

-- the command of a row
abbrev pub app_in : CommandForm → App
app_in form = fold with_argument (new_app form.name.now) form.arguments.now

-- a program with the command of a row too
abbrev pub with_form : App → CommandForm → App
with_form app form = with_subcommand app (app_in form).top

-- the command is this one, of which no argument is one of its commands too
abbrev pub IsMade : App → Command → Type 0
IsMade app c = (app_of c ≡ app) × ((out-Command c).has_globals ≡ false)

-- the argument has this rule, and is its command's alone
abbrev pub IsArgument : Rule → Arg → Type 0
IsArgument rule a = (rule_of a ≡ rule) × (a.global ≡ false)

-- the texts of arguments
abbrev pub texts : List (Bor Text) → List Text
texts args = map (λ arg. arg.now) args

-- clap accepts these arguments
abbrev pub AreAccepted : List Text → Type 0
AreAccepted args = takes pslink_app args ≡ true

-- the command that arguments name, and what is named for it
abbrev pub named_in : List Text → Option (Text × List Row)
named_in args = subcommand_of pslink_app args

-- why clap gives no matches for arguments: the kinds of error that it may answer, none where it
-- gives them; to be asked for the help or for the version is one of these kinds
abbrev pub faults_in : List Text → Kinds
faults_in args = fault_of pslink_app args

-- the help is asked for, or the version
abbrev pub AskForText : List Text → Type 0
AskForText args = (faults_in args ≡ DisplayHelp ∷ [])
    ⊎ (faults_in args ≡ DisplayVersion ∷ [])

-- the name of a command
abbrev pub name_of : CommandName → Text
name_of command.Link = codes "link"
name_of command.Map = codes "map"
name_of command.Show = codes "show"
name_of command.Check = codes "check"
name_of command.List = codes "list"
name_of command.Help = codes "help"
