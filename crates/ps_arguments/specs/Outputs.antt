-- The flags that are given for a command, and what those of a link ask it to write and to print.
use Rattle.std.specs.Prelude.{Bool, List, codes, false, is_some, true}
use Rattle.std.specs.Option.{option_map_or}
use Rattle.std.specs.Str.{bytes_eq}
use Rattle.clap.specs.Words.{Row, Text, first_of}
use Rattle.ps_writing.specs.declared.rows.Form.{Form}
use Rattle.ps_writing.specs.declared.rows.Form.TheVariants.{Lines, Json}
use Rattle.ps_arguments.specs.declared.outputs.LinkOptions.{LinkOptions}
use Rattle.ps_arguments.specs.declared.outputs.MapContent.{MapContent}
use Rattle.ps_arguments.specs.declared.outputs.MapContent.TheVariants as content
use Rattle.ps_arguments.specs.declared.outputs.OutBy.{OutBy}
use Rattle.ps_arguments.specs.declared.outputs.OutBy.TheVariants as named_by
use Rattle.ps_arguments.specs.declared.outputs.Telling.{Telling}
use Rattle.ps_arguments.specs.declared.outputs.Telling.TheVariants as tells

-- the flag of this name is given
abbrev pub has_flag : Text → List Row → Bool
has_flag name rows = option_map_or (λ value. bytes_eq value (codes "true"))
    (first_of name rows) false

-- the flags `--strict`, `--unit`, `--references` and `--json` are given
abbrev pub is_strict : List Row → Bool
is_strict rows = has_flag (codes "strict") rows

abbrev pub is_unit : List Row → Bool
is_unit rows = has_flag (codes "unit") rows

abbrev pub has_references : List Row → Bool
has_references rows = has_flag (codes "references") rows

abbrev pub is_json : List Row → Bool
is_json rows = has_flag (codes "json") rows

-- `--quiet`
abbrev pub is_quiet : List Row → Bool
is_quiet rows = has_flag (codes "quiet") rows

-- OUT is named by its option
abbrev pub has_output : List Row → Bool
has_output rows = is_some (first_of (codes "OUT") rows)

-- lines, or a document
abbrev pub form_of : Bool → Form
form_of false = Lines
form_of true = Json

-- OUT is named by its option, or by its place after the host
abbrev pub out_by : Bool → OutBy
out_by false = named_by.Place
out_by true = named_by.Option

-- what the map of a link has
abbrev pub map_content : Bool → MapContent
map_content false = content.Places
map_content true = content.References

-- what a link prints, which is quiet or not
abbrev pub telling : Bool → Telling
telling false = tells.Summary
telling true = tells.Nothing

-- what the options of a link ask for, beside paths
abbrev pub link_options : List Row → LinkOptions
link_options rows = record {
  named = out_by (has_output rows);
  content = map_content (has_references rows);
  form = form_of (is_json rows);
  telling = telling (is_quiet rows);
}
