-- The texts that there are, by their numbers.
use Rattle.std.specs.Prelude.{ℕ, ◌==◌, ◌-◌, if◌then◌else◌, nat_lt, Option, Some, None}
use Rattle.ps_writing.specs.declared.rows.Form.{Form}
use Rattle.ps_writing.specs.declared.rows.Form.TheVariants as form
use Rattle.ps_listing.specs.declared.lists.ListForm.{ListForm}
use Rattle.ps_listing.specs.declared.lists.ListForm.TheVariants as list
use Rattle.ps_texts.specs.declared.kinds.HostText.TheVariants as of_host
use Rattle.ps_texts.specs.declared.kinds.LinkText.TheVariants as of_link
use Rattle.ps_texts.specs.declared.kinds.NamedText.TheVariants as of_named
use Rattle.ps_texts.specs.declared.kinds.ReportText.{ReportText}
use Rattle.ps_texts.specs.declared.kinds.ReportText.TheVariants as of_report
use Rattle.ps_texts.specs.declared.kinds.TextKind.{TextKind}
use Rattle.ps_texts.specs.declared.kinds.TextKind.TheVariants as kind
use Rattle.ps_c_texts.specs.declared.kinds.TheConstants.{JSON, TEXT_CHECK, TEXT_FINDINGS, TEXT_HAD, TEXT_LIST, TEXT_MAP, TEXT_REFERENCES, TEXT_SHOW, TEXT_TYPE, TEXT_UNITS, TEXT_WANTED}

-- how files are listed in this form
abbrev pub list_in : Form → ListForm
list_in form.Lines = list.Lines
list_in form.Json = list.Json

-- how files with their units are listed in this form
abbrev pub units_in : Form → ListForm
units_in form.Lines = list.Units
units_in form.Json = list.JsonUnits

-- the text of this number in this form, of those that have a document
abbrev pub kind_in : ℕ → Form → Option TextKind
kind_in what how =
    if what == TEXT_MAP then Some (kind.OfLink of_link.Map how)
    else if what == TEXT_REFERENCES then Some (kind.OfLink of_link.References how)
    else if what == TEXT_SHOW then Some (kind.OfHost (of_host.Show how))
    else if what == TEXT_CHECK then Some (kind.Named (of_named.OfReport of_report.Whole how))
    else if what == TEXT_LIST then Some (kind.Named (of_named.List (list_in how)))
    else if what == TEXT_UNITS then Some (kind.Named (of_named.List (units_in how)))
    else if what == TEXT_FINDINGS then Some (kind.Named (of_named.OfReport of_report.Findings how))
    else None

-- the text of this number, to which `JSON` is added for a document
abbrev pub text_kind : ℕ → Option TextKind
text_kind what =
    if what == TEXT_WANTED then Some kind.Wanted
    else if what == TEXT_HAD then Some (kind.OfHost of_host.Had)
    else if what == TEXT_TYPE then Some (kind.OfHost of_host.CodeType)
    else if nat_lt what JSON then kind_in what form.Lines
    else kind_in (what - JSON) form.Json

-- what of a report a text is, and its form, where it is made of one
abbrev pub report_text : TextKind → Option (ReportText × Form)
report_text (kind.Named (of_named.OfReport what form)) = Some (what, form)
report_text k = None
