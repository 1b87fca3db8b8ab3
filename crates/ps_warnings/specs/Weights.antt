-- How much a finding weighs, and the word for a weight.
use Rattle.std.specs.Prelude.{ℕ, List, codes, Bool, true, false}
use Rattle.ps_warnings.specs.declared.finding.DictionaryFinding.TheVariants as dictionary
use Rattle.ps_warnings.specs.declared.finding.FileFinding.TheVariants as file
use Rattle.ps_warnings.specs.declared.finding.Finding.{Finding}
use Rattle.ps_warnings.specs.declared.finding.Finding.TheVariants as finding
use Rattle.ps_warnings.specs.declared.finding.RecordFinding.TheVariants as rec
use Rattle.ps_warnings.specs.declared.weight.Weight.{Weight}
use Rattle.ps_warnings.specs.declared.weight.Weight.TheVariants.{Warning, Harmless, Note}

-- the word that a weight is printed as
abbrev pub weight_word : Weight → List ℕ
weight_word Warning = codes "warning"
weight_word Harmless = codes "harmless"
weight_word Note = codes "note"

-- How much a finding weighs: of the subjects that have definitions, entries, records and the link, a
-- finding is certain, and a warning but for a unit's definition that has no effect. Each other one is a
-- note, but for bytes that pad a file, and an intrinsic unit of Apple Pascal or a set of them.
abbrev pub weight_of : Finding → Weight
weight_of (finding.Record (rec.UnitDefinition name)) = Harmless
weight_of (finding.Record f) = Warning
weight_of (finding.Entry f) = Warning
weight_of (finding.Link f) = Warning
weight_of (finding.File (file.Padded bytes)) = Harmless
weight_of (finding.Dictionary (dictionary.IntrinsicKind slot kind)) = Harmless
weight_of (finding.Dictionary dictionary.IntrinsicSet) = Harmless
weight_of other = Note

-- a warning: it is certain, and the link is another one by it
abbrev pub is_certain_weight : Weight → Bool
is_certain_weight Warning = true
is_certain_weight Harmless = false
is_certain_weight Note = false

abbrev pub is_certain : Finding → Bool
is_certain f = is_certain_weight (weight_of f)
