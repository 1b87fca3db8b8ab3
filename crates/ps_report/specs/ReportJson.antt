-- The report of a check as JSON.
-- Source: RFC 8259; which members there are is this project's profile.
use Rattle.std.specs.Prelude.{ℕ, ◌==◌, List, ◌++◌, Option, Some, codes, decimal}
use Rattle.std.specs.List.{enumerate_from, flat_map}
use Rattle.ps_writing.specs.FaultJson.{fault_json, number_or_null}
use Rattle.ps_writing.specs.JsonStrings.{json_text, name_or_null}
use Rattle.ps_writing.specs.JsonText.{comma_unless}
use Rattle.ps_warnings.specs.Weights.{weight_of, weight_word}
use Rattle.ps_warnings.specs.declared.references.SegmentReferences.{SegmentReferences}
use Rattle.ps_report.specs.Reported.{Reported, Said}
use Rattle.ps_report.specs.UnsupportedJson.{unsupported_json}
use Rattle.ps_report.specs.declared.verdict.Verdict.{Verdict}
use Rattle.ps_report.specs.declared.verdict.Verdict.TheVariants.{Links, Refused}

-- `{"links":true,"segments":2,"private_words":4,"blocks":3,"fault":null`, or of files that are
-- refused `{"links":false,"fault":` and the fault, with the name of what it is about
abbrev pub verdict_json : Option (List ℕ) → Verdict → List ℕ
verdict_json name (Links s) =
    codes "{\"links\":true,\"segments\":" ++ decimal s.segments
    ++ (codes ",\"private_words\":" ++ decimal s.private_words)
    ++ (codes ",\"blocks\":" ++ decimal s.blocks) ++ codes ",\"fault\":null"
verdict_json name (Refused f) = codes "{\"links\":false,\"fault\":" ++ fault_json name f

-- `{"weight":"warning","path":"UTIL.CODE","segment":{"name":"UTIL    ",
-- "name_hex":"5554494C20202020"},"record":1,"text":".."}` on a line of its own: the item of a finding
unfoldable pub finding_json : Said → List ℕ
finding_json f =
    codes "\n{\"weight\":\"" ++ weight_word (weight_of f.at.finding)
    ++ codes "\",\"path\":\"" ++ json_text f.at.place.path.now
    ++ codes "\",\"segment\":" ++ name_or_null f.at.place.segment
    ++ (codes ",\"record\":" ++ number_or_null f.at.place.rec)
    ++ codes ",\"text\":\"" ++ json_text f.words ++ codes "\"}"

-- the item of this index, and what is before it
abbrev pub item_json : ℕ × Said → List ℕ
item_json p = comma_unless (p.0 == 0) ++ finding_json p.1

-- the items of findings, in order
abbrev pub items_json : List Said → List ℕ
items_json found = flat_map item_json (enumerate_from 0 found)

-- the list of findings
unfoldable pub list_json : List Said → List ℕ
list_json found = codes "\"findings\":[" ++ items_json found ++ codes "\n]"

-- `{"path":"UTIL.CODE","segment":{..},"references":2,"operands":2,"zeros":1}` on a line of its own:
-- how the references of a segment lead to operands
unfoldable pub segment_json : SegmentReferences → List ℕ
segment_json s =
    codes "\n{\"path\":\"" ++ json_text s.path.now
    ++ codes "\",\"segment\":" ++ name_or_null (Some s.segment)
    ++ (codes ",\"references\":" ++ decimal s.references)
    ++ (codes ",\"operands\":" ++ decimal s.operands)
    ++ (codes ",\"zeros\":" ++ decimal s.zeros) ++ codes "}"

-- the item of this index, and what is before it
abbrev pub segment_item_json : ℕ × SegmentReferences → List ℕ
segment_item_json p = comma_unless (p.0 == 0) ++ segment_json p.1

-- the items of segments, in order
abbrev pub segment_items_json : List SegmentReferences → List ℕ
segment_items_json segments = flat_map segment_item_json (enumerate_from 0 segments)

-- the list of segments whose references were counted
unfoldable pub references_json : List SegmentReferences → List ℕ
references_json segments =
    codes ",\"references\":[" ++ segment_items_json segments ++ codes "\n]"

-- the document of a report
unfoldable pub report_json : Reported → List ℕ
report_json r = verdict_json r.name r.verdict ++ codes "," ++ list_json r.findings
    ++ codes "," ++ unsupported_json r.unsupported ++ references_json r.references
    ++ codes ",\"report\":\"" ++ json_text r.text ++ codes "\"}\n"

-- the document of the findings alone
unfoldable pub findings_json : List Said → List ℕ
findings_json found = codes "{" ++ list_json found ++ codes "}\n"
