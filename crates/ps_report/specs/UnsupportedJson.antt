-- The records that are not linked, as JSON.
-- Source: RFC 8259; which members there are is this project's profile.
use Rattle.std.specs.Prelude.{ℕ, ◌==◌, List, ◌++◌, codes}
use Rattle.std.specs.List.{enumerate_from, flat_map}
use Rattle.ps_writing.specs.FaultJson.{number_or_null}
use Rattle.ps_writing.specs.JsonStrings.{json_text, name_or_null}
use Rattle.ps_writing.specs.JsonText.{comma_unless, json_name}
use Rattle.ps_explained.specs.declared.unsupported.UnsupportedRecord.{UnsupportedRecord}

-- `{"path":"UTIL.CODE","segment":{"name":"UTIL    ","name_hex":"5554494C20202020"},"record":1,
-- "kind":"EXTPROC","format":null,"name":"FWRITERE","name_hex":"4657524954455245"}` on a line of its
-- own: the item of a record that is not linked, and what is before it
unfoldable pub unsupported_item : ℕ × UnsupportedRecord → List ℕ
unsupported_item p = comma_unless (p.0 == 0) ++ codes "\n{\"path\":\""
    ++ json_text p.1.place.path.now
    ++ codes "\",\"segment\":" ++ name_or_null p.1.place.segment
    ++ (codes ",\"record\":" ++ number_or_null p.1.place.rec)
    ++ codes ",\"kind\":\"" ++ p.1.kind.now
    ++ (codes "\",\"format\":" ++ number_or_null p.1.format)
    ++ codes "," ++ json_name p.1.name ++ codes "}"

-- the items of records that are not linked, in order
abbrev pub unsupported_items : List UnsupportedRecord → List ℕ
unsupported_items records = flat_map unsupported_item (enumerate_from 0 records)

-- the list of them
unfoldable pub unsupported_json : List UnsupportedRecord → List ℕ
unsupported_json records = codes "\"unsupported\":[" ++ unsupported_items records ++ codes "\n]"
