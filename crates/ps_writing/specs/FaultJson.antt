-- A fault in a JSON document, with the name of what it is about.
-- Source: RFC 8259; which members there are is this project's profile.
use Rattle.std.specs.Prelude.{ℕ, List, ◌++◌, Option, Some, None, codes, decimal}
use Rattle.ps_words.specs.FaultText.{kind_of, name_of, number_of}
use Rattle.ps_words.specs.declared.fault.Fault.{Fault}
use Rattle.ps_words.specs.declared.fault.Reason.{Reason}
use Rattle.ps_writing.specs.JsonStrings.{name_members}

-- a number, or `null` where there is none
abbrev pub number_or_null : Option ℕ → List ℕ
number_or_null None = codes "null"
number_or_null (Some n) = decimal n

-- `"number":13,"reason":"MissingUnit","kind":null`
unfoldable pub reason_members : Reason → List ℕ
reason_members why = codes "\"number\":" ++ decimal (number_of why) ++ codes ",\"reason\":\""
    ++ name_of why ++ (codes "\",\"kind\":" ++ number_or_null (kind_of why))

-- `,"file":0,"slot":7,"record":null,"reference":null`
unfoldable pub place_members : Fault → List ℕ
place_members f = codes ",\"file\":" ++ decimal f.file
    ++ (codes ",\"slot\":" ++ number_or_null f.slot)
    ++ (codes ",\"record\":" ++ number_or_null f.rec)
    ++ (codes ",\"reference\":" ++ number_or_null f.reference)

-- `{"number":13,"reason":"MissingUnit","kind":null,"file":0,"slot":7,"record":null,
-- "reference":null,"name":"UTIL    ","name_hex":"5554494C20202020"}`: a fault, with the name of
-- what it is about
unfoldable pub fault_json : Option (List ℕ) → Fault → List ℕ
fault_json name f = codes "{" ++ reason_members f.reason ++ place_members f
    ++ codes "," ++ name_members name ++ codes "}"
