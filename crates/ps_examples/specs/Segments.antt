-- The segments of the host and the library, as they were read.
-- Source: this project's examples.
use Rattle.std.specs.Prelude.{ℕ, List, [], ◌∷◌, false, true, None}
use Rattle.ps_codefile.specs.declared.entry.Role.TheVariants.{Host, Wanted, Plain}
use Rattle.ps_linkinfo.specs.declared.record.Body.TheVariants.{UnitRef, PublRef, PrivRef, PublDef, ConstDef, Eof}
use Rattle.ps_linkinfo.specs.declared.record.LinkRecord.{LinkRecord as Record}
use Rattle.ps_resolve.specs.Sources.{Segment, tables_of}
use Rattle.ps_resolve.specs.LinkedBytes.{segments_of}
use Rattle.ps_examples.specs.Files.{host, library, library_of_used, host_with_tools, put_at, blank_name, demo, util, aux, tools, count, state, nobody, demo_code, util_code, aux_code, util_information}
use Rattle.ps_words.specs.declared.order.Order.TheVariants.{Little}

-- a PUBLREF of COUNT with an operand at 1; UTIL has it, and the two records below
abbrev pub count_reference : Record
count_reference = record { name = count; body = PublRef (1 ∷ []) }

-- a PRIVREF of STATE, of four words, with an operand at 4
abbrev pub state_reference : Record
state_reference = record { name = state; body = PrivRef 4 (4 ∷ []) }

-- the EOFMARK of UTIL
abbrev pub end_mark : Record
end_mark = record { name = blank_name; body = Eof 0 }

-- UTIL as it is read for slot 7, from entry 2 of file 1
abbrev pub util_segment : Segment
util_segment = record {
  slot = 7;
  name = util;
  role = Wanted;
  added = false;
  file = 1;
  index = 2;
  code = util_code Little;
  tables = tables_of Little (util_code Little) true;
  block = 2;
  records = count_reference ∷ state_reference ∷ end_mark ∷ [];
}

-- the host segment, which defines COUNT as 3, and whose next free base offset is 8
abbrev pub demo_segment : Segment
demo_segment = record {
  slot = 1;
  name = demo;
  role = Host;
  added = false;
  file = 0;
  index = 1;
  code = demo_code Little;
  tables = tables_of Little (demo_code Little) true;
  block = 2;
  records = record { name = count; body = PublDef 3 } ∷ record { name = blank_name; body = Eof 8 }
      ∷ [];
}

-- the segments of their link
abbrev pub pair : List Segment
pair = segments_of host (library ∷ [])

-- a UNITREF of AUX with an operand at 2
abbrev pub aux_reference : Record
aux_reference = record { name = aux; body = UnitRef (2 ∷ []) }

-- UTIL that references AUX alone
abbrev pub using_segment : Segment
using_segment = record util_segment { records = aux_reference ∷ end_mark ∷ [] }

-- AUX as it is read for slot 8, from entry 3 of file 1
abbrev pub aux_segment : Segment
aux_segment = record {
  slot = 8;
  name = aux;
  role = Wanted;
  added = true;
  file = 1;
  index = 3;
  code = aux_code;
  tables = tables_of Little aux_code true;
  block = 4;
  records = count_reference ∷ state_reference ∷ end_mark ∷ [];
}

-- AUX that references itself
abbrev pub self_segment : Segment
self_segment = record aux_segment { records = aux_reference ∷ [] }

-- AUX under a name that no record requests
abbrev pub nobody_segment : Segment
nobody_segment = record aux_segment { name = nobody }

-- a unit of the name COUNT
abbrev pub count_segment : Segment
count_segment = record aux_segment { name = count; records = [] }

-- the segments of a link whose unit references AUX, which is added
abbrev pub three : List Segment
three = segments_of host (library_of_used (util_information Little) ∷ [])

-- the plain segment TOOLS, in slot 8, of which no records are read
abbrev pub tools_segment : Segment
tools_segment = record {
  slot = 8;
  name = tools;
  role = Plain;
  added = false;
  file = 0;
  index = 8;
  code = 1 ∷ 2 ∷ 3 ∷ 4 ∷ 5 ∷ [];
  tables = None;
  block = 0;
  records = [];
}

-- the segments of a link whose host has the plain segment TOOLS
abbrev pub with_plain : List Segment
with_plain = segments_of host_with_tools (library ∷ [])

-- AUX past the slot that is empty
abbrev pub past_segment : Segment
past_segment = record aux_segment { slot = 9 }

-- the library, whose UTIL has displacement 256 in its operand at 1
abbrev pub displaced_library : List ℕ
displaced_library = put_at 513 (129 ∷ []) library

-- UTIL as it is read from there
abbrev pub displaced_segment : Segment
displaced_segment =
    let code = put_at 1 (129 ∷ []) (util_code Little) in
    record util_segment { code = code; tables = tables_of Little code true }

-- the segments of a link with it
abbrev pub displaced_pair : List Segment
displaced_pair = segments_of host (displaced_library ∷ [])

-- UTIL with two records whose operands overlap at 2
abbrev pub meeting_segment : Segment
meeting_segment = record util_segment { records = count_reference ∷ aux_reference ∷ [] }

-- UTIL with one record, two operands of which overlap
abbrev pub twice_segment : Segment
twice_segment = record util_segment {
  records =
      record { name = count; body = PublRef (1 ∷ 2 ∷ []) } ∷ [];
}

-- UTIL with an operand at its segment number
abbrev pub numbered_segment : Segment
numbered_segment = record util_segment {
  records =
      record { name = aux; body = UnitRef (22 ∷ []) } ∷ [];
}

-- the host segment with an operand at its data size
abbrev pub sized_segment : Segment
sized_segment = record demo_segment {
  records =
      record { name = count; body = PublRef (4 ∷ []) } ∷ [];
}

-- the host segment with COUNT as a constant
abbrev pub with_constant : List Segment
with_constant = record demo_segment { records = record { name = count; body = ConstDef 3 } ∷ [] }
    ∷ []

-- UTIL with a definition of STATE, which nothing uses
abbrev pub with_unused : List Segment
with_unused = demo_segment ∷ record util_segment
    { records = record { name = state; body = PublDef 9 } ∷ [] } ∷ []
