-- Small link information, on which each warning of records is found once and not found once.
use Rattle.std.specs.Prelude.{ℕ, List, [], ◌∷◌, codes}
use Rattle.ps_linkinfo.specs.declared.record.Body.{Body}
use Rattle.ps_linkinfo.specs.declared.record.Body.TheVariants.{PublDef, PublRef, PrivRef, Eof}
use Rattle.ps_linkinfo.specs.declared.record.LinkRecord.{LinkRecord as Record}

abbrev pub count : List ℕ
count = codes "COUNT   "

-- a record of this name
abbrev pub of_count : Body → Record
of_count body = record { name = count; body = body }

-- a host that defines the variable at this base offset and has this end mark, and one of which the end
-- mark is not read
abbrev pub defining : ℕ → ℕ → List Record
defining value next = of_count (PublDef value) ∷ of_count (Eof next) ∷ []

abbrev pub cut_after : ℕ → List Record
cut_after value = of_count (PublDef value) ∷ []

-- a host that defines nothing and has this end mark, and one of which no record can be read
abbrev pub defining_none : ℕ → List Record
defining_none next = of_count (Eof next) ∷ []

abbrev pub no_records : List Record
no_records = []

-- a unit that refers to the variable at byte 1, and one that defines it too
abbrev pub referring : List Record
referring = of_count (PublRef (1 ∷ [])) ∷ of_count (Eof 0) ∷ []

abbrev pub owning : List Record
owning = of_count (PublDef 1) ∷ referring

-- a unit with a private variable of so many words, at byte 1
abbrev pub having : ℕ → List Record
having words = of_count (PrivRef words (1 ∷ [])) ∷ of_count (Eof 0) ∷ []

-- a code whose operand at byte 1 has this displacement, below 256
abbrev pub with_operand : ℕ → List ℕ
with_operand displacement = 165 ∷ 128 ∷ displacement ∷ []
