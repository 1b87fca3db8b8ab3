-- What a check warns of, in the words of the pages: of records and of bytes of a file, and not by the
-- steps of a search.
use Rattle.std.specs.Prelude.{◌≡◌, ◌≢◌, ◌⊎◌, ◌==◌, ◌||◌, not, ℕ, ◌+◌, ◌<◌, ◌≤◌, Bool, true, false, List, [], ◌∷◌, drop, length, slice_get, slice_index, Option, Some}
use Rattle.std.specs.Char.{to_ascii_uppercase}
use Rattle.std.specs.List.{list_all}
use Rattle.ps_words.specs.Words.{displacement_at}
use Rattle.ps_codefile.specs.Dictionary.{is_nameless}
use Rattle.ps_codefile.specs.declared.entry.Entry.{Entry}
use Rattle.ps_filetype.specs.Names.{is_padding}
use Rattle.ps_linkinfo.specs.Records.{is_eof}
use Rattle.ps_linkinfo.specs.declared.record.Body.TheVariants.{PublDef, ConstDef, PublRef, PrivRef, Eof}
use Rattle.ps_linkinfo.specs.declared.record.LinkRecord.{LinkRecord as Record}
use Rattle.ps_warnings.specs.declared.finding.Finding.{Finding}
use Rattle.ps_warnings.specs.declared.findings.extents.Extent.{Extent}

-- the first end mark of these records says this base offset
abbrev pub IsEndMark : List Record → ℕ → Type 0
IsEndMark [] next = ⊥
IsEndMark (r ∷ rs) next = (r.body ≡ Eof next) ⊎ ((is_eof r ≡ false) × IsEndMark rs next)

-- something is found, of record i or of one before it
abbrev pub IsFoundUpTo : Option (ℕ × Finding) → ℕ → Type 0
IsFoundUpTo found i = (j : ℕ) × (f : Finding) × (found ≡ Some (j, f)) × (j ≤ i)

-- record i is a PUBLDEF of the name above the end mark
abbrev pub IsHigh : List Record → ℕ → List ℕ → ℕ → ℕ → Type 0
IsHigh rs i name value next = (r : Record) × (slice_get rs i ≡ Some r) × (r.name ≡ name)
    × (r.body ≡ PublDef value) × (next < value)

-- reference k of record i is an operand with a displacement outside its private variable; word 0 of a
-- variable of no words is none
abbrev pub IsPast : List ℕ → List Record → ℕ → ℕ → ℕ → ℕ → Type 0
IsPast code rs i place displacement words = (r : Record) × (refs : List ℕ) × (k : ℕ)
    × (slice_get rs i ≡ Some r) × (r.body ≡ PrivRef words refs) × (slice_get refs k ≡ Some place)
    × (place + 1 < length code) × (displacement_at code place ≡ displacement)
    × (words ≤ displacement) × (words + displacement ≢ 0)

-- the record defines the name: a variable or a constant
abbrev pub IsDefinition : Record → List ℕ → Type 0
IsDefinition r name = (r.name ≡ name)
    × ((value : ℕ) × ((r.body ≡ PublDef value) ⊎ (r.body ≡ ConstDef value)))

-- some record defines the name
abbrev pub HasDefinition : List Record → List ℕ → Type 0
HasDefinition rs name = (j : ℕ) × (r : Record) × (slice_get rs j ≡ Some r) × IsDefinition r name

-- some record refers to the name
abbrev pub Refers : List Record → List ℕ → Type 0
Refers rs name = (j : ℕ) × (r : Record) × (refs : List ℕ) × (slice_get rs j ≡ Some r)
    × (r.name ≡ name) × (r.body ≡ PublRef refs)

-- the first record that defines the name is a PUBLDEF with this value
abbrev pub HasPublicValue : List Record → List ℕ → ℕ → Type 0
HasPublicValue [] name value = ⊥
HasPublicValue (r ∷ rs) name value = ((r.name ≡ name) × (r.body ≡ PublDef value))
    ⊎ ((IsDefinition r name → ⊥) × HasPublicValue rs name value)

-- reference k of record i is an operand that leads to the end mark of the host or past it, from a
-- public variable that begins below it or at it; word 0 of a variable at the end mark is none
abbrev pub IsPastMark : List ℕ → List Record → List Record → ℕ → ℕ → List ℕ → ℕ → ℕ → ℕ → Type 0
IsPastMark code host rs i place name displacement value next = (r : Record) × (refs : List ℕ)
    × (k : ℕ) × (slice_get rs i ≡ Some r) × (r.name ≡ name) × (r.body ≡ PublRef refs)
    × (slice_get refs k ≡ Some place) × (place + 1 < length code)
    × (displacement_at code place ≡ displacement) × IsEndMark host next × HasPublicValue host name value
    × (value ≤ next) × (next ≤ value + displacement)
    × ((value ≡ next) → (displacement ≢ 0))

-- record i is a PUBLDEF of the name
abbrev pub IsVariable : List Record → ℕ → List ℕ → Type 0
IsVariable rs i name = (r : Record) × (value : ℕ) × (slice_get rs i ≡ Some r) × (r.name ≡ name)
    × (r.body ≡ PublDef value)

-- record i is a PUBLDEF of the name in a unit that refers to it, of which the host, whose end mark is
-- read, has no definition
abbrev pub IsOwnDefinition : List Record → List Record → ℕ → List ℕ → Type 0
IsOwnDefinition host rs i name = (r : Record) × (value : ℕ) × (next : ℕ) × (slice_get rs i ≡ Some r)
    × (r.name ≡ name) × (r.body ≡ PublDef value) × Refers rs name × IsEndMark host next
    × (HasDefinition host name → ⊥)

-- the two have a byte of the file in common
abbrev pub ShareByte : Extent → Extent → Type 0
ShareByte e o = (p : ℕ) × (o.start ≤ p) × (p < o.end) × (e.start ≤ p) × (p < e.end)

-- kinds that a compiler leaves in empty slots that have no name
abbrev pub is_left_empty : ℕ → Bool
is_left_empty kind = kind == 0 || kind == 2 || kind == 3 || kind == 4

-- the entry has a name, or a kind that no entry without a name has
abbrev pub names_segment : Entry → Bool
names_segment e = not (is_nameless e.name) || not (is_left_empty e.kind)

-- two names of eight bytes differ in capitals A to Z or in padding alone: at each place they have one
-- letter, a capital or a small one, or both have padding from there on
abbrev pub IsRespelled : List ℕ → List ℕ → Type 0
IsRespelled a b = (a ≢ b) × ((i : ℕ) → i < 8
    → (to_ascii_uppercase (slice_index a i) ≡ to_ascii_uppercase (slice_index b i))
    ⊎ ((list_all is_padding (drop i a) ≡ true) × (list_all is_padding (drop i b) ≡ true)))
