-- What the definitions of the warnings compute of public variables is what the pages say: of operands
-- that lead to the end mark, and of definitions that are missed.
use Rattle.std.proofs.Common.{◌≡◌, ◌+◌, ◌≤◌, ◌∷◌, [], ℕ, zero, suc, Bool, true, false, List, Option, Some, sym, refl, inl, inr, arith}
use Rattle.std.specs.Prelude.{◌≢◌, ◌⊎◌, ◌&&◌, is_some, length, nat_lt, not, option_and_then, slice_get, bytes_eq}
use Rattle.std.proofs.lemmas.Bool.{and_from, and_parts, both_ways, cases_Bool, false_from_ne_true, lt-ltb, ltb-true, not-true}
use Rattle.std.proofs.lemmas.Bool.Decides.{nat_tests}
use Rattle.std.proofs.lemmas.Option.{cond_some, same_Some}
use Rattle.std.proofs.lemmas.Slice.Eq.{bytes_eq-Decides}
use Rattle.ps_words.specs.Words.{displacement_at}
use Rattle.ps_linkinfo.specs.Numbered.{numbered_records}
use Rattle.ps_linkinfo.specs.RecordCounts.{is_definition, is_public_reference}
use Rattle.ps_linkinfo.specs.Sorts.{first_named, is_named, is_of_sort}
use Rattle.ps_linkinfo.specs.declared.record.Body.{Body}
use Rattle.ps_linkinfo.specs.declared.record.Body.TheVariants.{PublRef, PublDef, ConstDef}
use Rattle.ps_linkinfo.specs.declared.record.LinkRecord.{LinkRecord as Record}
use Rattle.ps_linkinfo.specs.declared.sort.Sort.{Sort}
use Rattle.ps_linkinfo.specs.declared.sort.Sort.TheVariants as sort
use Rattle.ps_resolve.specs.Searches.{first_of}
use Rattle.ps_warnings.specs.Searches.RecordFindings.{definition_as, end_mark, first_definition, first_past_mark, first_public, is_missed, is_past_mark, is_requested, missed_or_not, past_mark, public_as, public_value_in, public_value_of}
use Rattle.ps_warnings.specs.Warned.{HasDefinition, IsDefinition, IsFoundUpTo, IsOwnDefinition, IsPastMark, HasPublicValue, IsVariable, Refers}
use Rattle.ps_warnings.specs.declared.finding.Finding.{Finding}
use Rattle.ps_warnings.specs.declared.finding.Finding.TheVariants as which
use Rattle.ps_warnings.specs.declared.finding.RecordFinding.TheVariants as finding
use Rattle.ps_lists.proofs.Items.{cases, none}
use Rattle.ps_warnings.proofs.FoundFirst.{each_in, found_in}
use Rattle.ps_warnings.proofs.Warned.{end_mark_read, end_mark_there, record_each, record_found}

-- 1. a record that is named
named_parts : (name : List ℕ) (s : Sort) (r : Record) → is_named name s r ≡ true
    → (r.name ≡ name) × (is_of_sort s r.body ≡ true)
named_parts name s r h = let t = and_parts (bytes_eq name r.name) (is_of_sort s r.body) h in
    (sym ((bytes_eq-Decides name r.name).0 t.0), t.1)

parts_named : (name : List ℕ) (s : Sort) (r : Record) → r.name ≡ name
    → is_of_sort s r.body ≡ true → is_named name s r ≡ true
parts_named name s r named is = and_from (bytes_eq name r.name) (is_of_sort s r.body)
    ((bytes_eq-Decides name r.name).1 (sym named)) is

abbrev NamedIn : List ℕ → Sort → List Record → Type 0
NamedIn name s rs = (j : ℕ) × (r : Record) × (slice_get rs j ≡ Some r) × (is_named name s r ≡ true)

named_found : (name : List ℕ) (s : Sort) (k : ℕ) (rs : List Record)
    → is_some (first_named name s (numbered_records k rs)) ≡ true → NamedIn name s rs
named_found name s k [] h = absurd (cc)
named_found name s k (r ∷ rs) h = elim (cases_Bool (is_named name s r)) [
  | inl e ↦ (zero, r, refl, e)
  | inr e ↦ (let m = named_found name s (k + 1) rs (rw e at h) in (suc m.0, m.1, m.2, m.3))
]

named_each : (name : List ℕ) (s : Sort) (k : ℕ) (rs : List Record) (j : ℕ) (r : Record)
    → slice_get rs j ≡ Some r → is_named name s r ≡ true
    → is_some (first_named name s (numbered_records k rs)) ≡ true
named_each name s k [] j r at is = none r _ at
named_each name s k (z ∷ rs) zero r at is = rw (same_Some z r at, is)
named_each name s k (z ∷ rs) (suc j) r at is = elim (cases_Bool (is_named name s z)) [
  | inl e ↦ rw e
  | inr e ↦ rw e (named_each name s (k + 1) rs j r at is)
]

-- 2. what defines a name, and what refers to it
definition_body : (b : Body) → is_definition b ≡ true
    → (value : ℕ) × ((b ≡ PublDef value) ⊎ (b ≡ ConstDef value))
definition_body (PublDef v) h = (v, inl refl)
definition_body (ConstDef v) h = (v, inr refl)
definition_body other h = absurd (cc)

body_definition : (b : Body) (value : ℕ) → (b ≡ PublDef value) ⊎ (b ≡ ConstDef value)
    → is_definition b ≡ true
body_definition b value (inl e) = rw e
body_definition b value (inr e) = rw e

reference_body : (b : Body) → is_public_reference b ≡ true
    → (refs : List ℕ) × (b ≡ PublRef refs)
reference_body (PublRef refs) h = (refs, refl)
reference_body other h = absurd (cc)

is_one : (r : Record) (name : List ℕ) → is_named name sort.Definition r ≡ true
    → IsDefinition r name
is_one r name h = let t = named_parts name sort.Definition r h in
    (t.0, definition_body r.body t.1)

one_is : (r : Record) (name : List ℕ) → IsDefinition r name
    → is_named name sort.Definition r ≡ true
one_is r name (named, (value, body)) = parts_named name sort.Definition r named
    (body_definition r.body value body)

defines : (rs : List Record) (name : List ℕ) → HasDefinition rs name
    → is_some (first_named name sort.Definition (numbered_records 0 rs)) ≡ true
defines rs name (j, r, at, is) = named_each name sort.Definition 0 rs j r at (one_is r name is)

undefined : (rs : List Record) (name : List ℕ) → (HasDefinition rs name → ⊥)
    → is_some (first_named name sort.Definition (numbered_records 0 rs)) ≡ false
undefined rs name never = false_from_ne_true
    (is_some (first_named name sort.Definition (numbered_records 0 rs)))
    (λ e. let m = named_found name sort.Definition 0 rs e in
    never (m.0, m.1, m.2, is_one m.1 name m.3))

referred : (rs : List Record) (name : List ℕ) → is_requested rs name ≡ true → Refers rs name
referred rs name h = let m = named_found name sort.Request 0 rs h in
    let t = named_parts name sort.Request m.1 m.3 in
    let b = reference_body m.1.body t.1 in (m.0, m.1, b.0, m.2, t.0, b.1)

requested : (rs : List Record) (name : List ℕ) → Refers rs name
    → is_requested rs name ≡ true
requested rs name (j, r, refs, at, named, body) = named_each name sort.Request 0 rs j r at
    (parts_named name sort.Request r named (rw body))

-- 3. the base offset of a public variable
value_body : (b : Body) (value : ℕ) → public_value_in b ≡ Some value → b ≡ PublDef value
value_body (PublDef v) value h = cc
value_body other value h = none value _ h

abbrev value_from : List ℕ → ℕ → List Record → Option ℕ
value_from name k rs = option_and_then (λ (q : ℕ × Record). public_value_in q.1.body)
    (first_named name sort.Definition (numbered_records k rs))

value_found : (name : List ℕ) (k : ℕ) (rs : List Record) (value : ℕ)
    → value_from name k rs ≡ Some value → HasPublicValue rs name value
value_found name k [] value h = none value _ h
value_found name k (r ∷ rs) value h = elim (cases_Bool (is_named name sort.Definition r)) [
  | inl e ↦ inl ((is_one r name e).0, value_body r.body value (rw e at h))
  | inr e ↦ inr (
    (λ d. both_ways (is_named name sort.Definition r) e (one_is r name d)),
    value_found name (k + 1) rs value (rw e at h),
  )
]

value_each : (name : List ℕ) (k : ℕ) (rs : List Record) (value : ℕ) → HasPublicValue rs name value
    → value_from name k rs ≡ Some value
value_each name k [] value h = absurd h
value_each name k (r ∷ rs) value (inl (named, body)) =
    rw (one_is r name (named, (value, inl body)), body)
value_each name k (r ∷ rs) value (inr (other, more)) =
    rw (false_from_ne_true (is_named name sort.Definition r) (λ e. other (is_one r name e)))
    (value_each name (k + 1) rs value more)

-- 4. an operand that leads to the end mark or past it
abbrev pub MarkFound : List ℕ → List Record → List Record → ℕ → Finding → Type 0
MarkFound code host rs i f = (place : ℕ) × (name : List ℕ) × (displacement : ℕ) × (value : ℕ) × (next : ℕ) × (f ≡ which.Record (finding.PastPublic place name displacement value next))
    × IsPastMark code host rs i place name displacement value next

mark_facts : (next value displacement : ℕ) → is_past_mark next value displacement ≡ true
    → (value ≤ next) × (next ≤ value + displacement) × ((value ≡ next) → (displacement ≢ 0))
mark_facts next value displacement h = grind (arith, nat_tests)

facts_mark : (next value displacement : ℕ) → value ≤ next → next ≤ value + displacement
    → ((value ≡ next) → (displacement ≢ 0)) → is_past_mark next value displacement ≡ true
facts_mark next value displacement below far apart = grind (arith, nat_tests)

public_body : (code : List ℕ) (host : List Record) (name : List ℕ) (b : Body) (f : Finding)
    → public_as code host name b ≡ Some f
    → (refs : List ℕ) × (b ≡ PublRef refs)
    × (first_past_mark code name (end_mark host) (public_value_of host name) refs ≡ Some f)
public_body code host name (PublRef refs) f h = (refs, refl, h)
public_body code host name other f h = none f _ h

known : (code name refs : List ℕ) (f : Finding) (o v : Option ℕ)
    → first_past_mark code name o v refs ≡ Some f
    → (next : ℕ) × (value : ℕ) × (o ≡ Some next) × (v ≡ Some value)
    × (first_of (past_mark code name next value) refs ≡ Some f)
known code name refs f (Some next) (Some value) h = (next, value, refl, refl, h)
known code name refs f o v h = none f _ h

pub mark_found : (code : List ℕ) (host rs : List Record) (i : ℕ) (f : Finding)
    → first_public code (Some host) (numbered_records 0 rs) ≡ Some (i, f)
    → MarkFound code host rs i f
mark_found code host rs i f h =
    let z = record_found (λ (r : Record). public_as code host r.name r.body) rs i f h in
    let name = z.0.name in
    let b = public_body code host name z.0.body f z.2 in
    let n = known code name b.0 f (end_mark host) (public_value_of host name) b.2 in
    let p = found_in (past_mark code name n.0 n.1) b.0 f n.4 in
    let d = displacement_at code p.1 in
    let t = cond_some (nat_lt (p.1 + 1) (length code) && is_past_mark n.0 n.1 d)
    (which.Record (finding.PastPublic p.1 name d n.1 n.0)) f p.3 in
    let both = and_parts (nat_lt (p.1 + 1) (length code)) (is_past_mark n.0 n.1 d) t.0 in
    let facts = mark_facts n.0 n.1 d both.1 in
    let inside = ltb-true (p.1 + 1) (length code) both.0 in
    let m = end_mark_read host n.0 n.2 in
    let v = value_found name 0 host n.1 n.3 in (
      p.1,
      name,
      d,
      n.1,
      n.0,
      sym t.1,
      (z.0, b.0, p.0, z.1, refl, b.1, p.2, inside, refl, m, v, facts.0, facts.1, facts.2),
    )

pub mark_each : (code : List ℕ) (host rs : List Record) (i place : ℕ) (name : List ℕ)
    (displacement value next : ℕ) → IsPastMark code host rs i place name displacement value next
    → IsFoundUpTo (first_public code (Some host) (numbered_records 0 rs)) i
mark_each code host rs i place name displacement value next
    (r, refs, k, at, named, body, there, inside, is, m, v, below, far, apart) =
    record_each (λ (q : Record). public_as code host q.name q.body) rs i r at
    (rw (body, named, end_mark_there host next m, value_each name 0 host value v)
    (each_in (past_mark code name next value) refs k place there (rw (
      is,
      lt-ltb (place + 1) (length code) inside,
      facts_mark next value displacement below far apart,
    ))))

-- 5. a definition of a unit that is missed, or one that is not
abbrev pub told_as : Bool → List ℕ → Finding
told_as true name = which.Record (finding.OwnDefinition name)
told_as false name = which.Record (finding.UnitDefinition name)

abbrev pub DefinitionFound : Bool → List Record → Option (List Record) → ℕ → Finding → Type 0
DefinitionFound b rs host i f = (name : List ℕ) × (f ≡ told_as b name) × IsVariable rs i name
    × (is_missed rs host name ≡ b)

missed_is : (name : List ℕ) (b m : Bool) (f : Finding) → missed_or_not b m name ≡ Some f
    → (m ≡ b) × (f ≡ told_as b name)
missed_is name true true f h = (refl, cc)
missed_is name false false f h = (refl, cc)
missed_is name b m f h = none f _ h

some_missed : (b : Bool) (name : List ℕ) → is_some (missed_or_not b b name) ≡ true
some_missed true name = refl
some_missed false name = refl

module _ (b : Bool) (rs : List Record) (host : Option (List Record)) where
  definition_body_is : (name : List ℕ) (body : Body) (f : Finding)
      → definition_as b rs host name body ≡ Some f
      → (value : ℕ) × (body ≡ PublDef value)
      × (missed_or_not b (is_missed rs host name) name ≡ Some f)
  definition_body_is name (PublDef v) f h = (v, refl, h)
  definition_body_is name other f h = none f _ h

  pub definition_found : (i : ℕ) (f : Finding)
      → first_definition b rs host (numbered_records 0 rs) ≡ Some (i, f)
      → DefinitionFound b rs host i f
  definition_found i f h =
      let z = record_found (λ (r : Record). definition_as b rs host r.name r.body) rs i f h in
      let d = definition_body_is z.0.name z.0.body f z.2 in
      let t = missed_is z.0.name b (is_missed rs host z.0.name) f d.2 in
      (z.0.name, t.1, (z.0, d.0, z.1, refl, d.1), t.0)

  pub definition_each : (i : ℕ) (name : List ℕ) → IsVariable rs i name
      → is_missed rs host name ≡ b
      → IsFoundUpTo (first_definition b rs host (numbered_records 0 rs)) i
  definition_each i name (r, value, at, named, body) m =
      record_each (λ (q : Record). definition_as b rs host q.name q.body) rs i r at
      (rw (body, named, m) (some_missed b name))

-- 6. a definition is missed exactly where the page says so
module _ (host rs : List Record) (i : ℕ) (name : List ℕ) where
  pub own_missed : IsOwnDefinition host rs i name → is_missed rs (Some host) name ≡ true
  own_missed (r, value, next, at, named, body, refers, m, never) = rw
      (requested rs name refers, end_mark_there host next m, undefined host name never)

  pub missed_own : IsVariable rs i name → is_missed rs (Some host) name ≡ true
      → IsOwnDefinition host rs i name
  missed_own v h = elim (cases (end_mark host)) [
    | inl e ↦ (let both = and_parts (is_requested rs name) false (rw e at h) in absurd (cc))
    | inr (next, e) ↦ (let some = is_some (first_named name sort.Definition (numbered_records 0 host)) in
        let both = and_parts (is_requested rs name) (not some) (rw e at h) in (
          v.0,
          v.1,
          next,
          v.2,
          v.3,
          v.4,
          referred rs name both.0,
          end_mark_read host next e,
          λ d. both_ways some (not-true some both.1) (defines host name d),
        ))
  ]

  pub own_each : IsOwnDefinition host rs i name
      → IsFoundUpTo (first_definition true rs (Some host) (numbered_records 0 rs)) i
  own_each h = definition_each true rs (Some host) i name (h.0, h.1, h.3, h.4, h.5) (own_missed h)

pub own_found : (host rs : List Record) (i : ℕ) (f : Finding)
    → first_definition true rs (Some host) (numbered_records 0 rs) ≡ Some (i, f)
    → (name : List ℕ) × (f ≡ which.Record (finding.OwnDefinition name)) × IsOwnDefinition host rs i name
own_found host rs i f h = let t = definition_found true rs (Some host) i f h in
    (t.0, t.1, missed_own host rs i t.0 t.2 t.3)
