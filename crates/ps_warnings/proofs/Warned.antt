-- What the definitions of the warnings compute is what the pages say.
use Rattle.std.proofs.Common.{◌≡◌, ◌∙◌, ◌+◌, ◌*◌, ◌<◌, ◌≤◌, ◌∷◌, [], ℕ, zero, suc, Bool, true, false, List, Option, Some, None, ap, sym, refl, inl, inr, arith}
use Rattle.std.specs.Prelude.{◌≢◌, ◌⊎◌, ◌&&◌, is_some, length, nat_lt, slice_get}
use Rattle.std.specs.Option.{option_or}
use Rattle.std.proofs.lemmas.Bool.{false≢true, and_from, and_parts, lt-ltb, ltb-false, ltb-true}
use Rattle.std.proofs.lemmas.Bool.Decides.{nat_tests}
use Rattle.std.proofs.lemmas.Option.{cond_some, option_and_then_some, same_Some}
use Rattle.ps_words.specs.Words.{displacement_at}
use Rattle.ps_linkinfo.specs.Numbered.{numbered_records}
use Rattle.ps_linkinfo.specs.RecordCounts.{next_in}
use Rattle.ps_linkinfo.specs.Records.{is_end}
use Rattle.ps_linkinfo.specs.declared.record.Body.{Body}
use Rattle.ps_linkinfo.specs.declared.record.Body.TheVariants.{PrivRef, PublDef, Eof}
use Rattle.ps_linkinfo.specs.declared.record.LinkRecord.{LinkRecord as Record}
use Rattle.ps_resolve.specs.Searches.{first_of}
use Rattle.ps_warnings.specs.Searches.EntryFindings.{shares}
use Rattle.ps_warnings.specs.Searches.RecordFindings.{at_index, end_mark, first_above, first_high, first_past, high_as, is_past, low_mark, mark_in, past_as, past_words}
use Rattle.ps_warnings.specs.Warned.{IsEndMark, IsFoundUpTo, IsHigh, IsPast, ShareByte}
use Rattle.ps_warnings.specs.declared.finding.Finding.{Finding}
use Rattle.ps_warnings.specs.declared.finding.Finding.TheVariants as which
use Rattle.ps_warnings.specs.declared.finding.RecordFinding.TheVariants as finding
use Rattle.ps_warnings.specs.declared.findings.extents.Extent.{Extent}
use Rattle.ps_lists.proofs.Items.{cases, none}
use Rattle.ps_warnings.proofs.FoundFirst.{each_in, found_in}

-- 1. the first record of which a search gives something, with its index
abbrev searched : (Record → Option Finding) → ℕ × Record → Option (ℕ × Finding)
searched g r = at_index r.0 (g r.1)

abbrev FoundFrom : (Record → Option Finding) → ℕ → List Record → ℕ → Finding → Type 0
FoundFrom g k rs i f = (j : ℕ) × (r : Record) × (i ≡ k + j) × (slice_get rs j ≡ Some r)
    × (g r ≡ Some f)

numbered_found : (g : Record → Option Finding) (k : ℕ) (rs : List Record) (i : ℕ) (f : Finding)
    → first_of (searched g) (numbered_records k rs) ≡ Some (i, f) → FoundFrom g k rs i f
numbered_found g k [] i f h = none {X = ℕ × Finding} (i, f) _ h
numbered_found g k (r ∷ rs) i f h = elim (cases (g r)) [
  | inl e ↦ (let m = numbered_found g (k + 1) rs i f (rw e at h) in
      (suc m.0, m.1, omega (arith, m.2), m.3, m.4))
  | inr (w, e) ↦ (let p = same_Some {A = ℕ × Finding} (k, w) (i, f) (rw e at h) in
      let first = ap (λ (q : ℕ × Finding). q.0) p in
      (zero, r, omega (arith, first), refl, e ∙ ap (λ (q : ℕ × Finding). Some q.1) p))
]

pub record_found : (g : Record → Option Finding) (rs : List Record) (i : ℕ) (f : Finding)
    → first_of (searched g) (numbered_records 0 rs) ≡ Some (i, f)
    → (r : Record) × (slice_get rs i ≡ Some r) × (g r ≡ Some f)
record_found g rs i f h = let m = numbered_found g 0 rs i f h in
    let here : i ≡ m.0 = omega (arith, m.2) in
    (m.1, ap (λ (n : ℕ). slice_get rs n) here ∙ m.3, m.4)

upto : (k : ℕ) (o : Option Finding) (rest : Option (ℕ × Finding)) (n : ℕ) → k ≤ n
    → (is_some o ≡ true) ⊎ IsFoundUpTo rest n → IsFoundUpTo (option_or (at_index k o) rest) n
upto k (Some f) rest n le h = (k, f, refl, le)
upto k None rest n le (inl h) = absurd (false≢true h)
upto k None rest n le (inr h) = h

record_from : (g : Record → Option Finding) (k : ℕ) (rs : List Record) (j : ℕ) (r : Record) (n : ℕ)
    → slice_get rs j ≡ Some r → is_some (g r) ≡ true → n ≡ k + j
    → IsFoundUpTo (first_of (searched g) (numbered_records k rs)) n
record_from g k [] j r n at s e = none r _ at
record_from g k (z ∷ rs) zero r n at s e = upto k (g z) _ n (omega arith) (inl (cc))
record_from g k (z ∷ rs) (suc j) r n at s e = upto k (g z) _ n (omega arith)
    (inr (record_from g (k + 1) rs j r n at s (omega arith)))

pub record_each : (g : Record → Option Finding) (rs : List Record) (j : ℕ) (r : Record)
    → slice_get rs j ≡ Some r → is_some (g r) ≡ true
    → IsFoundUpTo (first_of (searched g) (numbered_records 0 rs)) j
record_each g rs j r at s = record_from g 0 rs j r j at s (omega arith)

-- 2. the end mark
no_mark : (b : Body) → is_end b ≡ false → next_in b ≡ None
no_mark (Eof at) h = absurd (cc)
no_mark other h = refl

mark_is : (k : ℕ) (rs : List Record) (next : ℕ) → IsEndMark rs next
    → first_of mark_in (numbered_records k rs) ≡ Some next
mark_is k [] next h = absurd h
mark_is k (r ∷ rs) next (inl e) = rw e
mark_is k (r ∷ rs) next (inr (other, more)) = rw (no_mark r.body other) (mark_is (k + 1) rs next more)

mark_at : (next : ℕ) (b : Body) (rest : Option ℕ) → option_or (next_in b) rest ≡ Some next
    → (b ≡ Eof next) ⊎ ((is_end b ≡ false) × (rest ≡ Some next))
mark_at next (Eof n) rest h = inl (cc)
mark_at next other rest h = inr (refl, h)

is_mark : (k : ℕ) (rs : List Record) (next : ℕ)
    → first_of mark_in (numbered_records k rs) ≡ Some next → IsEndMark rs next
is_mark k [] next h = none next _ h
is_mark k (r ∷ rs) next h = elim (mark_at next r.body _ h) [
  | inl e ↦ inl e
  | inr m ↦ inr (m.0, is_mark (k + 1) rs next m.1)
]

pub end_mark_read : (rs : List Record) (next : ℕ) → end_mark rs ≡ Some next → IsEndMark rs next
end_mark_read rs next h = is_mark 0 rs next h

pub end_mark_there : (rs : List Record) (next : ℕ) → IsEndMark rs next → end_mark rs ≡ Some next
end_mark_there rs next h = mark_is 0 rs next h

-- 3. a low end mark
pub low_found : (rs : List Record) (size : ℕ) (f : Finding)
    → low_mark (end_mark rs) (Some size) ≡ Some f
    → (next : ℕ) × (f ≡ which.Record (finding.LowMark next size)) × IsEndMark rs next
    × (2 * next < size)
low_found rs size f h = elim (cases (end_mark rs)) [
  | inl e ↦ none f _ (rw e at h)
  | inr (next, e) ↦ (let t = cond_some (nat_lt (2 * next) size)
      (which.Record (finding.LowMark next size)) f (rw e at h) in
      (next, sym t.1, end_mark_read rs next e, ltb-true (2 * next) size t.0))
]

pub low_each : (rs : List Record) (size next : ℕ) → IsEndMark rs next → 2 * next < size
    → low_mark (end_mark rs) (Some size) ≡ Some (which.Record (finding.LowMark next size))
low_each rs size next m lt = rw (end_mark_there rs next m, lt-ltb (2 * next) size lt)

-- 4. a definition above the end mark
abbrev pub HighFound : List Record → ℕ → Finding → Type 0
HighFound rs i f = (next : ℕ) × (value : ℕ) × (name : List ℕ)
    × (f ≡ which.Record (finding.HighDefinition name value next)) × IsEndMark rs next
    × IsHigh rs i name value next

high_body : (next : ℕ) (name : List ℕ) (b : Body) (f : Finding) → high_as next name b ≡ Some f
    → (value : ℕ) × (f ≡ which.Record (finding.HighDefinition name value next))
    × (b ≡ PublDef value) × (next < value)
high_body next name (PublDef v) f h =
    let t = cond_some (nat_lt next v) (which.Record (finding.HighDefinition name v next)) f h in
    (v, sym t.1, refl, ltb-true next v t.0)
high_body next name other f h = none f _ h

pub high_found : (rs : List Record) (i : ℕ) (f : Finding) → first_above rs ≡ Some (i, f)
    → HighFound rs i f
high_found rs i f h = option_and_then_some (λ (n : ℕ). first_high n (numbered_records 0 rs))
    (end_mark rs) (i, f) h (λ next m is.
    let z = record_found (λ (r : Record). high_as next r.name r.body) rs i f is in
    let b = high_body next z.0.name z.0.body f z.2 in
    (next, b.0, z.0.name, b.1, end_mark_read rs next m, (z.0, z.1, refl, b.2, b.3)))

pub high_each : (rs : List Record) (i : ℕ) (name : List ℕ) (value next : ℕ) → IsEndMark rs next
    → IsHigh rs i name value next → IsFoundUpTo (first_above rs) i
high_each rs i name value next m (r, at, named, body, lt) = rw (end_mark_there rs next m)
    (record_each (λ (q : Record). high_as next q.name q.body) rs i r at
    (rw (body, lt-ltb next value lt)))

-- 5. an operand past its private variable
pub past_facts : (words displacement : ℕ) → is_past words displacement ≡ true
    → (words ≤ displacement) × (words + displacement ≢ 0)
past_facts words displacement h = grind (arith, nat_tests)

pub facts_past : (words displacement : ℕ) → words ≤ displacement → words + displacement ≢ 0
    → is_past words displacement ≡ true
facts_past words displacement le apart = grind (arith, nat_tests)

abbrev pub PastFound : List ℕ → List Record → ℕ → Finding → Type 0
PastFound code rs i f = (place : ℕ) × (displacement : ℕ) × (words : ℕ) × (f ≡ which.Record (finding.PastPrivate place displacement words))
    × IsPast code rs i place displacement words

past_body : (code : List ℕ) (b : Body) (f : Finding) → past_as code b ≡ Some f
    → (words : ℕ) × (refs : List ℕ) × (b ≡ PrivRef words refs)
    × (first_of (past_words code words) refs ≡ Some f)
past_body code (PrivRef words refs) f h = (words, refs, refl, h)
past_body code other f h = none f _ h

pub past_found : (code : List ℕ) (rs : List Record) (i : ℕ) (f : Finding)
    → first_past code (numbered_records 0 rs) ≡ Some (i, f) → PastFound code rs i f
past_found code rs i f h =
    let z = record_found (λ (r : Record). past_as code r.body) rs i f h in
    let b = past_body code z.0.body f z.2 in
    let p = found_in (past_words code b.0) b.1 f b.3 in
    let d = displacement_at code p.1 in
    let t = cond_some (nat_lt (p.1 + 1) (length code) && is_past b.0 d)
    (which.Record (finding.PastPrivate p.1 d b.0)) f p.3 in
    let both = and_parts (nat_lt (p.1 + 1) (length code)) (is_past b.0 d) t.0 in
    let facts = past_facts b.0 d both.1 in
    let inside = ltb-true (p.1 + 1) (length code) both.0 in
    (p.1, d, b.0, sym t.1, (z.0, b.1, p.0, z.1, b.2, p.2, inside, refl, facts.0, facts.1))

pub past_each : (code : List ℕ) (rs : List Record) (i place displacement words : ℕ)
    → IsPast code rs i place displacement words
    → IsFoundUpTo (first_past code (numbered_records 0 rs)) i
past_each code rs i place displacement words (r, refs, k, at, body, there, inside, is, le, apart) =
    record_each (λ (q : Record). past_as code q.body) rs i r at
    (rw body (each_in (past_words code words) refs k place there
    (rw (is, lt-ltb (place + 1) (length code) inside, facts_past words displacement le apart))))

-- 6. entries that share a byte
shared : (e o : Extent) (t : Bool) → nat_lt e.start o.start ≡ t → o.start < o.end
    → e.start < e.end → o.start < e.end → e.start < o.end → ShareByte e o
shared e o true h x y a b = let up : e.start < o.start = ltb-true e.start o.start h in
    (o.start, omega arith, x, omega (arith, up), a)
shared e o false h x y a b = let up : o.start ≤ e.start = ltb-false e.start o.start h in
    (e.start, up, b, omega arith, y)

pub overlap_found : (e o : Extent) → o.start < o.end → e.start < e.end → shares e o ≡ true
    → (o.slot < e.slot) × ShareByte e o
overlap_found e o x y h =
    let t = and_parts (nat_lt o.slot e.slot) (nat_lt o.start e.end && nat_lt e.start o.end) h in
    let u = and_parts (nat_lt o.start e.end) (nat_lt e.start o.end) t.1 in (
      ltb-true o.slot e.slot t.0,
      shared e o (nat_lt e.start o.start) refl x y
          (ltb-true o.start e.end u.0) (ltb-true e.start o.end u.1),
    )

pub overlap_each : (e o : Extent) → o.slot < e.slot → ShareByte e o → shares e o ≡ true
overlap_each e o before (p, a, b, c, d) =
    let x : o.start < e.end = omega (arith, a, d) in
    let y : e.start < o.end = omega (arith, b, c) in
    and_from (nat_lt o.slot e.slot) (nat_lt o.start e.end && nat_lt e.start o.end)
    (lt-ltb o.slot e.slot before)
    (and_from (nat_lt o.start e.end) (nat_lt e.start o.end) (lt-ltb o.start e.end x)
    (lt-ltb e.start o.end y))
