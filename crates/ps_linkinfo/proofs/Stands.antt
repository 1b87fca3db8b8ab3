-- The reading of link information is what its bytes spell, or what stops it.
use Rattle.ps_linkinfo.proofs.Vocabulary.{◌≡◌, ℕ, zero, suc, ◌+◌, ◌/◌, ◌<◌, ◌≤◌, List, [], ◌∷◌, length, length-drop, drop, Bool, true, false, Option, Some, None, refl, arith, nat_tests, AllByRecursion, Order, Reason, AreSpelled, BeginsWith, IsBody, EndsOnce, Spells, Stops, is_eof, size_of, used_by, body_at, record_at, refs_of, bad, list_len, reading, read_from, Body, Record}
use Rattle.ps_linkinfo.proofs.ReferenceWords.{refs_len}
use Rattle.ps_linkinfo.proofs.Spelled.{behind_cons}
use Rattle.ps_linkinfo.proofs.OneReading.{record_is, no_fault}
use Rattle.ps_linkinfo.proofs.Steps.{read_end, read_last, read_more, long_enough, size_least}

-- a body that is whole and first
abbrev StandsWhole : Order → List ℕ → Body → Type 0
StandsWhole order x b = IsBody order x b × (16 + list_len (length (refs_of b)) ≤ length x)

-- where no fault applies, the body that the first words spell is whole
body_stands : (order : Order) (x : List ℕ) → bad order x ≡ None
    → StandsWhole order x (body_at order x)
body_stands order x good = grind (arith, nat_tests, refs_len)

-- where there is no fault, a record begins
pub begins_at : (order : Order) (x : List ℕ) → bad order x ≡ None
    → BeginsWith order x (record_at order x)
begins_at order x good = grind (arith, body_stands)

-- records that are spelled and end are the reading
pub spells_reads : (order : Order) (x : List ℕ) (rs : List Record) → AreSpelled order x rs
    → EndsOnce rs → reading order x ≡ (rs, None)
spells_reads order x [] h e = absurd e
spells_reads order x (r ∷ []) h e = grind (arith, record_is, read_last, no_fault)
spells_reads order x (r ∷ s ∷ rs) h e =
    grind (
      arith,
      record_is,
      read_more,
      no_fault,
      spells_reads order (drop (size_of r) x) (s ∷ rs) h.1 e.1,
    )

-- records that are spelled, and then a fault, are read as they are
pub stops_reads : (order : Order) (x : List ℕ) (rs : List Record) (why : Reason)
    → AreSpelled order x rs → AllByRecursion (λ r. is_eof r ≡ false) rs
    → bad order (drop (used_by rs) x) ≡ Some why → reading order x ≡ (rs, Some why)
stops_reads order x [] why h e b = read_end order x why b
stops_reads order x (r ∷ rs) why h e b =
    grind (
      arith,
      record_is,
      read_more,
      no_fault,
      behind_cons,
      stops_reads order (drop (size_of r) x) rs why h.1 e.1,
    )

-- what a reading says of the bytes
abbrev pub IsReadingOf : Order → List ℕ → List Record × Option Reason → Type 0
IsReadingOf order x read = elim read.1 [
  | None ↦ Spells order x read.0
  | Some why ↦ Stops order x read.0 why
]

ends_more : (r : Record) (rs : List Record) → is_eof r ≡ false → EndsOnce rs
    → EndsOnce (r ∷ rs)
ends_more r [] e h = absurd h
ends_more r (s ∷ rs) e h = (e, h)

-- one record more before them
is_read_more : (order : Order) (x : List ℕ) (r : Record) → BeginsWith order x r
    → is_eof r ≡ false → (rs : List Record) (why : Option Reason)
    → IsReadingOf order (drop (size_of r) x) (rs, why) → IsReadingOf order x (r ∷ rs, why)
is_read_more order x r b e rs None h = grind (arith, ends_more)
is_read_more order x r b e rs (Some why) h = grind (arith, behind_cons)

-- where n is above a sixteenth of the bytes, the reading of n records at most is what the bytes
-- spell, or what stops it
read_from_is : (n : ℕ) (order : Order) (x : List ℕ) → length x / 16 < n
    → IsReadingOf order x (read_from n order x)
read_from_is zero order x lt = absurd (omega arith)
read_from_is (suc n) order x lt = at (λ y less. read_from_is n order y less) (bad order x) refl
    (is_eof (record_at order x)) refl
  where
    r : Record
    r = record_at order x

    at : ((y : List ℕ) → length y / 16 < n → IsReadingOf order y (read_from n order y))
        → (b : Option Reason) → bad order x ≡ b → (e : Bool)
        → is_eof (record_at order x) ≡ e → IsReadingOf order x (read_from (suc n) order x)
    at again (Some why) p e q = rw (p, read_from) (record { spelled = tt; goes_on = tt; stops = p })
    at again None p true q = rw (p, q, read_from)
        (record { spelled = (begins_at order x p, tt); ends = q })
    at again None p false q =
        let size = size_least r in
        let long = long_enough order x p in
        let rest = again (drop (size_of r) x) (omega (arith, length-drop (size_of r) x)) in
        rw (p, q, read_from) (is_read_more order x r (begins_at order x p) q
        (read_from n order (drop (size_of r) x)).0
        (read_from n order (drop (size_of r) x)).1 rest)

pub reading_is : (order : Order) (x : List ℕ) → IsReadingOf order x (reading order x)
reading_is order x = read_from_is (length x / 16 + 1) order x (omega arith)

-- the records of a reading are spelled
pub reading_spelled : (order : Order) (x : List ℕ) → AreSpelled order x (reading order x).0
reading_spelled order x = grind (arith, reading_is)
