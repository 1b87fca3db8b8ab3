-- Link information has one reading.
use Rattle.ps_linkinfo.proofs.Vocabulary.{◌≡◌, ℕ, ◌+◌, ◌≤◌, List, [], ◌∷◌, length, drop, false, Some, None, arith, AllByRecursion, Order, Reason, AreSpelled, BeginsWith, IsBody, EndsOnce, Spells, Stops, IsReading, is_eof, size_of, used_by, body_at, record_at, bad, refs_of, list_len, nat_tests, Body, UnitRef, PublRef, PrivRef, PublDef, ConstDef, Eof, Record}
use Rattle.ps_linkinfo.proofs.ReferenceWords.{refs_len}
use Rattle.ps_linkinfo.proofs.Spelled.{behind_cons}

-- a body is what its bytes say
pub body_is : (order : Order) (x : List ℕ) (b : Body) → IsBody order x b
    → b ≡ body_at order x
body_is order x (UnitRef refs) h = rw (h.0, h.2)
body_is order x (PublRef refs) h = rw (h.0, h.2)
body_is order x (PrivRef words refs) h = rw (h.0, h.2, h.3)
body_is order x (PublDef value) h = rw (h.0, h.1)
body_is order x (ConstDef value) h = rw (h.0, h.1)
body_is order x (Eof next) h = rw (h.0, h.1)

-- a record that the bytes begin with is what their first words spell
pub record_is : (order : Order) (x : List ℕ) (r : Record) → BeginsWith order x r
    → r ≡ record_at order x
record_is order x r h = grind (arith, body_is)

-- two rows of records that the same bytes spell, and that each end once, are the same
pub one_reading : (order : Order) (bytes : List ℕ) (rs ss : List Record)
    → AreSpelled order bytes rs → EndsOnce rs → AreSpelled order bytes ss → EndsOnce ss
    → rs ≡ ss
one_reading order bytes [] ss h e k f = absurd e
one_reading order bytes (r ∷ rs) [] h e k f = absurd f
one_reading order bytes (r ∷ []) (s ∷ []) h e k f = grind (arith, record_is)
one_reading order bytes (r ∷ []) (s ∷ t ∷ ss) h e k f = grind (arith, record_is)
one_reading order bytes (r ∷ q ∷ rs) (s ∷ []) h e k f = grind (arith, record_is)
one_reading order bytes (r ∷ q ∷ rs) (s ∷ t ∷ ss) h e k f =
    grind (
      arith,
      record_is,
      one_reading order (drop (size_of r) bytes) (q ∷ rs) (t ∷ ss) h.1 e.1,
    )

-- where a record begins there is no fault
pub no_fault : (order : Order) (x : List ℕ) (b : Body) → IsBody order x b
    → 16 + list_len (length (refs_of b)) ≤ length x → bad order x ≡ None
no_fault order x (UnitRef refs) h w = grind (arith, refs_len, nat_tests)
no_fault order x (PublRef refs) h w = grind (arith, refs_len, nat_tests)
no_fault order x (PrivRef words refs) h w = grind (arith, refs_len, nat_tests)
no_fault order x (PublDef value) h w = let k = h.0 in grind (arith, nat_tests)
no_fault order x (ConstDef value) h w = let k = h.0 in grind (arith, nat_tests)
no_fault order x (Eof next) h w = let k = h.0 in grind (arith, nat_tests)

-- what stops is no list
pub not_both : (order : Order) (bytes : List ℕ) (rs ss : List Record) (why : Reason)
    → AreSpelled order bytes rs → AllByRecursion (λ r. is_eof r ≡ false) rs
    → bad order (drop (used_by rs) bytes) ≡ Some why → AreSpelled order bytes ss
    → EndsOnce ss → ⊥
not_both order bytes rs [] why h e b k f = absurd f
not_both order bytes [] (s ∷ ss) why h e b k f = grind (arith, no_fault)
not_both order bytes (r ∷ rs) (s ∷ []) why h e b k f = grind (arith, record_is)
not_both order bytes (r ∷ rs) (s ∷ t ∷ ss) why h e b k f =
    grind (
      arith,
      record_is,
      behind_cons,
      not_both order (drop (size_of r) bytes) rs (t ∷ ss) why h.1 e.1,
    )

pub is_reading : (order : Order) (bytes : List ℕ) (rs : List Record) → AreSpelled order bytes rs
    → EndsOnce rs → IsReading order bytes rs
is_reading order bytes rs h e = grind (arith, one_reading)

pub is_stop : (order : Order) (bytes : List ℕ) (rs : List Record) (why : Reason)
    → Stops order bytes rs why → (others : List Record) → Spells order bytes others → ⊥
is_stop order bytes rs why s others o = grind (arith, not_both)
