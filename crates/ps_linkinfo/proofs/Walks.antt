-- Walks over link information.
use Rattle.ps_linkinfo.proofs.Vocabulary.{◌≡◌, ℕ, zero, suc, ◌+◌, ◌/◌, ◌≤◌, List, [], ◌∷◌, ◌++◌, length, length-drop, drop, false, Option, Some, None, Result, Ok, Err, refl, sym, ◌∙◌, ap, subst, append_assoc, arith, append-nil, AllByRecursion, filter_map, Order, Reason, AreSpelled, reading, read_from, size_of, is_eof, bad, used_by, Walk, Advances, HasGiven, left_of, whole_walk, sum_by-append, Record}
use Rattle.std.specs.Result.{result_ok}
use Rattle.ps_linkinfo.specs.Left.{items_of, items_at, items_left, records_left, fault_among, fault_left}
use Rattle.ps_linkinfo.proofs.Spelled.{spelled_fit, spelled_more, used_more, used_cons}
use Rattle.ps_linkinfo.proofs.OneReading.{record_is}
use Rattle.ps_linkinfo.proofs.Steps.{long_enough, read_end, size_least}
use Rattle.ps_linkinfo.proofs.Stands.{begins_at, reading_spelled}

-- the records among a reading's items are its records
oks_of_items : (rs : List Record) (why : Option Reason)
    → filter_map result_ok (items_of (rs, why)) ≡ rs
oks_of_items [] None = refl
oks_of_items [] (Some why) = refl
oks_of_items (r ∷ rs) why = ap (λ (xs : List Record). r ∷ xs) (oks_of_items rs why)

-- the fault among a reading's items is its fault, or there is none
fault_of_items : (rs : List Record) (why : Option Reason)
    → fault_among (items_of (rs, why)) ≡ why
fault_of_items [] None = refl
fault_of_items [] (Some why) = refl
fault_of_items (r ∷ rs) why = fault_of_items rs why

-- a walk begins with all items
pub items_first : (order : Order) (bytes : List ℕ)
    → items_left (whole_walk order bytes) ≡ items_of (reading order bytes)
unfolding items_at
items_first order bytes = refl

pub records_first : (order : Order) (bytes : List ℕ)
    → records_left (whole_walk order bytes) ≡ (reading order bytes).0
records_first order bytes = grind (arith, items_first, oks_of_items)

pub fault_first : (order : Order) (bytes : List ℕ)
    → fault_left (whole_walk order bytes) ≡ (reading order bytes).1
fault_first order bytes = grind (arith, items_first, fault_of_items)

-- a record takes 16 bytes at least
few_from : (n : ℕ) (order : Order) (x : List ℕ)
    → length (read_from n order x).0 ≤ length x / 16
few_from zero order x = omega arith
few_from (suc n) order x =
    grind (arith, long_enough, size_least, begins_at, length-drop, few_from n order)

pub few : (order : Order) (x : List ℕ) → length (reading order x).0 ≤ length x / 16
few order x = few_from (length x / 16 + 1) order x

-- a reading has at most one item more than it has records
items_count : (rs : List Record) (why : Option Reason)
    → length (items_of (rs, why)) ≤ length rs + 1
items_count [] None = omega arith
items_count [] (Some why) = omega arith
items_count (r ∷ rs) why = omega (arith, items_count rs why)

-- a walk that has ended has no item left, and any other at most one for each 16 bytes left and one
-- for a fault
pub few_left : (w : Walk) → length (items_left w) ≤ left_of w
unfolding items_at
few_left w = grind (arith, items_count, few, length-drop)

-- what a walk has given
pub given_first : (order : Order) (bytes : List ℕ) → HasGiven (whole_walk order bytes) []
given_first order bytes = record { spelled = tt; used = refl }

-- a walk that gives a record has given this record too, after those before it
pub given_more : (w v : Walk) (rs : List Record) (r : Record) → HasGiven w rs
    → Advances w (Some (Ok r)) v → HasGiven v (rs ++ r ∷ [])
given_more w v rs r h a = grind (arith, spelled_more, used_more)

-- a walk that gives a fault has given the records that it had given before
pub given_fault : (w v : Walk) (rs : List Record) (why : Reason) → HasGiven w rs
    → Advances w (Some (Err why)) v → HasGiven v rs
given_fault w v rs why h a = grind arith

-- records that are spelled and take as many bytes are the same
one_row : (order : Order) (bytes : List ℕ) (rs ss : List Record) → AreSpelled order bytes rs
    → AreSpelled order bytes ss → used_by rs ≡ used_by ss → ss ≡ rs
one_row order bytes [] [] h k e = refl
one_row order bytes [] (s ∷ ss) h k e = absurd (omega (arith, used_cons s ss, size_least s, e))
one_row order bytes (r ∷ rs) [] h k e = absurd (omega (arith, used_cons r rs, size_least r, e))
one_row order bytes (r ∷ rs) (s ∷ ss) h k e =
    grind (arith, record_is, used_cons, one_row order (drop (size_of r) bytes) rs ss h.1)

pub given_one : (w : Walk) (rs others : List Record) → HasGiven w rs → HasGiven w others
    → others ≡ rs
given_one w rs others h k = grind (arith, one_row)

-- a walk over these bytes has given these records, none of them an EOFMARK while it goes on, and
-- has the rest of their reading to give
pub record Walked (order : Order) (bytes : List ℕ) (w : Walk) (rs : List Record) : Type 0 where
  pub records : rs ++ records_left w ≡ (reading order bytes).0
  pub fault : fault_left w ≡ (reading order bytes).1
  pub goes_on : w.ended ≡ false → AllByRecursion (λ r. is_eof r ≡ false) rs

-- at its start
pub walked_first : (order : Order) (bytes : List ℕ)
    → Walked order bytes (whole_walk order bytes) []
walked_first order bytes = grind (arith, records_first, fault_first)

goes_more : (rs : List Record) (r : Record) → AllByRecursion (λ r. is_eof r ≡ false) rs
    → is_eof r ≡ false → AllByRecursion (λ r. is_eof r ≡ false) (rs ++ r ∷ [])
goes_more [] r h e = (e, tt)
goes_more (x ∷ rs) r h e = (h.0, goes_more rs r h.1 e)

-- what a step gives
abbrev pub Steps : Walk → Result Record Reason → Walk → Type 0
Steps w i v = Advances w (Some i) v × (items_left w ≡ i ∷ items_left v)

-- a record more
pub walked_more : (order : Order) (bytes : List ℕ) (w v : Walk) (rs : List Record)
    (i : Result Record Reason) (r : Record) → Walked order bytes w rs → Steps w i v
    → i ≡ Ok r → Walked order bytes v (rs ++ r ∷ [])
walked_more order bytes w v rs i r h step is = grind (arith, append_assoc, goes_more)

-- none of the records before one that was walked is an EOFMARK
pub walked_on : (order : Order) (bytes : List ℕ) (w v : Walk) (rs : List Record)
    (i : Result Record Reason) (r : Record) → Walked order bytes w rs → Steps w i v
    → i ≡ Ok r → AllByRecursion (λ r. is_eof r ≡ false) rs
walked_on order bytes w v rs i r h step is = grind arith

-- at its end these are all
pub walked_all : (order : Order) (bytes : List ℕ) (w : Walk) (rs : List Record)
    → Walked order bytes w rs → items_left w ≡ [] → reading order bytes ≡ (rs, None)
walked_all order bytes w rs h none = grind (arith, append-nil)

-- at a fault these are all, and it is the fault
pub walked_to_fault : (order : Order) (bytes : List ℕ) (w v : Walk) (rs : List Record)
    (i : Result Record Reason) (why : Reason) → Walked order bytes w rs → Steps w i v
    → i ≡ Err why → reading order bytes ≡ (rs, Some why)
walked_to_fault order bytes w v rs i why h step is = grind (arith, append-nil)

-- what it has given fits in the bytes
pub walked_fits : (order : Order) (bytes : List ℕ) (w : Walk) (rs : List Record)
    → Walked order bytes w rs → used_by rs ≤ length bytes
walked_fits order bytes w rs h =
    let all : used_by (rs ++ records_left w) ≤ length bytes =
    subst (λ (ss : List Record). used_by ss ≤ length bytes) (sym h.records)
    (spelled_fit order bytes (reading order bytes).0 (reading_spelled order bytes)) in
    omega (arith, sum_by-append size_of rs (records_left w), all)

-- where a record was given, no fault applies first
pub walked_good : (order : Order) (bytes : List ℕ) (w : Walk) (rs : List Record) (r : Record)
    → Walked order bytes w (rs ++ r ∷ []) → bad order bytes ≡ None
walked_good order bytes w rs r h = at (bad order bytes) refl
  where
    some : (xs ys : List Record) → (xs ++ r ∷ []) ++ ys ≡ [] → ⊥
    some [] ys e = cc
    some (x ∷ xs) ys e = cc

    at : (b : Option Reason) → bad order bytes ≡ b → b ≡ None
    at None p = refl
    at (Some why) p = absurd (some rs (records_left w)
        (h.records ∙ ap (λ (read : List Record × Option Reason). read.0)
        (read_end order bytes why p)))
