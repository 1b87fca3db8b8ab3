-- Reading one record more.
use Rattle.ps_linkinfo.proofs.Vocabulary.{◌≡◌, ℕ, zero, suc, ◌+◌, ◌/◌, ◌<◌, ◌≤◌, List, [], ◌∷◌, length, length-drop, add-one, drop, true, false, Some, None, Ok, Err, ◌∙◌, ap, arith, drop-drop, nat_tests, Order, Reason, reading, read_from, record_at, size_of, is_eof, bad, BeginsWith, Walk, Record}
use Rattle.ps_linkinfo.specs.Left.{items_of, items_at, items_left}
use Rattle.ps_linkinfo.proofs.OneReading.{no_fault, record_is}

-- where a record begins there are 16 bytes
pub long_enough : (order : Order) (x : List ℕ) → bad order x ≡ None → 16 ≤ length x
long_enough order x h = grind (arith, nat_tests)

pub size_least : (r : Record) → 16 ≤ size_of r
size_least r = omega arith

-- readings of at most n and at most m records are the same where both numbers are above a sixteenth
-- of the bytes
pub enough : (n m : ℕ) (order : Order) (x : List ℕ) → length x / 16 < n → length x / 16 < m
    → read_from n order x ≡ read_from m order x
enough zero m order x h k = absurd (omega arith)
enough (suc n) zero order x h k = absurd (omega arith)
enough (suc n) (suc m) order x h k =
    grind (arith, long_enough, size_least, length-drop, enough n m order)

as_suc : (order : Order) (x : List ℕ) → reading order x
    ≡ read_from (suc (length x / 16)) order x
as_suc order x = ap (λ (n : ℕ). read_from n order x) (add-one (length x / 16))

pub read_end : (order : Order) (x : List ℕ) (why : Reason) → bad order x ≡ Some why
    → reading order x ≡ ([], Some why)
read_end order x why p = as_suc order x ∙ rw (p, read_from)

pub read_last : (order : Order) (x : List ℕ) → bad order x ≡ None
    → is_eof (record_at order x) ≡ true → reading order x ≡ (record_at order x ∷ [], None)
read_last order x p q = as_suc order x ∙ rw (p, q, read_from)

-- where no fault applies and the first record is no EOFMARK, the reading is this record and the
-- reading after it
pub read_more : (order : Order) (x : List ℕ) → bad order x ≡ None
    → is_eof (record_at order x) ≡ false
    → reading order x ≡ (let rest = reading order (drop (size_of (record_at order x)) x) in
    (record_at order x ∷ rest.0, rest.1))
read_more order x p q = grind (arith, long_enough, size_least, enough, length-drop, as_suc)

-- what a walk that is not over has left, by what is first in it
pub left_end : (w : Walk) (why : Reason) → w.ended ≡ false
    → bad w.order (drop w.used w.bytes) ≡ Some why → items_left w ≡ Err why ∷ []
unfolding items_at
left_end w why e b = rw e (ap items_of (read_end w.order (drop w.used w.bytes) why b))

-- where a record is there, this record is left and then what the walk after it has left
pub left_next : (w : Walk) (r : Record) (v : Walk) → w.ended ≡ false
    → BeginsWith w.order (drop w.used w.bytes) r
    → v ≡ record w { used = w.used + size_of r; ended = is_eof r }
    → items_left w ≡ Ok r ∷ items_left v
unfolding items_at
left_next w r v e h is = grind (arith, no_fault, record_is, read_last, read_more, drop-drop)
