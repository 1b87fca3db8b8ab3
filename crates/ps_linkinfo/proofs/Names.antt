-- The names of records that are read.
use Rattle.ps_linkinfo.proofs.Vocabulary.{◌≡◌, ℕ, zero, suc, ◌≤◌, List, [], length, drop, Bool, true, false, Option, Some, None, refl, arith, All, length-take-le, Order, Reason, Record, bad, is_eof, record_at, read_from, size_of}
use Rattle.std.proofs.lemmas.List.Elements.{All-nil, All-cons}
use Rattle.ps_linkinfo.proofs.Steps.{long_enough}

abbrev pub HasWholeName : Record → Type 0
HasWholeName r = length r.name ≡ 8

-- where no fault applies there are sixteen bytes, and so eight of a name
first_whole : (order : Order) (bytes : List ℕ) → bad order bytes ≡ None
    → HasWholeName (record_at order bytes)
first_whole order bytes h =
    let long : 16 ≤ length bytes = long_enough order bytes h in
    length-take-le 8 bytes (omega arith)

-- each record of a reading has a name of eight bytes
pub all_whole : (n : ℕ) (order : Order) (bytes : List ℕ)
    → All HasWholeName (read_from n order bytes).0
all_whole zero order bytes = All-nil HasWholeName
all_whole (suc n) order bytes =
    by (all_whole n order (drop (size_of (record_at order bytes)) bytes)) (bad order bytes) refl
    (is_eof (record_at order bytes)) refl
  where
    by : All HasWholeName (read_from n order (drop (size_of (record_at order bytes)) bytes)).0
        → (o : Option Reason) → bad order bytes ≡ o → (b : Bool)
        → is_eof (record_at order bytes) ≡ b
        → All HasWholeName (read_from (suc n) order bytes).0
    by rest (Some why) e b f = rw (e, read_from) (All-nil HasWholeName)
    by rest None e true f = rw (e, read_from)
        (rw (f, read_from) (All-cons HasWholeName (record_at order bytes) []
        (first_whole order bytes e) (All-nil HasWholeName)))
    by rest None e false f = rw (e, read_from)
        (rw (f, read_from) (All-cons HasWholeName (record_at order bytes) _
        (first_whole order bytes e) rest))
