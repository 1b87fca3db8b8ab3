-- Segments that have the same records, since their link information begins in one block of one
-- file.
use Rattle.ps_reading.proofs.Vocabulary.{◌≡◌, ℕ, suc, zero, ◌+◌, ◌<◌, List, [], ◌∷◌, length, take, get_or, true, Option, arith, add-one, All, IfSome, is_some, All-head, All-tail, Order, Record, needs_linking, Segment, file_at, ArePlacedIn, IsRead, IsSound, IsLike, AreAlike, HasRecordsAt}

-- segments that were read are alike, and each is sound
pub read_alike : (order : Order) (host : List ℕ) (libs : List (List ℕ))
    (segs : List Segment) → All (IsRead order host libs) segs → AreAlike segs
read_alike order host libs segs all = grind arith

pub all_sound : (order : Order) (host : List ℕ) (libs : List (List ℕ)) (segs : List Segment)
    → All (IsRead order host libs) segs → All (IsSound order) segs
all_sound order host libs segs all = grind arith

-- the link information of those from a file, by its number, is there
pub placed_in : (order : Order) (host : List ℕ) (libs : List (List ℕ)) (k : ℕ)
    (segs : List Segment) → All (IsRead order host libs) segs
    → ArePlacedIn order (file_at host libs k) k segs
placed_in order host libs k segs all = grind arith

-- what holds of the records of each segment holds of those of one that is like them
pub of_shared : (P : List Record → Type 0) (segs : List Segment) (s : Segment)
    (rs : List Record) → needs_linking s.role ≡ true → All (IsLike s) segs
    → All (λ q. P q.records) segs → HasRecordsAt segs s.file s.block rs → P s.records
of_shared P segs s rs linked alike all h = grind arith

-- what holds of an item that may be there, where it is there
pub found : {X : Type 0} (P : X → Type 0) (o : Option X) → is_some o ≡ true → IfSome o P
    → (x : X) × P x
found P o is h = grind arith

-- what holds of the first i items, and of the one at i, holds of the first i + 1
taken_suc : {X : Type 0} (P : X → Type 0) (i : ℕ) (xs : List X) (x : X) → i < length xs
    → x ≡ get_or xs i x → All P (take i xs) → P x → All P (take (suc i) xs)
taken_suc P i [] x lt is all h = absurd (omega arith)
taken_suc P zero (y ∷ ys) x lt is all h = grind arith
taken_suc P (suc i) (y ∷ ys) x lt is all h =
    grind (
      arith,
      All-head,
      All-tail,
      taken_suc P i ys x (omega arith) is (All-tail P y (take i ys) all) h,
    )

-- one more of the first items
pub all_taken : {X : Type 0} (P : X → Type 0) (i : ℕ) (xs : List X) (x : X) → i < length xs
    → x ≡ get_or xs i x → All P (take i xs) → P x → All P (take (i + 1) xs)
all_taken P i xs x lt is all h = rw add-one (taken_suc P i xs x lt is all h)
