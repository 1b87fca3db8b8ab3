-- The offset of a private is the base offset of the host's end mark, and the words of all segments
-- before and of the records before its own.
use Rattle.ps_laws.proofs.Vocabulary.{flat_map, Record, Segment, host_records, private_words, total_words, next_of, private_offset, words_taken, rules, ◌≡◌, ℕ, ◌+◌, ◌<◌, ◌≤◌, List, [], ◌∷◌, take, refl, arith, sum_by, lt-ltb, all_private_words, records_before, words_before}
use Rattle.std.proofs.lemmas.List.Sums.{sum_by-append, sum_by-cons}
use Rattle.ps_laws.proofs.Segments.{Ascends}

-- the words of records, one by one
abbrev words : List Record → ℕ
words rs = sum_by (λ (r : Record). words_taken r.body) rs

-- the words of records, one by one, are their private words
words_are : (rs : List Record) → words rs ≡ private_words rs
words_are [] = refl
words_are (r ∷ rs) = search (rules, arith, sum_by-cons, words_before, words_are rs)

module _ (slot rec : ℕ) (s : Segment) where
  -- which records of a segment are before one of a slot
  of_lesser : s.slot < slot → records_before slot rec s ≡ s.records
  of_lesser h = rw (lt-ltb s.slot slot h) refl

  -- no record of a segment in a greater slot is before
  of_greater : slot < s.slot → records_before slot rec s ≡ []
  of_greater h = grind arith

-- as many records of the slot itself are before as the record's number says
of_same : (rec : ℕ) (s : Segment) → records_before s.slot rec s ≡ take rec s.records
of_same rec s = grind arith

abbrev before : ℕ → ℕ → List Segment → ℕ
before slot rec ss = words (flat_map (records_before slot rec) ss)

module _ (slot rec : ℕ) where
  next_segment : (s : Segment) (ss : List Segment)
      → before slot rec (s ∷ ss) ≡ words (records_before slot rec s) + before slot rec ss
  next_segment s ss = grind (arith, sum_by-append)

  -- no words of segments in greater slots are before
  none_behind : (from : ℕ) (ss : List Segment)
      → slot < from → Ascends from ss → before slot rec ss ≡ 0
  none_behind from [] h a = refl
  none_behind from (s ∷ ss) h a =
      grind (arith, next_segment, of_greater, none_behind (s.slot + 1) ss)

-- what holds of no segments, and of one before others with an offset that is that of the first of
-- its privates, if it holds of these with the offset after its last
module _ (all : List Segment) (Q : ℕ → List Segment → Type 0) (none : (off : ℕ)
    → Q off [])
    (more : (s : Segment) (rest : List Segment) (off : ℕ) → ((rec : ℕ) → private_offset all
    s.slot rec ≡ off + private_words (take rec s.records))
    → Q (off + private_words s.records) rest → Q off (s ∷ rest)) where
  carried_on : (from off : ℕ) (rest : List Segment) → ((slot rec : ℕ) → from ≤ slot
      → private_offset all slot rec ≡ off + before slot rec rest) → Ascends from rest
      → Q off rest
  carried_on from off [] offsets ascends = none off
  carried_on from off (s ∷ rest) offsets ascends =
      grind (
        arith,
        next_segment,
        of_same,
        words_are,
        none_behind,
        of_lesser,
        carried_on (s.slot + 1) (off + private_words s.records) rest,
      )

  -- holds of all segments of a link with the base offset
  pub carried : Ascends 0 all → Q (next_of (host_records all)) all
  carried = carried_on 0 (next_of (host_records all)) all (λ slot rec low. refl)

-- the words of all privates, segment by segment and record by record
pub all_are : (ss : List Segment) → all_private_words ss ≡ total_words ss
all_are [] = refl
all_are (s ∷ ss) = search (rules, arith, sum_by-append, words_are, all_are ss)
