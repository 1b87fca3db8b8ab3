-- The codes of a plan's sources, one after another.
use Rattle.ps_linkfile.proofs.Vocabulary.{length-map-range_with_len, Appends, Order, Edit, all_blocks, padded_code, padded_codes, HaveEdits, AppendsPrefix, ◌≡◌, ℕ, ◌+◌, ◌*◌, List, [], ◌∷◌, ◌++◌, length, drop, Option, append_assoc, arith, length-append, Segment}
use Rattle.ps_linkfile.proofs.Blocks.{all_blocks-cons}
use Rattle.ps_writing.proofs.Prefixes.{appends_twice, prefix_more}

-- the codes of the first so many sources were appended
pub record CodesSoFar (order : Order) (os : List Segment) (ds : List (List Edit)) (count : ℕ)
    (old new : Option (List ℕ)) (prefix : List ℕ) : Type 0 where
  pub left : HaveEdits (drop count os) (drop count ds)
  pub joined : prefix ++ padded_codes order (drop count os) (drop count ds)
      ≡ padded_codes order os ds
  pub written : Appends old new prefix

-- a source and its edits
pub record IsAt (os : List Segment) (ds : List (List Edit)) (count : ℕ) (o : Segment)
    (d : List Edit) : Type 0 where
  pub here : drop count os ≡ o ∷ drop (count + 1) os
  pub edits : drop count ds ≡ d ∷ drop (count + 1) ds

pub edits_here : (os : List Segment) (ds : List (List Edit)) (count : ℕ) (o : Segment)
    (d : List Edit) → IsAt os ds count o d → HaveEdits (drop count os) (drop count ds)
    → HaveEdits (o ∷ drop (count + 1) os) (d ∷ drop (count + 1) ds)
edits_here os ds count o d at h = rw (at.here, at.edits) at h

-- the codes so far, the code of this source and those after it are all codes
joined_here : (order : Order) (os : List Segment) (ds : List (List Edit))
    (count : ℕ) (o : Segment) (d : List Edit) (prefix : List ℕ) → IsAt os ds count o d
    → prefix ++ padded_codes order (drop count os) (drop count ds) ≡ padded_codes order os ds
    → prefix ++ (padded_code order o.code d
    ++ padded_codes order (drop (count + 1) os) (drop (count + 1) ds)) ≡ padded_codes order os ds
joined_here order os ds count o d prefix at h = grind arith

module _ (order : Order) (os : List Segment) (ds : List (List Edit)) (count : ℕ)
    (a b c : Option (List ℕ)) (prefix : List ℕ) (o : Segment) (d : List Edit) where
  -- one code more
  pub codes_more : IsAt os ds count o d
      → CodesSoFar order os ds count a b prefix → Appends b c (padded_code order o.code d)
      → CodesSoFar order os ds (count + 1) a c (prefix ++ padded_code order o.code d)
  codes_more at h k = grind (arith, edits_here, append_assoc, joined_here, appends_twice)

  -- a prefix of one code more
  pub codes_prefix : IsAt os ds count o d
      → CodesSoFar order os ds count a b prefix → AppendsPrefix b c (padded_code order o.code d)
      → AppendsPrefix a c (padded_codes order os ds)
  codes_prefix at h k = prefix_more a b c prefix
      (padded_code order o.code d) (padded_codes order (drop (count + 1) os) (drop (count + 1) ds))
      (padded_codes order os ds) (joined_here order os ds count o d prefix at h.joined) h.written k

-- the codes are whole blocks
pub codes_len : (order : Order) (os : List Segment) (ds : List (List Edit)) → HaveEdits os ds
    → length (padded_codes order os ds) ≡ 512 * all_blocks os
codes_len order [] ds h = omega arith
codes_len order (o ∷ os) [] h = absurd h
codes_len order (o ∷ os) (d ∷ ds) h =
    grind (
      arith,
      length-append,
      length-map-range_with_len,
      all_blocks-cons,
      codes_len order os ds h.1,
    )
