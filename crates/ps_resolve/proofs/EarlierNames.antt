-- Records of a kind that have the name of an earlier one: that none has, where the numbers of the
-- names of privates differ, and the first of them.
use Rattle.ps_resolve.proofs.Vocabulary.{◌≡◌, ℕ, nat_cmp, zero, suc, ◌+◌, ◌<◌, ◌==◌, ◌++◌, List, [], ◌∷◌, length, take, Bool, true, false, Some, refl, sym, ◌∙◌, ap, subst, arith, append_assoc, append-nil, nat_lt, Decides, bytes_eq, AllByRecursion, IsAllAdjacentAnswer, IsDistinct, filter, list_any, slice_get, false≢true, length-map, IsNonDecreasingBy-from_sort, IsPermutation-refl, IsPermutation-sym, length-filter, slice_get_within, is_private_reference, privates_in, Body, Record, HaveNoNamesakes, IsFirstNamesake, private_numbers, HasEarlierNamesake}
use Rattle.std.specs.Int.{w64, from_be_bytes}
use Rattle.std.specs.List.Sorted.{IsPermutation, IsSorted, IsStrictlyIncreasing}
use Rattle.std.proofs.lemmas.List.Kept.{AllPairs-from_increasing}
use Rattle.std.proofs.lemmas.Map.Keys.{IsDistinct-head, IsDistinct-tail, IsDistinct-from_apart, IsDistinct-IsPermutation, IsStrictlyIncreasing-from_distinct}
use Rattle.ps_resolve.proofs.LookingBack.{again, is_again, more_names, names_of, seen_is}
use Rattle.ps_reading.proofs.NextItems.{longer, take_prefix}

abbrev number : Record → ℕ
number r = from_be_bytes w64 r.name

abbrev is_same : ℕ → ℕ → Bool
is_same x y = x == y

-- two numbers are the same, whichever is compared with the other
flips : (x y : ℕ) → is_same x y ≡ is_same y x
flips x y = grind arith

-- 1. numbers of names
-- a private more, and another record
pub taken : (r : Record) (rs : List Record) → is_private_reference r.body ≡ true
    → private_numbers (r ∷ rs) ≡ number r ∷ private_numbers rs
taken r rs h = rw (h, filter) refl

pub passed : (r : Record) (rs : List Record) → is_private_reference r.body ≡ false
    → private_numbers (r ∷ rs) ≡ private_numbers rs
passed r rs h = rw (h, filter) refl

pub more_numbers : (xs : List ℕ) (r : Record) (rs : List Record)
    → is_private_reference r.body ≡ true
    → xs ++ private_numbers (r ∷ rs) ≡ (xs ++ number r ∷ []) ++ private_numbers rs
more_numbers xs r rs h = grind (arith, append_assoc)

-- the numbers of all privates: these, and those of the records that are left
abbrev pub AreNumbers : List Record → List ℕ → ℕ → List Record → Type 0
AreNumbers all xs n rs = xs ++ private_numbers rs ≡ private_numbers all

-- a number that differs from those of all privates differs from that of each
all_numbers : (x : ℕ) (rs : List Record)
    → AllByRecursion (λ y. is_same x y ≡ false) (private_numbers rs) → (n : ℕ) (r : Record)
    → slice_get rs n ≡ Some r → is_private_reference r.body ≡ true
    → is_same x (number r) ≡ false
all_numbers x [] all n r there is = cc
all_numbers x (s ∷ ss) all zero r there is = grind arith
all_numbers x (s ∷ ss) all (suc n) r there is = grind (arith, all_numbers x ss)

-- where the numbers of the names of privates are distinct, no private has the name of an earlier
-- one
none_again : (rs : List Record) → IsDistinct is_same (private_numbers rs)
    → (rec other : ℕ) (r q : Record) → slice_get rs rec ≡ Some r
    → is_private_reference r.body ≡ true → other < rec → slice_get rs other ≡ Some q
    → is_private_reference q.body ≡ true → q.name ≡ r.name → ⊥
none_again [] d rec other r q there is lt before was name = grind arith
none_again (s ∷ ss) d zero other r q there is lt before was name = absurd (omega (arith, lt))
none_again (s ∷ ss) d (suc n) zero r q there is lt before was name =
    let here : is_private_reference s.body ≡ true = grind arith in
    let apart : IsDistinct is_same (number s ∷ private_numbers ss) = grind (arith, taken) in
    let differ = all_numbers (number s) ss
    (IsDistinct-head is_same (number s) (private_numbers ss) apart) n r there is in
    grind arith
none_again (s ∷ ss) d (suc n) (suc m) r q there is lt before was name =
    none_again ss (rest (is_private_reference s.body) refl) n m r q there is
    (omega (arith, lt)) before was name
  where
    rest : (b : Bool) → is_private_reference s.body ≡ b
        → IsDistinct is_same (private_numbers ss)
    rest b h = grind (arith, IsDistinct-tail, passed)

-- what the test of neighbours says
pub ascends : (xs : List ℕ) (r : Bool) → IsAllAdjacentAnswer (λ x y b. b ≡ nat_lt x y) xs r
    → r ≡ true → IsStrictlyIncreasing xs
ascends xs r h e = grind arith

pub does_not_ascend : (xs : List ℕ) (r : Bool)
    → IsAllAdjacentAnswer (λ x y b. b ≡ nat_lt x y) xs r → r ≡ false
    → IsStrictlyIncreasing xs → ⊥
does_not_ascend xs r h e rises = grind arith

-- where their numbers, in any order, ascend, no two privates have the same name
pub distinct_names : (rs : List Record) (ys : List ℕ) → IsPermutation (private_numbers rs) ys
    → IsStrictlyIncreasing ys → HaveNoNamesakes is_private_reference rs
distinct_names rs ys moved ascends rec r there h =
    none_again rs distinct rec h.1.0 r h.1.2.0 there h.0 h.1.1 h.1.2.1 h.1.2.2.0 h.1.2.2.1
  where
    sorted : IsDistinct is_same ys
    sorted = grind (arith, IsDistinct-from_apart, AllPairs-from_increasing, ascends)

    distinct : IsDistinct is_same (private_numbers rs)
    distinct = IsDistinct-IsPermutation is_same flips ys (private_numbers rs)
        (IsPermutation-sym (private_numbers rs) ys moved) sorted

-- where the numbers of privates, sorted, do not ascend, two are equal
pub shared : (rs : List Record) (ys : List ℕ) → IsPermutation (private_numbers rs) ys
    → IsSorted nat_cmp ys → (IsStrictlyIncreasing ys → ⊥)
    → IsDistinct (λ x y. x == y) (private_numbers rs) → ⊥
shared rs ys moved sorted falls distinct =
    falls (IsStrictlyIncreasing-from_distinct ys
    (IsNonDecreasingBy-from_sort (λ (x : ℕ). x) ys sorted)
    (IsDistinct-IsPermutation is_same flips (private_numbers rs) ys moved distinct))

-- fewer than two numbers ascend
few_ascend : (xs : List ℕ) → length xs < 2 → IsStrictlyIncreasing xs
few_ascend xs few k before = absurd (omega (arith, few, before))

-- there are as many numbers as privates
counted : (rs : List Record) → length (private_numbers rs) ≡ privates_in rs
counted rs =
    let own : Record → Bool = λ r. is_private_reference r.body in
    length-map (filter own rs) number ∙ length-filter own rs

-- no private has the name of an earlier one, where there are fewer than two
pub few_privates : (rs : List Record) → privates_in rs < 2
    → HaveNoNamesakes is_private_reference rs
few_privates rs few =
    distinct_names rs (private_numbers rs) (IsPermutation-refl (private_numbers rs))
    (few_ascend (private_numbers rs) (subst (λ n. n < 2) (sym (counted rs)) few))

-- 2. what was seen of the records
-- a record after a prefix
pub at_end : (prefix : List Record) (r : Record) (rs : List Record)
    → slice_get (prefix ++ r ∷ rs) (length prefix) ≡ Some r
at_end [] r rs = refl
at_end (p ∷ prefix) r rs = at_end prefix r rs

pub same_names : (test : Body → Bool) (prefix : List Record) (r : Record)
    → test r.body ≡ false → names_of test (prefix ++ r ∷ []) ≡ names_of test prefix
same_names test prefix r h = grind (arith, more_names, append-nil)

pub one_name : (test : Body → Bool) (prefix : List Record) (r : Record) → test r.body ≡ true
    → names_of test (prefix ++ r ∷ []) ≡ names_of test prefix ++ r.name ∷ []
one_name test prefix r h = grind (arith, more_names)

-- the records from this index on are left, after the others
pub record Stands (all : List Record) (n : ℕ) (rs : List Record) : Type 0 where
  pub prefix : List Record
  pub whole : all ≡ prefix ++ rs
  pub count : n ≡ length prefix

-- what stands of the records from an index on stands from the next one on
abbrev pub further : (all : List Record) (n : ℕ) (r : Record) (rs : List Record)
    → Stands all n (r ∷ rs) → Stands all (n + 1) rs
further all n r rs s = record {
  prefix = s.prefix ++ r ∷ [];
  whole = s.whole ∙ sym (append_assoc s.prefix (r ∷ []) rs);
  count = let l = longer s.prefix r in omega (arith, l, s.count);
}

pub there : (all : List Record) (n : ℕ) (r : Record) (rs : List Record)
    → Stands all n (r ∷ rs) → slice_get all n ≡ Some r
there all n r rs s = grind (arith, at_end)

-- the name is among those of the records of the kind before it just where one of these has the name
pub looked : (test : Body → Bool) (all : List Record) (n : ℕ) (r : Record) (rs : List Record)
    (s : Stands all n (r ∷ rs)) → test r.body ≡ true
    → Decides (list_any (bytes_eq r.name) (names_of test s.prefix))
    (HasEarlierNamesake test all n r)
looked test all n r rs s is = subst (λ (b : Bool). Decides b (HasEarlierNamesake test all n r))
    same (again test all n r)
  where
    before : take n all ≡ s.prefix
    before = grind (arith, take_prefix)

    same : is_again test all (n, r) ≡ list_any (bytes_eq r.name) (names_of test s.prefix)
    same = grind (arith, before, seen_is)

-- the names of the records of the kind so far, none of which an earlier one has
pub record Scans (test : Body → Bool) (all : List Record) (seen : List (List ℕ)) (n : ℕ)
    (rs : List Record) : Type 0 where
  pub stands : Stands all n rs
  pub same : seen ≡ names_of test stands.prefix
  pub none : (lesser : ℕ) (q : Record) → lesser < n → slice_get all lesser ≡ Some q
      → HasEarlierNamesake test all lesser q → ⊥

pub scans : (test : Body → Bool) (all : List Record) → Scans test all [] 0 all
scans test all = record {
  stands = grind arith;
  same = refl;
  none = λ lesser q lt. absurd (omega (arith, lt));
}

module _ (test : Body → Bool) (all : List Record) (seen : List (List ℕ)) (n : ℕ) (r : Record)
    (rs : List Record) (s : Scans test all seen n (r ∷ rs)) where
  this_is : (q : Record) → slice_get all n ≡ Some q → r ≡ q
  this_is q e = grind (arith, there all n r rs s.stands)

  none_more : (HasEarlierNamesake test all n r → ⊥) → (lesser : ℕ) (q : Record)
      → lesser < n + 1 → slice_get all lesser ≡ Some q
      → HasEarlierNamesake test all lesser q → ⊥
  none_more fresh lesser q lt e h = grind (arith, this_is q)

  pub scan_on : test r.body ≡ false → Scans test all seen (n + 1) rs
  scan_on other = record {
    stands = further all n r rs s.stands;
    same = s.same ∙ sym (same_names test s.stands.prefix r other);
    none = none_more (λ h. false≢true (sym other ∙ h.0));
  }

  pub scan_more : test r.body ≡ true → list_any (bytes_eq r.name) seen ≡ false
      → Scans test all (seen ++ r.name ∷ []) (n + 1) rs
  scan_more is new = record {
    stands = further all n r rs s.stands;
    same = grind (arith, one_name);
    none = none_more (λ h. false≢true
        (sym (ap (λ (xs : List (List ℕ)). list_any (bytes_eq r.name) xs) (sym s.same) ∙ new)
        ∙ (looked test all n r rs s.stands is).1 h));
  }

  pub scan_found : test r.body ≡ true → list_any (bytes_eq r.name) seen ≡ true
      → IsFirstNamesake test all n
  scan_found is old =
      grind (arith, there all n r rs s.stands, again, looked test all n r rs s.stands is)

-- where no record is left to look at, none of the kind has the name of an earlier one
pub scan_end : (test : Body → Bool) (all : List Record) (seen : List (List ℕ)) (n : ℕ)
    → Scans test all seen n [] → HaveNoNamesakes test all
scan_end test all seen n s rec r e h = grind (arith, append-nil, slice_get_within)
