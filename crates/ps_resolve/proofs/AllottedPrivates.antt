-- One record more of the privates.
use Rattle.ps_resolve.proofs.Vocabulary.{rules, ◌≡◌, ℕ, ◌+◌, ◌<◌, ◌≤◌, ◌++◌, List, [], ◌∷◌, length, length-append, Bool, true, false, nat_lt, is_some, Option, Some, None, refl, sym, ◌∙◌, ap, arith, append_assoc, nat_eq, Decides, bytes_eq, option_eq, list_any, slice_get, nat_tests, is_private_reference, privates_in, Owner, words_in, allotted_privates, private_words, private_fault, all_allotted, all_words, first_private_fault, unallotted_fault, unfit_fault, IsStop, Fault, Record, FindsNamesake, HasEarlierNamesake, Stop, Private, MAX_NEXT_FREE}
use Rattle.std.specs.Prelude.{⊤}
use Rattle.ps_resolve.specs.declared.linkage.Stop.TheVariants.{Memory, Refused}
use Rattle.ps_words.specs.declared.fault.Reason.TheVariants as reason
use Rattle.ps_reading.proofs.RecordCounts.{one_private}
use Rattle.ps_resolve.proofs.LookingBack.{requests_is, names}
use Rattle.ps_resolve.proofs.EarlierNames.{Stands, further, looked, one_name, same_names, there}
use Rattle.ps_reading.specs.declared.locations.SegmentAt.{SegmentAt}

module _ (slot rec next : ℕ) (seen : List (List ℕ)) (ps : List Private) (r : Record)
    (rs : List Record) where
  pub skip_privates : words_in r.body ≡ None → ps ++ allotted_privates slot rec next (r ∷ rs)
      ≡ ps ++ allotted_privates slot (rec + 1) next rs
  skip_privates h = rw (h, allotted_privates) refl

  pub skip_words : words_in r.body ≡ None → private_words (r ∷ rs) ≡ private_words rs
  skip_words h = rw (h, private_words) refl

  pub skip_fault : words_in r.body ≡ None
      → private_fault rec next seen (r ∷ rs) ≡ private_fault (rec + 1) next seen rs
  skip_fault h = rw (h, private_fault) refl

  pub more_privates : (w : ℕ) → words_in r.body ≡ Some w
      → ps ++ allotted_privates slot rec next (r ∷ rs)
      ≡ (ps ++ record { slot = slot; rec = rec; name = r.name; offset = next; words = w }
      ∷ []) ++ allotted_privates slot (rec + 1) (next + w) rs
  more_privates w h = grind (arith, append_assoc)

  pub more_fault : (w : ℕ) → words_in r.body ≡ Some w
      → list_any (bytes_eq r.name) seen ≡ false → next + w ≤ MAX_NEXT_FREE
      → private_fault rec next seen (r ∷ rs)
      ≡ private_fault (rec + 1) (next + w) (seen ++ r.name ∷ []) rs
  more_fault w h k le = grind arith

-- what requests a private is counted
pub privates_counted : (slot n next : ℕ) (rs : List Record)
    → length (allotted_privates slot n next rs) ≡ privates_in rs
privates_counted slot n next [] = refl
privates_counted slot n next (r ∷ rs) =
    at (λ m free. privates_counted slot m free rs) (words_in r.body) refl
  where
    at : ((m free : ℕ) → length (allotted_privates slot m free rs) ≡ privates_in rs)
        → (o : Option ℕ) → words_in r.body ≡ o
        → length (allotted_privates slot n next (r ∷ rs)) ≡ privates_in (r ∷ rs)
    at rest None h = let a = one_private r rs false (requests_is r.body ∙ ap is_some h) in let b =
        ap length (skip_privates slot n next [] [] r rs h) in omega (arith, rest (n + 1) next)
    at rest (Some w) h =
        let a = one_private r rs true (requests_is r.body ∙ ap is_some h) in let b =
        ap length (more_privates slot n next [] [] r rs w h) in
        grind arith

-- where none requests one, there is none
pub record NoPrivates (slot next : ℕ) (rs : List Record) : Type 0 where
  pub privates : allotted_privates slot 0 next rs ≡ []
  pub words : private_words rs ≡ 0
  pub first : private_fault 0 next [] rs ≡ None

-- where no record requests a private, none is allotted, no word is taken, and no private has a
-- fault
no_requests : (slot next : ℕ) (rs : List Record) (n : ℕ) → privates_in rs ≡ 0
    → (allotted_privates slot n next rs ≡ []) × (private_words rs ≡ 0)
    × (private_fault n next [] rs ≡ None)
no_requests slot next [] n h = (refl, refl, refl)
no_requests slot next (r ∷ rs) n h =
    grind (
      arith,
      requests_is r.body,
      skip_privates slot n next,
      skip_words slot n next,
      skip_fault slot n next,
      one_private r rs true,
      no_requests slot next rs (n + 1),
    )

pub no_privates : (slot next : ℕ) (rs : List Record) → privates_in rs ≡ 0
    → NoPrivates slot next rs
no_privates slot next rs h = grind (arith, no_requests slot next rs 0 h)

-- a name that is there already, and a private that ends too far
module _ (n next : ℕ) (seen : List (List ℕ)) (r : Record) (rs : List Record) (w : ℕ)
    (requests : words_in r.body ≡ Some w) where
  pub again_fault : list_any (bytes_eq r.name) seen ≡ true
      → private_fault n next seen (r ∷ rs) ≡ Some (n, reason.DoubledPrivate)
  again_fault k = rw (requests, private_fault) (rw k refl)

-- With the privates so far, those of the records from this index on are all, and so with words and
-- faults. The first that is a duplicate, if there is one, is none of those before.
pub record Allots (slot next : ℕ) (duplicate : Option ℕ) (before : List Private)
    (all : List Record) (ps : List Private) (free n : ℕ) (rs : List Record) : Type 0 where
  pub stands : Stands all n rs
  pub later : (m : ℕ) → duplicate ≡ Some m → n ≤ m
  pub privates : ps ++ allotted_privates slot n free rs
      ≡ before ++ allotted_privates slot 0 next all
  pub words : free + private_words rs ≡ next + private_words all
  pub first : private_fault n free (names stands.prefix) rs ≡ private_fault 0 next [] all

pub allots : (slot next : ℕ) (duplicate : Option ℕ) (before : List Private) (all : List Record)
    → Allots slot next duplicate before all before next 0 all
allots slot next duplicate before all = record {
  stands = grind arith;
  later = λ m e. omega arith;
  privates = refl;
  words = refl;
  first = refl;
}

-- what the test of the first that is a duplicate says
pub is_duplicate : (d : Option ℕ) (n : ℕ) → option_eq nat_eq d (Some n) ≡ true
    → d ≡ Some n
is_duplicate d n h = grind arith

pub not_duplicate : (d : Option ℕ) (n : ℕ) → option_eq nat_eq d (Some n) ≡ false
    → d ≡ Some n → ⊥
not_duplicate d n h e = grind arith

module _ {slot next : ℕ} {duplicate : Option ℕ} {before : List Private} {all : List Record}
    {ps : List Private} {free n : ℕ} {r : Record} {rs : List Record}
    (found : FindsNamesake is_private_reference all duplicate)
    (a : Allots slot next duplicate before all ps free n (r ∷ rs)) where
  here : slice_get all n ≡ Some r
  here = there all n r rs a.stands

  -- the record of the first that is a duplicate has an earlier namesake, and no other so far has
  duplicate_here : duplicate ≡ Some n → HasEarlierNamesake is_private_reference all n r
  duplicate_here e = grind (arith, here)

  not_here : (duplicate ≡ Some n → ⊥) → HasEarlierNamesake is_private_reference all n r
      → ⊥
  not_here other h = search (rules, here)

  on : (duplicate ≡ Some n → ⊥) → (m : ℕ) → duplicate ≡ Some m → n + 1 ≤ m
  on other m e = grind arith

  requests : (w : Option ℕ) → words_in r.body ≡ w
      → is_private_reference r.body ≡ is_some w
  requests w h = grind arith

  pub allot_on : words_in r.body ≡ None
      → Allots slot next duplicate before all ps free (n + 1) rs
  allot_on passed = record {
    stands = further all n r rs a.stands;
    later = grind (arith, requests, duplicate_here);
    privates = grind arith;
    words = grind arith;
    first = grind (arith, same_names, skip_fault, names);
  }

  module _ {w : ℕ} (some : words_in r.body ≡ Some w) where
    is_seen : Decides (list_any (bytes_eq r.name) (names a.stands.prefix))
        (HasEarlierNamesake is_private_reference all n r)
    is_seen = looked is_private_reference all n r rs a.stands (requests (Some w) some)

    fresh : (duplicate ≡ Some n → ⊥)
        → list_any (bytes_eq r.name) (names a.stands.prefix) ≡ false
    fresh other = not_seen (list_any (bytes_eq r.name) (names a.stands.prefix))
        (λ e. not_here other (is_seen.0 e))
      where
        not_seen : (b : Bool) → (b ≡ true → ⊥) → b ≡ false
        not_seen b h = grind arith

    pub allot_more : (duplicate ≡ Some n → ⊥) → free + w ≤ MAX_NEXT_FREE
        → Allots slot next duplicate before all
        (ps ++ record { slot = slot; rec = n; name = r.name; offset = free; words = w } ∷ [])
        (free + w) (n + 1) rs
    allot_more other fits = record {
      stands = further all n r rs a.stands;
      later = on other;
      privates = grind (arith, more_privates);
      words = grind arith;
      first = grind (arith, one_name, more_fault, names, fresh);
    }

    pub duplicate_fault : duplicate ≡ Some n
        → private_fault 0 next [] all ≡ Some (n, reason.DoubledPrivate)
    duplicate_fault e = sym a.first ∙ again_fault n free (names a.stands.prefix) r rs w some
        (is_seen.1 (duplicate_here e))

    pub room_fault : (duplicate ≡ Some n → ⊥) → MAX_NEXT_FREE < free + w
        → private_fault 0 next [] all ≡ Some (n, reason.NoRoom)
    room_fault other lt = grind (arith, nat_tests, names, fresh)

-- a stop at the private of a record is one at all
module _ {slot next : ℕ} {duplicate : Option ℕ} {before : List Private} {all : List Record}
    {ps : List Private} {free n : ℕ} {r : Record} {rs : List Record} {w : ℕ}
    (found : FindsNamesake is_private_reference all duplicate)
    (a : Allots slot next duplicate before all ps free n (r ∷ rs))
    (some : words_in r.body ≡ Some w) (file : ℕ) where
  abbrev requested : Private
  requested = record { slot = slot; rec = n; name = r.name; offset = free; words = w }

  refused_at : (f : Fault) (again : Bool) → option_eq nat_eq duplicate (Some n) ≡ again
      → (far : Bool) → nat_lt MAX_NEXT_FREE (free + w) ≡ far
      → unfit_fault file slot duplicate requested ≡ Some f
      → unallotted_fault file slot next all ≡ Some f
  refused_at f true is far lt h =
      let first = duplicate_fault found a some (is_duplicate duplicate n is) in
      grind arith
  refused_at f false is true lt h =
      let far : MAX_NEXT_FREE < free + w = grind (arith, nat_tests) in
      let first = room_fault found a some (not_duplicate duplicate n is) far in
      grind arith
  refused_at f false is false lt h = grind arith

  pub stopped_at : (stop : Stop) → 0 < length (allotted_privates slot 0 next all)
      → IsStop ⊤ (unfit_fault file slot duplicate requested) stop
      → IsStop (0 < length (allotted_privates slot 0 next all))
      (unallotted_fault file slot next all) stop
  stopped_at Memory wanted h = wanted
  stopped_at (Refused f) wanted h = refused_at f (option_eq nat_eq duplicate (Some n)) refl
      (nat_lt MAX_NEXT_FREE (free + w)) refl h

-- With the privates so far, those of the segments that are left are all, and so with words and
-- faults.
pub record AllotsAll (next : ℕ) (all : List Owner) (ps : List Private) (free : ℕ)
    (rest : List Owner) : Type 0 where
  pub privates : ps ++ all_allotted free rest ≡ all_allotted next all
  pub words : free + all_words rest ≡ next + all_words all
  pub first : first_private_fault free rest ≡ first_private_fault next all

module _ {next : ℕ} {all : List Owner} {ps : List Private} {free : ℕ} (s : Owner)
    {rest : List Owner} (a : AllotsAll next all ps free (s ∷ rest)) where
  -- a segment more
  pub segment_on : (now : List Private) (end : ℕ)
      → now ≡ ps ++ allotted_privates s.0.slot 0 free s.1 → end ≡ free + private_words s.1
      → private_fault 0 free [] s.1 ≡ None → AllotsAll next all now end rest
  segment_on now end is words none = record {
    privates = rw (is, words, append_assoc) a.privates;
    words = omega (arith, a.words, words);
    first = grind (arith, a.first);
  }

  -- a segment without records
  pub segment_passed : s.1 ≡ [] → AllotsAll next all ps free rest
  segment_passed none = grind (arith, a)

-- a stop at the first segment that is left is one at all
module _ (place : SegmentAt) (rs : List Record) (rest all : List Owner) (next free : ℕ) where
  pub stopped_in : (before : List Private) (stop : Stop)
      → before ++ all_allotted free ((place, rs) ∷ rest) ≡ all_allotted next all
      → first_private_fault free ((place, rs) ∷ rest) ≡ first_private_fault next all
      → IsStop (0 < length (allotted_privates place.slot 0 free rs))
      (unallotted_fault place.file place.slot free rs) stop
      → IsStop (0 < length (all_allotted next all)) (first_private_fault next all) stop
  stopped_in before stop privates first d = grind (arith, length-append)
