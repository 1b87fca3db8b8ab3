-- Lists whose items are changed one by one, and searches by functions that agree. What is known of
-- all segments does not depend on where each of them comes from.
use Rattle.std.proofs.Math.ListN.{drop}
use Rattle.ps_laws.proofs.Vocabulary.{Bool, List, None, Option, SLOTS, Segment, Some, [], arith, false, filter_map, find, first_of, host_records, if◌then◌else◌, is_none, list_any, map, nat_lt, nat_tests, option_map, option_map_or, option_or, refl, slice_get, slots, suc, total_words, true, units_of, zero, ℕ, ◌&&◌, ◌+◌, ◌<◌, ◌∷◌, ◌≡◌}
use Rattle.ps_lists.proofs.Items.{In, of_range}

-- two options: both are there, and so related, or neither is
pub data Both {A : Type 0} (R : A → A → Type 0) : Option A → Option A → Type 0 where
  neither : Both R None None
  both : (a b : A) → R a b → Both R (Some a) (Some b)

pub none_alike : {A : Type 0} {R : A → A → Type 0} (o p : Option A) → Both R o p
    → is_none p ≡ is_none o
none_alike o p neither = refl
none_alike o p (both a b r) = refl

-- a slot is below SLOTS
pub in_slots : (i : ℕ) → In i slots → i < SLOTS
in_slots i t = let h = (of_range 0 SLOTS i t.0 t.1).1 in omega (arith, h)

pub and_left : (a b : Bool) → (a && b) ≡ true → a ≡ true
and_left true b h = refl
and_left false b h = h

-- the function, of slots alone
abbrev pub clipped : {A : Type 0} → A → (ℕ → A) → ℕ → A
clipped d f i = if nat_lt i SLOTS then f i else d

-- functions that agree on the slots: so do searches among these by such functions
pub same_clipped : {A : Type 0} (d : A) (f g : ℕ → A)
    → ((i : ℕ) → i < SLOTS → f i ≡ g i) → clipped d f ≡ clipped d g
same_clipped {A} d f g h = λ j i. at i j
  where
    at : (i : ℕ) → clipped d f i ≡ clipped d g i
    at i = grind (arith, nat_tests, h i)

-- a search among changed items
pub find_mapped : {A C : Type 0} (test : C → Bool) (f : A → C) (xs : List A)
    → find test (map f xs) ≡ option_map f (find (λ x. test (f x)) xs)
find_mapped test f [] = refl
find_mapped test f (x ∷ xs) = grind (arith, find_mapped test f xs)

pub any_mapped : {A C : Type 0} (test : C → Bool) (f : A → C) (xs : List A)
    → list_any test (map f xs) ≡ list_any (λ x. test (f x)) xs
any_mapped test f [] = refl
any_mapped test f (x ∷ xs) = grind (arith, any_mapped test f xs)

-- the first of two, each of which is another's, changed
pub or_moved : {A : Type 0} (m : A → A) (a b x y : Option A) → b ≡ option_map m a
    → (a ≡ None → y ≡ option_map m x) → option_or b y ≡ option_map m (option_or a x)
or_moved m a b x y e h = grind arith

-- the first that the items give, where each gives another one's, changed
pub first_mapped : {A C : Type 0} (m : C → C) (f g : A → Option C) (xs : List A)
    → ((x : A) → In x xs → g x ≡ option_map m (f x))
    → first_of g xs ≡ option_map m (first_of f xs)
first_mapped m f g [] h = refl
first_mapped m f g (x ∷ xs) h = or_moved m (f x) (g x) _ _ (h x (0, refl))
    (λ n. first_mapped m f g xs (λ y t. h y (suc t.0, t.1)))

-- all that the items give, where each gives another one's, changed
pub all_mapped : {A C : Type 0} (m : C → C) (f g : A → Option C) (xs : List A)
    → ((x : A) → In x xs → g x ≡ option_map m (f x))
    → filter_map g xs ≡ map m (filter_map f xs)
all_mapped m f g [] h = refl
all_mapped m f g (x ∷ xs) h =
    grind (arith, h x (0, refl), all_mapped m f g xs (λ y t. h y (suc t.0, t.1)))

-- the items from one on
pub drop_at : (xs : List ℕ) (k : ℕ)
    → drop k xs ≡ option_map_or (λ x. x ∷ drop (k + 1) xs) (slice_get xs k) []
drop_at [] zero = refl
drop_at [] (suc k) = refl
drop_at (x ∷ xs) zero = refl
drop_at (x ∷ xs) (suc k) = let e : suc k + 1 ≡ suc (k + 1) = omega arith in rw e (drop_at xs k)

module _ (new : Segment → Segment) where
  -- the segment, but from where `new` has it from
  abbrev pub moved : Segment → Segment
  moved s = record (new s) {
    slot = s.slot;
    name = s.name;
    role = s.role;
    code = s.code;
    records = s.records;
  }

  -- what is known of all segments
  pub known_moved : (segs : List Segment) → (host_records (map moved segs) ≡ host_records segs)
      × (units_of (map moved segs) ≡ units_of segs)
      × (total_words (map moved segs) ≡ total_words segs)
  known_moved [] = (refl, refl, refl)
  known_moved (s ∷ segs) = (
    grind (arith, known_moved segs),
    grind (arith, known_moved segs),
    grind (arith, known_moved segs),
  )
