-- The first fault of each step is the smallest that is.
use Rattle.ps_laws.proofs.Vocabulary.{◌⊎◌, if◌then◌else◌, ◌&&◌, Decides, range_with_len, list_any, option_map, option_map_or, result_ok, result_err, bytes_eq, cases_lt, false≢true, Decides-ltb, Decides-and, Decides-like, bytes_eq-Decides, entry_at, role_of, Because, SomeBelow, HasRole, IsUnitSlot, Step, OfHost, OfSlots, OfNoHost, OfLibraries, rank, Role, is_role, is_host, is_unit, Order, Reason, Fault, rules, ◌≡◌, ℕ, zero, suc, ◌+◌, ◌<◌, ◌≤◌, List, length, Option, Result, Ok, Err, Bool, false, refl, subst, inl, inr, arith, Decides-not, FileOrder, file_order, opened_alone, opened_as, opened_beside_as, same_order, SlotHas, InSlots, InNoHost, in_file, SLOTS}
use Rattle.ps_resolve.specs.Standing.Hosts.{HostHas, InHost}
use Rattle.ps_resolve.specs.Standing.Libraries.{LibraryHas, InLibraries}
use Rattle.ps_resolve.specs.Faults.{host_fault, slot_reason, slots_fault, no_host_fault, library_reason, libraries_fault}
use Rattle.ps_laws.proofs.Least.{Least, nothing, this, Precedes, least_same, least_order, least_or, least_if, least_map, least_below, least_each}
use Rattle.ps_codefile.specs.declared.entry.Role.TheVariants as role
use Rattle.ps_words.specs.declared.fault.Reason.TheVariants as reason

abbrev pub Ranked : Reason → Reason → Type 0
Ranked a b = rank a < rank b

-- reasons at one place, by rank
pub because : {P : Reason → Type 0} {o : Option Reason} (step : Step) (h : Reason → Fault)
    → ((a b : Reason) → Ranked a b → Precedes step (h a) (h b)) → Least Ranked P o
    → Least (Precedes step) (Because h P) (option_map h o)
because step h ranked l = least_map h (least_order (λ x y s t r. ranked x y r) l)

-- two places
pub because_apart : {A C : Type 0} {P : A → Type 0} {Q : C → Type 0} (step : Step)
    (h : A → Fault) (k : C → Fault) → ((a : A) (c : C) → Precedes step (h a) (k c))
    → (x y : Fault) → Because h P x → Because k Q y → Precedes step x y
because_apart step h k apart x y s t = grind arith

pub least_err : {X Y : Type 0} {B : X → X → Type 0} (r : Result Y X)
    → Least B (λ x. r ≡ Err x) (result_err r)
least_err (Ok y) = nothing (λ x e. cc)
least_err (Err y) = this y refl (λ x e. inl (cc))

module _ (test : ℕ → Bool) (P : ℕ → Type 0) where
  -- a test of the numbers of a range
  pub any_of_range : ((i : ℕ) → Decides (test i) (P i)) → (a n : ℕ) → Decides
      (list_any test (range_with_len a n)) ((i : ℕ) × (a ≤ i) × (i < a + n) × P i)
  any_of_range d a zero = grind (arith, false≢true)
  any_of_range d a (suc n) = grind (arith, cases_lt, any_of_range d (a + 1) n)

  pub any_lesser : ((i : ℕ) → Decides (test i) (P i))
      → (n : ℕ) → Decides (list_any test (range_with_len 0 n)) (SomeBelow n P)
  any_lesser d n = search (rules, arith, any_of_range)

-- 1
host_reason : (host : List ℕ) → Least Ranked (HostHas host) (result_err (opened_alone host))
host_reason host = go _ _ (Decides-ltb _ 512) refl
  where
    go : (b : Bool) (o : FileOrder) → Decides b (length host < 512) → file_order host ≡ o
        → Least Ranked (HostHas host) (result_err
        (if b then Err reason.ShortFile else opened_as host o))
    go b o d e = grind (arith, this, nothing)

pub step_1 : (host : List ℕ) → Least (Precedes OfHost) (InHost host) (host_fault host)
step_1 host = because OfHost (in_file 0) (λ a b r. grind arith) (host_reason host)

-- 4
is_same : (other order : Order) → Decides (same_order other order) (other ≡ order)
is_same other order = grind arith

-- the reason that is given for a library is the one of smallest rank that applies
library_reasons : (order : Order) (lib : List ℕ)
    → Least Ranked (LibraryHas order lib) (library_reason order lib)
library_reasons order lib = go _ _ (Decides-ltb _ 512) refl
  where
    go : (b : Bool) (o : FileOrder) → Decides b (length lib < 512) → file_order lib ≡ o
        → Least Ranked (LibraryHas order lib)
        (result_err (if b then Err reason.ShortFile else opened_beside_as order lib o))
    go b o d e = grind (arith, this, nothing, is_same)

-- the first fault of the libraries is the smallest that applies
pub step_4 : (order : Order) (libs : List (List ℕ))
    → Least (Precedes OfLibraries) (InLibraries order libs) (libraries_fault order libs)
unfolding libraries_fault
step_4 order libs =
    least_same (λ f t. (let has = subst (λ k. Because (in_file k) (LibraryHas order t.2) f)
    (omega (arith, t.3)) t.5 in (t.0, t.2, t.4, has)))
    (λ f t. (t.0, t.0 + 1, t.1, omega arith, t.2, t.3)) (least_each _ 1 libs (λ i k lib q e.
    because OfLibraries _ (λ a b r. grind arith) (library_reasons order lib)) (λ i j a b x y h.
    because_apart OfLibraries _ _ (λ r q. inr (refl, inl h)) x y))

-- 2 the test of a role passes just where there is one, and it is Host
pub host_role : (r : Result Role Reason)
    → Decides (option_map_or is_host (result_ok r) false) (r ≡ Ok role.Host)
host_role r = grind arith

-- the test of a role passes just where there is one, and it is Unit or Wanted
pub unit_role : (r : Result Role Reason) → Decides
    (option_map_or is_unit (result_ok r) false) ((r ≡ Ok role.Unit) ⊎ (r ≡ Ok role.Wanted))
unit_role r = grind arith

module _ (order : Order) (host : List ℕ) where
  -- the reason that is given for a slot is the one of smallest rank that applies
  slot_rows : (slot : ℕ) → Least Ranked (SlotHas order host slot) (slot_reason order host slot)
  slot_rows slot = least_same to from (least_or (least_err _) (least_or (least_if _ reason.TwoHosts
      (Decides-and _ _ (hosts slot) (any_lesser _ (λ i. HasRole order host i role.Host) hosts
      slot))) (least_if _ reason.DoubledSegment (Decides-and _ _ (units slot) (any_lesser same
      (λ i. IsUnitSlot order host i × (name i ≡ name slot)) (λ i. Decides-and _ _ (units i)
      (bytes_eq-Decides _ _)) slot))) (λ x y s t. rw (s.0, t.0) (omega arith))) apart)
    where
      name : ℕ → List ℕ
      name i = (entry_at order host i).name

      same : ℕ → Bool
      same i = is_role is_unit order host i
          && bytes_eq (entry_at order host i).name (entry_at order host slot).name

      hosts : (i : ℕ) → Decides (is_role is_host order host i) (HasRole order host i role.Host)
      hosts i = host_role (role_of (entry_at order host i))

      units : (i : ℕ) → Decides (is_role is_unit order host i) (IsUnitSlot order host i)
      units i = unit_role (role_of (entry_at order host i))

      Second : Reason → Type 0
      Second x = (x ≡ reason.TwoHosts) × (HasRole order host slot role.Host
          × SomeBelow slot (λ i. HasRole order host i role.Host))

      Third : Reason → Type 0
      Third x = (x ≡ reason.DoubledSegment) × (IsUnitSlot order host slot
          × SomeBelow slot (λ i. IsUnitSlot order host i × (name i ≡ name slot)))

      to : (x : Reason) → (role_of (entry_at order host slot) ≡ Err x)
          ⊎ (Second x ⊎ Third x) → SlotHas order host slot x
      to x h1 = search (rules, arith)

      from : (x : Reason) → SlotHas order host slot x
          → (role_of (entry_at order host slot) ≡ Err x) ⊎ (Second x ⊎ Third x)
      from x h = grind arith

      apart : (x y : Reason)
          → role_of (entry_at order host slot) ≡ Err x → Second y ⊎ Third y → Ranked x y
      apart x y e = grind arith

  -- the first fault of the slots is the smallest that applies
  pub step_2 : Least (Precedes OfSlots) (InSlots order host) (slots_fault order host)
  unfolding slots_fault
  step_2 = least_below _ SLOTS
      (λ slot lt. because OfSlots _ (λ a b r. grind arith) (slot_rows slot))
      (λ i j x y h. because_apart OfSlots _ _ (λ r q. inr (refl, inl h)) x y)

  -- 3
  pub step_3 : Least (Precedes OfNoHost) (InNoHost order host) (no_host_fault order host)
  unfolding no_host_fault
  step_3 = least_if _ _ (Decides-like _ (λ n slot h r. n (slot, h, r)) (λ n t. n t.0 t.1 t.2)
      (Decides-not _ (any_lesser _ (λ i. HasRole order host i role.Host)
      (λ i. host_role _) SLOTS)))
