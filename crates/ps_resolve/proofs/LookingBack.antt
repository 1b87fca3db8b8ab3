-- The searches of a segment's records that carry what came before are those that look back over the
-- records. What is said of whole links, in ps_laws, is on them too.
pub use Rattle.ps_reading.proofs.NextItems.{longer, take_prefix}
use Rattle.ps_resolve.proofs.Vocabulary.{◌≡◌, ℕ, zero, suc, ◌+◌, ◌<◌, List, [], ◌∷◌, ◌++◌, length, take, map, Option, Some, Bool, true, refl, sym, inl, inr, arith, append_assoc, append-nil, is_some, ◌⊎◌, ◌&&◌, ◌||◌, nat_lt, Decides, bytes_eq, enumerate_from, slice_get, list_any, filter, cons_option, option_map, option_or, Decides-and, Decides-or, Decides-like, map-append, take_at, filter-append, filter_map-append, bytes_eq-Decides, Body, Record, Fault, Reason, first_of, fault_if, def_in, definition_in, definitions, definition_of, first_duplicate_from, words_in, private_words, private_fault, HasEarlierNamesake, is_definition, is_private_reference, words_taken, MAX_NEXT_FREE}
use Rattle.ps_words.specs.declared.fault.Reason.TheVariants as reason
use Rattle.ps_reading.specs.Standing.Phrases.{SomeBelow}

pub of_test : (b : Bool) → Decides b (b ≡ true)
of_test b = (λ e. e, λ e. e)

-- a test of the items of a prefix
pub any_of_take : {A : Type 0} (test : A → Bool) (P : A → Type 0)
    → ((a : A) → Decides (test a) (P a)) → (n : ℕ) (items : List A)
    → Decides (list_any test (take n items))
    (SomeBelow n (λ i. (q : A) × (slice_get items i ≡ Some q) × P q))
any_of_take test P d zero items = grind arith
any_of_take test P d (suc n) [] = grind arith
any_of_take {A} test P d (suc n) (a ∷ items) =
    Decides-like (test a || list_any test (take n items))
    (elim [
      | inl p ↦ (zero, omega arith, (a, refl, p))
      | inr t ↦ (suc t.0, omega (arith, t.1), (t.2.0, t.2.1, t.2.2))
    ])
    (λ t. go t.0 t.2.0 t.1 t.2.1 t.2.2)
    (Decides-or (test a) (list_any test (take n items)) (d a) (any_of_take test P d n items))
  where
    go : (i : ℕ) (q : A) → i < suc n → slice_get (a ∷ items) i ≡ Some q → P q
        → P a ⊎ SomeBelow n (λ i. (q : A) × (slice_get items i ≡ Some q) × P q)
    go i q h e p = grind arith

-- the record passes the test, and so does one before it that has its name
abbrev pub is_again : (Body → Bool) → List Record → ℕ × Record → Bool
is_again test records r = test r.1.body && list_any (λ q. test q.body && bytes_eq r.1.name q.name)
    (take r.0 records)

-- the test says whether the record is of the kind and has the name of an earlier one of the kind
pub again : (test : Body → Bool) (records : List Record) (rec : ℕ) (r : Record)
    → Decides (is_again test records (rec, r)) (HasEarlierNamesake test records rec r)
again test records rec r =
    Decides-and (test r.body) (list_any (λ q. test q.body && bytes_eq r.name q.name)
    (take rec records)) (of_test (test r.body))
    (any_of_take (λ q. test q.body && bytes_eq r.name q.name)
    (λ q. (test q.body ≡ true) × (q.name ≡ r.name))
    (λ q. Decides-and (test q.body) (bytes_eq r.name q.name) (of_test (test q.body))
    (Decides-like (bytes_eq r.name q.name) (λ e. sym e) (λ e. sym e)
    (bytes_eq-Decides r.name q.name))) rec records)

-- a record defines a name where it has a definition
pub defines_is : (b : Body) → is_definition b ≡ is_some (def_in b)
defines_is b = grind arith

abbrev defined : List ℕ → Record → Bool
defined name q = is_definition q.body && bytes_eq name q.name

-- the definitions have the name where a record does
known : (name : List ℕ) (prefix : List Record)
    → is_some (definition_of name (definitions prefix)) ≡ list_any (defined name) prefix
known name [] = refl
known name (q ∷ prefix) = grind (arith, known name prefix)

-- one record more adds its definition, if it has one
more_definitions : (prefix : List Record) (r : Record)
    → definitions (prefix ++ r ∷ []) ≡ definitions prefix ++ cons_option (definition_in r) []
more_definitions prefix r = grind (arith, filter_map-append)

-- the search that carries the definitions so far is the one that looks back
pub definitions_carried : (h : ℕ → Fault) (prefix rs : List Record) (rec : ℕ)
    → rec ≡ length prefix → option_map h (first_duplicate_from rec (definitions prefix) rs)
    ≡ first_of (λ (r : ℕ × Record). fault_if (is_again is_definition (prefix ++ rs) r)
    (h r.0)) (enumerate_from rec rs)
definitions_carried h prefix [] rec e = refl
definitions_carried h prefix (r ∷ rs) rec e =
    grind (
      arith,
      take_at prefix (r ∷ rs) rec (sym e),
      append_assoc prefix (r ∷ []) rs,
      more_definitions prefix r,
      append-nil (definitions prefix),
      known r.name prefix,
      defines_is r.body,
      definitions_carried h (prefix ++ r ∷ []) rs (rec + 1) (omega (arith, longer prefix r, e)),
    )

-- a record requests a private where that takes words
pub requests_is : (b : Body) → is_private_reference b ≡ is_some (words_in b)
requests_is b = grind arith

-- the names of the records of a kind
abbrev pub names_of : (Body → Bool) → List Record → List (List ℕ)
names_of test rs = map (λ (q : Record). q.name) (filter (λ (q : Record). test q.body) rs)

-- the names of the privates
abbrev pub names : List Record → List (List ℕ)
names rs = names_of is_private_reference rs

abbrev pub has_name : (Body → Bool) → List ℕ → Record → Bool
has_name test name q = test q.body && bytes_eq name q.name

-- a name is among those of the records of a kind where one of these records has it
pub seen_is : (test : Body → Bool) (name : List ℕ) (prefix : List Record)
    → list_any (bytes_eq name) (names_of test prefix) ≡ list_any (has_name test name) prefix
seen_is test name [] = refl
seen_is test name (q ∷ prefix) = grind (arith, seen_is test name prefix)

-- one record more adds its name, if it is of the kind
pub more_names : (test : Body → Bool) (prefix : List Record) (r : Record)
    → names_of test (prefix ++ r ∷ []) ≡ names_of test prefix ++ names_of test (r ∷ [])
more_names test prefix r = grind (arith, filter-append, map-append)

-- one record more, before the others or after them, adds the words of its private, if it requests
-- one
pub words_before : (r : Record) (rs : List Record)
    → private_words (r ∷ rs) ≡ words_taken r.body + private_words rs
words_before r rs = grind arith

pub more_words : (prefix : List Record) (r : Record)
    → private_words (prefix ++ r ∷ []) ≡ private_words prefix + words_taken r.body
more_words [] r = omega (arith, words_before r [])
more_words (q ∷ prefix) r = grind (arith, more_words prefix r)

-- why a private cannot be allotted, by the records before it and by its offset
abbrev pub reason_at : (ℕ → ℕ) → List Record → ℕ × Record → Option Reason
reason_at offset records r =
    option_or (fault_if (is_again is_private_reference records r) reason.DoubledPrivate)
    (fault_if (is_private_reference r.1.body
    && nat_lt MAX_NEXT_FREE (offset r.0 + words_taken r.1.body)) reason.NoRoom)

abbrev pub record_fault : (Reason → ℕ → Fault) → (ℕ → ℕ) → List Record
    → ℕ × Record → Option Fault
record_fault h offset records r = option_map (λ why. h why r.0) (reason_at offset records r)

-- the search that carries the names and the offset so far is the one that looks back
pub privates_carried : (h : Reason → ℕ → Fault) (offset : ℕ → ℕ) (base : ℕ)
    (prefix rs : List Record) (rec : ℕ) → rec ≡ length prefix
    → ((n : ℕ) → offset n ≡ base + private_words (take n (prefix ++ rs)))
    → option_map (λ (f : ℕ × Reason). h f.1 f.0)
    (private_fault rec (base + private_words prefix) (names prefix) rs)
    ≡ first_of (record_fault h offset (prefix ++ rs)) (enumerate_from rec rs)
privates_carried h offset base prefix [] rec e offsets = refl
privates_carried h offset base prefix (r ∷ rs) rec e offsets = grind (
  arith,
  take_at prefix (r ∷ rs) rec (sym e),
  append_assoc prefix (r ∷ []) rs,
  more_words prefix r,
  more_names is_private_reference prefix r,
  append-nil (names prefix),
  seen_is is_private_reference r.name prefix,
  requests_is r.body,
  privates_carried h offset base (prefix ++ r ∷ []) rs (rec + 1)
      (omega (arith, longer prefix r, e)),
)
