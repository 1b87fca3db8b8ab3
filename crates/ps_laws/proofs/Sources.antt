-- The first fault of the sources is the smallest that is.
use Rattle.ps_laws.proofs.Vocabulary.{◌⊎◌, ◌≢◌, if◌then◌else◌, nat_lt, not, ◌&&◌, ◌||◌, ◌==◌, nat_le, Decides, range_with_len, enumerate_from, slice_get, list_any, filter_map, find, option_or, option_map, option_and_then, option_map_or, result_ok, false≢true, Decides-at, Decides-ltb, Decides-and, Decides-or, Decides-like, Decides-eqb, none-some, same_Some, bytes_eq-Decides, slots, entry_at, role_of, code_of, information_of, table_of, Because, SomeBelow, SomeItem, OfSources, rank, part, IsNamed, HasEntry, EntryFault, CodeFault, Entry, Role, reading, Record, entry_fault, code_fault, role_fault, first_of, fault_if, is_host, needs_linking, is_named, chosen_library, source_of, unit_source, file_at, in_slot, in_record, Order, Reason, Fault, rules, ◌≡◌, ℕ, ◌+◌, ◌-◌, ◌*◌, ◌<◌, ◌≤◌, List, [], ◌∷◌, length, Option, Some, None, Result, Ok, Err, Bool, true, false, refl, sym, ap, ◌∙◌, inl, inr, arith, leb-true, le-leb, unwrap_or, is_none, ◌↔◌, slice_index, list_all, Decides-not, procedures, content_of, dictionary_start, dictionary_len, is_placed, numbers, tables, tables_fault, EntriesHave, NoneHas, UnitFault, HasBadTable, AreBad, TablesHave, InSources, Stops, is_missing, has_entry, PlacedFault, SLOTS}
use Rattle.ps_resolve.specs.Faults.{entries_reason, information_fault, sources_fault}
use Rattle.ps_resolve.proofs.RequestedSegments.{has_name}
pub use Rattle.ps_resolve.proofs.FirstSlots.{ok_is}
use Rattle.ps_laws.proofs.Least.{Least, nothing, this, Precedes, least_same, least_or, least_if, least_then, least_below, least_items, least_guard, least_else}
use Rattle.ps_laws.proofs.Steps.{Ranked, because, any_of_range, any_lesser}
use Rattle.ps_lists.proofs.Items.{not_apart}
use Rattle.ps_laws.proofs.Looking.{of_test}
use Rattle.ps_laws.proofs.FaultParts.{code_reason, record_reason}
use Rattle.ps_codefile.specs.declared.entry.Role.TheVariants as role
use Rattle.ps_words.specs.declared.fault.Reason.TheVariants as reason

pub at_most : (a b : ℕ) → Decides (nat_le a b) (a ≤ b)
at_most a b = (λ e. leb-true a b e, λ h. le-leb a b h)

-- at a slot: before rank n in the slot's own faults, or from it on
abbrev pub Early : ℕ → ℕ → Fault → Type 0
Early slot n f = (unwrap_or f.slot f.file ≡ slot) × (part f.rec ≡ 0)
    × (part f.reference ≡ 0) × (rank f.reason < n)

abbrev pub Late : ℕ → ℕ → Fault → Type 0
Late slot n f = (unwrap_or f.slot f.file ≡ slot) × (n ≤ rank f.reason)

-- a fault of a slot before rank n comes before one from rank n on
pub early_late : (slot n : ℕ) (x y : Fault) → Early slot n x → Late slot n y
    → Precedes OfSources x y
early_late slot n x y a b = grind arith

-- a fault of a slot is before rank n where each reason that it may have is
early : {P : Reason → Type 0} (k slot n : ℕ) (f : Fault)
    → ((why : Reason) → P why → rank why < n)
    → Because (in_slot k slot) P f → Early slot n f
early k slot n f low t = grind arith

-- the first that passes is the first of those
find_first : {X : Type 0} (p : X → Bool) (xs : List X)
    → find p xs ≡ first_of (λ x. if p x then Some x else None) xs
find_first p [] = refl
find_first {X} p (x ∷ xs) = grind (arith, find_first p xs)

module _ (order : Order) (name file : List ℕ) where
  -- the library's entries
  pub named : (i : ℕ) → Decides (is_named order name file i) (IsNamed order name file i)
  named i = grind (arith, bytes_eq-Decides)

  pub has : Decides (has_entry order name file) (HasEntry order name file)
  has = any_lesser _ _ named SLOTS

-- the entries of a name, by their numbers
abbrev NamedAt : Order → List ℕ → List ℕ → ℕ → Type 0
NamedAt order name lib y = SomeBelow SLOTS (λ i. IsNamed order name lib i × (y ≡ i))

abbrev Duplicate : Order → List ℕ → List ℕ → Type 0
Duplicate order name lib =
    SomeBelow SLOTS (λ i. IsNamed order name lib i × SomeBelow i (λ j. IsNamed order name lib j))

module _ (order : Order) (name lib : List ℕ) where
  -- the test of a library's entries says whether two have the name
  duplicate : Decides (list_any (λ i. is_named order name lib i
      && list_any (is_named order name lib) (range_with_len 0 i)) slots) (Duplicate order name lib)
  duplicate = any_lesser _ _ (λ i. Decides-and _ _ (named order name lib i)
      (any_lesser _ _ (named order name lib) i)) SLOTS

  -- the entry that is found for a name is the smallest that has it
  first_entry : Least
      (λ i j. i < j) (NamedAt order name lib) (find (is_named order name lib) slots)
  first_entry = rw (find_first (is_named order name lib) slots) (least_below _ SLOTS
      (λ i lt. least_guard _ (named order name lib i) (this i refl (λ y e. inl e)))
      (λ i j x y h s t. grind arith))

  -- the reason that is given for a library's entries of a name is the one of smallest rank that
  -- applies
  entries_rows : Least Ranked (EntriesHave order name lib) (entries_reason order name lib)
  entries_rows = go _ _ duplicate first_entry
    where
      Has : Reason → Type 0
      Has = EntriesHave order name lib

      single : Decides false (Duplicate order name lib) → (i j : ℕ) → i < SLOTS → j < SLOTS
          → IsNamed order name lib i → IsNamed order name lib j → i ≡ j
      single d i j a b m n = grind (arith, not_apart, false≢true)

      go : (b : Bool) (o : Option ℕ) → Decides b (Duplicate order name lib)
          → Least (λ i j. i < j) (NamedAt order name lib) o → Least Ranked Has
          (if b then Some reason.DoubledUnit else option_and_then (λ i. fault_if
          (not ((entry_at order lib i).kind == 3)) (reason.NotAUnit (entry_at order lib i).kind)) o)
      go true o d l = grind (arith, this)
      go false None d (nothing n) = nothing none
        where
          none : (y : Reason) → Has y → ⊥
          none reason.DoubledUnit h = false≢true (d.1 h)
          none (reason.NotAUnit kind) h = n h.0 (h.0, h.1, (h.2.0, refl))
          none other h = h
      go false (Some i) d (this j s l) =
          least_same to from (least_if _ _ (Decides-not ((entry_at order lib i).kind == 3)
          (Decides-eqb (entry_at order lib i).kind 3)))
        where
          here : IsNamed order name lib i
          here = rw s.2.1 s.2.0

          within : i < SLOTS
          within = rw s.2.1 s.1

          to : (y : Reason) → (y ≡ reason.NotAUnit (entry_at order lib i).kind)
              × ((entry_at order lib i).kind ≢ 3) → Has y
          to y t = rw t.0 (i, within, (here, λ j b n. single d j i b within n here, refl, t.1))

          from : (y : Reason) → Has y → (y ≡ reason.NotAUnit (entry_at order lib i).kind)
              × ((entry_at order lib i).kind ≢ 3)
          from y h = grind arith

-- the library's entries of a name
abbrev pub Found : Order → List ℕ → List (List ℕ) → ℕ × List ℕ → Type 0
Found order name libs p = SomeItem libs (λ k lib. HasEntry order name lib × (p ≡ (k, lib)))

-- the library
pub chosen : (order : Order) (name : List ℕ) (libs : List (List ℕ))
    → Least (λ p q. p.0 < q.0) (Found order name libs) (chosen_library order name libs)
chosen order name libs =
    rw (find_first (λ lib. has_entry order name lib.1) (enumerate_from 0 libs)) (least_items _ libs
    (λ k lib e. least_guard _ (has order name lib) (this (k, lib) refl (λ y q. inl q)))
    (λ i j a b x y h s t. grind arith))

-- no library is chosen just where none has an entry of the name
pub none_has : (order : Order) (name : List ℕ) (libs : List (List ℕ))
    → Decides (is_none (chosen_library order name libs)) (NoneHas order name libs)
none_has order name libs = go (chosen_library order name libs) (chosen order name libs)
  where
    go : (o : Option (ℕ × List ℕ)) → Least (λ p q. p.0 < q.0) (Found order name libs) o
        → Decides (is_none o) (NoneHas order name libs)
    go None (nothing n) = (λ e t. n (t.0, t.1) (t.0, t.1, t.2, (t.3, refl)), λ h. refl)
    go (Some p) (this q s l) = grind (arith, false≢true)

-- the library that is chosen is at its number, has an entry of the name, and no smaller one has
pub record IsChosen (order : Order) (name : List ℕ) (libs : List (List ℕ))
    (p : ℕ × List ℕ) : Type 0 where
  pub there : slice_get libs p.0 ≡ Some p.1
  pub has : HasEntry order name p.1
  pub lesser : (m : ℕ) (other : List ℕ) → m < p.0 → slice_get libs m ≡ Some other
      → HasEntry order name other → ⊥

module _ (order : Order) (name : List ℕ) (libs : List (List ℕ)) where
  pub is_chosen : (p : ℕ × List ℕ)
      → Least (λ p q. p.0 < q.0) (Found order name libs) (Some p) → IsChosen order name libs p
  is_chosen p (this q s l) = record {
    there = rw s.3.1 s.2;
    has = rw s.3.1 s.3.0;
    lesser = λ m other h e k. (let u = l (m, other) (m, other, e, (k, refl)) in grind arith);
  }

  -- the first fault of the chosen library's entries of a name is the smallest that applies
  pub entry_least : (slot : ℕ) → Least
      (Precedes OfSources) (EntryFault order name libs slot) (entry_fault order name libs slot)
  entry_least slot = go (chosen_library order name libs) (chosen order name libs)
    where
      go : (o : Option (ℕ × List ℕ)) → Least (λ p q. p.0 < q.0) (Found order name libs) o
          → Least (Precedes OfSources) (EntryFault order name libs slot) (option_and_then
          (λ lib. option_map (in_slot (lib.0 + 1) slot) (entries_reason order name lib.1)) o)
      go None (nothing n) = nothing (λ f t. n (t.0, t.1) (t.0, t.1, t.2, (t.3.0.0, refl)))
      go (Some p) (this q s l) = least_same to from (because OfSources
          (in_slot (p.0 + 1) slot) (λ a b h. grind arith) (entries_rows order name p.1))
        where
          c : IsChosen order name libs p
          c = is_chosen p (this p s l)

          to : (f : Fault) → Because (in_slot (p.0 + 1) slot) (EntriesHave order name p.1) f
              → EntryFault order name libs slot f
          to f b = (p.0, p.1, c.there, ((c.has, c.lesser), b))

          from : (f : Fault) → EntryFault order name libs slot f
              → Because (in_slot (p.0 + 1) slot) (EntriesHave order name p.1) f
          from f t = elim (l (t.0, t.1) (t.0, t.1, t.2, (t.3.0.0, refl))) [
            | inl e ↦ rw (← e) t.3.1
            | inr h ↦ absurd (t.3.0.1 p.0 p.1 h c.there c.has)
          ]

-- the tables
any_of_filter : {X Y : Type 0} (p : Y → Bool) (g : X → Option Y) (xs : List X)
    → list_any p (filter_map g xs) ≡ list_any (λ x. option_map_or p (g x) false) xs
any_of_filter p g [] = refl
any_of_filter {X} {Y} p g (x ∷ xs) = grind (arith, any_of_filter p g xs)

-- not all items pass a test just where one fails it
not_all : {X : Type 0} (p : X → Bool) (xs : List X)
    → not (list_all p xs) ≡ list_any (λ x. not (p x)) xs
not_all p [] = refl
not_all {X} p (x ∷ xs) = grind (arith, not_all p xs)

-- a table fails the test of its place just where its content c is not 0, and it begins too low or
-- ends too high
not_placed : (c place q start : ℕ) → Decides (not (c == 0
    || (nat_le (c + 8) place && nat_lt q start))) ((c ≢ 0) × ((place < c + 8) ⊎ (start ≤ q)))
not_placed c place q start = grind arith

module _ (order : Order) (code : List ℕ) where
  -- the test of all tables for their places says whether one is bad
  bad_table : Decides
      (not (list_all (is_placed order code) (numbers code))) (HasBadTable order code)
  bad_table = rw (not_all (is_placed order code) (numbers code)) (Decides-like _
      (λ t. (t.0, t.1, omega (arith, t.2), t.3.0, t.3.1))
      (λ t. (t.0, t.1, omega (arith, t.2), (t.3, t.4))) (any_of_range _ _ (λ p. not_placed
      (content_of order code p) (length code - 2 - 2 * p) (length code - 2 - 2 * p
      - content_of order code p + 1) (dictionary_start code)) 1 (procedures code)))

  -- the test of the procedure dictionary and the tables says whether they are bad
  are_bad : (host : Bool) → Decides (nat_lt (length code) (dictionary_len code)
      || not (list_all (is_placed order code) (numbers code))
      || (host && (procedures code == 0 || content_of order code 1 == 0))) (AreBad order code host)
  are_bad host = search (Decides-or, Decides-and, Decides-ltb, Decides-eqb, of_test, bad_table)

is_at : (test : ℕ → Bool) (P : ℕ → Type 0) → ((t : ℕ) → Decides (test t) (P t))
    → (o : Option ℕ) → Decides (option_map_or test o false)
    ((t : ℕ) × (o ≡ Some t) × P t)
is_at test P h1 h2 = grind (arith, false≢true)

module _ (order : Order) (code : List ℕ) where
  -- the test of the tables says whether one is of a native procedure, whose number is 0
  native_table : Decides (list_any (λ t. slice_index code t == 0) (tables order code))
      ((p : ℕ) × (1 ≤ p) × (p ≤ procedures code)
      × (t : ℕ) × (table_of order code p ≡ Some t) × (slice_index code t ≡ 0))
  native_table = Decides-at _ _ (any_of_filter _ _ (numbers code)) (Decides-like _
      (λ t. (t.0, t.1, omega (arith, t.2), t.3.0, t.3.1, t.3.2))
      (λ t. (t.0, t.1, omega (arith, t.2), (t.3, t.4, t.5))) (any_of_range _ (λ p. (t : ℕ)
      × (table_of order code p ≡ Some t) × (slice_index code t ≡ 0))
      (λ p. is_at _ _ (λ t. Decides-eqb _ 0) _) 1 _))

  -- the reason that is given for the tables of a code is the one of smallest rank that applies
  pub tables_rows : (host : Bool)
      → Least Ranked (TablesHave order code host) (tables_fault order code host)
  tables_rows host = go _ _ (are_bad order code host) (native_table)
    where
      go : (b n : Bool) → Decides b (AreBad order code host) → Decides n ((p : ℕ)
          × (1 ≤ p) × (p ≤ procedures code) × (t : ℕ) × (table_of order code p ≡ Some t)
          × (slice_index code t ≡ 0)) → Least Ranked (TablesHave order code host)
          (if b then Some reason.BadProcDict else (if n then Some reason.NativeProcedure else None))
      go true n d e = grind (arith, this)
      go false true d e = grind (arith, this, false≢true)
      go false false d e = grind (arith, nothing)

-- what is read is the only stop: the law of link information
abbrev pub OneStop : Type 0
OneStop = (order : Order) (bytes : List ℕ) (rs : List Record) (why : Reason)
    → Stops order bytes rs why ↔ (reading order bytes ≡ (rs, Some why))

-- the records
abbrev RecordStops : Order → List ℕ → Entry → ℕ → ℕ → Fault → Type 0
RecordStops order file e k slot f = (rs : List Record) × (why : Reason)
    × (f ≡ in_record k slot (length rs) why) × Stops order (information_of file e) rs why

records_least : (law : OneStop) (order : Order) (file : List ℕ) (e : Entry) (k slot : ℕ)
    → Least (Precedes OfSources) (RecordStops order file e k slot)
    (information_fault order file e k slot)
records_least law order file e k slot = go (reading order bytes) refl
  where
    bytes : List ℕ
    bytes = information_of file e

    go : (read : List Record × Option Reason) → reading order bytes ≡ read
        → Least (Precedes OfSources) (RecordStops order file e k slot)
        (option_map (in_record k slot (length read.0)) read.1)
    go (rs, None) is = nothing (λ f t. none-some t.1 (ap
        (λ (p : List Record × Option Reason). p.1) (sym is ∙ (law order bytes t.0 t.1).0 t.3)))
    go (rs, Some why) is =
        this (in_record k slot (length rs) why) (rs, why, refl, (law order bytes rs why).1 is)
        (λ f t. let e = sym ((law order bytes t.0 t.1).0 t.3) ∙ is in let records =
        ap (λ (p : List Record × Option Reason). p.0) e in let same =
        same_Some t.1 why (ap (λ (p : List Record × Option Reason). p.1) e) in inl
        (t.2 ∙ ap (λ (q : List Record). in_record k slot (length q) t.1) records
        ∙ ap (in_record k slot (length rs)) same))

-- a code
abbrev IsMiddle : Reason → Type 0
IsMiddle why = (14 ≤ rank why) × (rank why < 17)

-- a code is refused for a reason of rank 14 to 16
code_mid : (file : List ℕ) (e : Entry) (why : Reason) → code_of file e ≡ Err why
    → IsMiddle why
code_mid = code_reason IsMiddle (omega arith, omega arith) (omega arith, omega arith)
    (omega arith, omega arith)

-- the reasons that apply to tables have rank 17 or 18
tables_mid : (order : Order) (code : List ℕ) (host : Bool) (why : Reason)
    → TablesHave order code host why → (17 ≤ rank why) × (rank why < 19)
tables_mid order code host why h = grind arith

-- the reasons that apply to a library's entries have a rank below 14
entries_low : (order : Order) (name lib : List ℕ) (why : Reason)
    → EntriesHave order name lib why → rank why < 14
entries_low order name lib why h = grind arith

pub entry_early : (order : Order) (name : List ℕ) (libs : List (List ℕ)) (slot : ℕ)
    (f : Fault) → EntryFault order name libs slot f → Early slot 14 f
entry_early order name libs slot f t = early (t.0 + 1) slot 14 f (entries_low order name t.1) t.3.1

-- a fault of a record is from rank 19 on
late_record : (order : Order) (file : List ℕ) (e : Entry) (k slot : ℕ) (f : Fault)
    → RecordStops order file e k slot f → Late slot 19 f
late_record order file e k slot f t =
    let high = record_reason (λ why. 19 ≤ rank why) (omega arith) (omega arith) (omega arith)
    (omega arith) (omega arith) order _ t.1 t.3.stops in
    rw t.2 (refl, high)

-- a fault of a code, its tables or its records is from rank 14 on
pub code_late : (order : Order) (file : List ℕ) (k : ℕ) (e : Entry) (slot : ℕ) (r : Role)
    (f : Fault) → CodeFault order file k e slot r f → Late slot 14 f
code_late order file k e slot r f (inl t) = rw t.1 (refl, (code_mid file e t.0 t.2).0)
code_late order file k e slot r f (inr t) = elim t.2.1 [
  | inl b ↦ (let m = (tables_mid order t.0 (is_host r) b.0 b.2).0 in
      rw b.1 (refl, omega (arith, m)))
  | inr b ↦ (let h = late_record order file e k slot f b in
      (h.0, (let m = h.1 in omega (arith, m))))
]

module _ (law : OneStop) (order : Order) where
  -- the first fault of a code, its tables and its records is the smallest that applies
  pub code_least : (slot : ℕ) (r : Role) (host : List ℕ) (libs : List (List ℕ)) (at : ℕ
      × ℕ) → Least (Precedes OfSources) (CodeFault order (file_at host libs at.0) at.0
      (entry_at order (file_at host libs at.0) at.1) slot r) (code_fault order host libs slot r at)
  code_least slot r host libs at = go (code_of file e) refl
    where
      file : List ℕ
      file = file_at host libs at.0

      e : Entry
      e = entry_at order file at.1

      Records : Fault → Type 0
      Records = RecordStops order file e at.0 slot

      go : (o : Result (List ℕ) Reason) → code_of file e ≡ o
          → Least (Precedes OfSources) (CodeFault order file at.0 e slot r)
          (elim o [
            | Err why ↦ Some (in_slot at.0 slot why)
            | Ok code ↦ if needs_linking r
                then option_or
                (option_map (in_slot at.0 slot) (tables_fault order code (is_host r)))
                (information_fault order file e at.0 slot) else None
          ])
      go (Err why) q = grind (arith, this)
      go (Ok code) q = least_same to from (least_guard _ (of_test _) (least_or (because OfSources _
          (λ a b h. grind arith) (tables_rows order code _)) (records_least law order file e at.0
          slot) (λ x y a b. early_late slot 19 x y (early at.0 slot 19 x (λ why h. (tables_mid
          order code _ why h).1) a) (late_record order file e at.0 slot y b))))
        where
          Linked : Fault → Type 0
          Linked f = (needs_linking r ≡ true)
              × (Because (in_slot at.0 slot) (TablesHave order code (is_host r)) f ⊎ Records f)

          to : (f : Fault) → Linked f → CodeFault order file at.0 e slot r f
          to f t = inr (code, q, t)

          from : (f : Fault) → CodeFault order file at.0 e slot r f → Linked f
          from f (inl t) = search (rules, arith)
          from f (inr t) = let same : t.0 ≡ code = (let a = t.1 in cc) in
              (t.2.0, rw same at t.2.1)

  -- the first fault of a name's unit in a slot, of the library's entries and then of its code, is
  -- the smallest that applies
  pub unit_least : (host : List ℕ) (libs : List (List ℕ)) (name : List ℕ) (slot : ℕ)
      → Least (Precedes OfSources)
      (PlacedFault order host libs name slot) (option_or (entry_fault order name libs slot)
      (option_and_then (code_fault order host libs slot role.Wanted) (unit_source order name libs)))
  unit_least host libs name slot = least_or (entry_least order name libs slot) (least_then _ _
      (λ at e. code_least slot role.Wanted host libs at)) (λ x y s t. early_late slot 14 x y
      (entry_early order name libs slot x s) (code_late order _ t.0.0 (entry_at order _ t.0.1) slot
      role.Wanted y t.2))

module _ (order : Order) where
  -- the faults of a unit that is looked up are from rank 12 on
  entries_high : (name lib : List ℕ) (why : Reason)
      → EntriesHave order name lib why → 12 ≤ rank why
  entries_high name lib why h = grind arith

  pub placed_late : (host : List ℕ) (libs : List (List ℕ)) (name : List ℕ) (slot : ℕ)
      (f : Fault) → PlacedFault order host libs name slot f → Late slot 12 f
  placed_late host libs name slot f (inl t) = grind (arith, entries_high)
  placed_late host libs name slot f (inr t) =
      let file = file_at host libs t.0.0 in
      let late = code_late order file t.0.0 (entry_at order file t.0.1) slot role.Wanted f t.2 in
      (late.0, (let h = late.1 in omega (arith, h)))

pub is_ok : {X E : Type 0} (o : Result X E) (x : X) → o ≡ Ok x → result_ok o ≡ Some x
is_ok o x h = grind arith

-- what applies to a slot of this role: a fault of a wanted unit's source, or one of the code, its
-- tables or its records
abbrev SourceFaults : Order → List ℕ → List (List ℕ) → ℕ → Role → Fault → Type 0
SourceFaults order host libs slot r f =
    ((r ≡ role.Wanted) × UnitFault order (entry_at order host slot).name libs slot f)
    ⊎ ((at : ℕ × ℕ) × (source_of order host libs slot r ≡ Some at)
    × CodeFault order (file_at host libs at.0) at.0
    (entry_at order (file_at host libs at.0) at.1) slot r f)

-- the first fault of a slot of this role is the smallest that applies
of_role : (law : OneStop) (order : Order) (host : List ℕ) (libs : List (List ℕ))
    (slot : ℕ) (r : Role) → role_of (entry_at order host slot) ≡ Ok r → Least
    (Precedes OfSources) (SourceFaults order host libs slot r) (role_fault order host libs slot r)
of_role law order host libs slot role.Wanted has =
    least_same to from (least_else (is_missing order libs name) _ (Decides-at _ missing
    (ap (λ b. b || missing) (has_name order host libs slot has)) (none_has order name libs))
    (unit_least law order host libs name slot)
    (λ f p. early_late slot 12 (in_slot 0 slot reason.MissingUnit) f
    (refl, refl, refl, omega arith) (placed_late order host libs name slot f p)))
  where
    name : List ℕ
    name = (entry_at order host slot).name

    missing : Bool
    missing = is_none (chosen_library order name libs)

    Parts : Fault → Type 0
    Parts f = ((f ≡ in_slot 0 slot reason.MissingUnit) × NoneHas order name libs)
        ⊎ PlacedFault order host libs name slot f

    to : (f : Fault) → Parts f → SourceFaults order host libs slot role.Wanted f
    to f (inl t) = inl (refl, inl t)
    to f (inr (inl t)) = inl (refl, inr t)
    to f (inr (inr t)) = inr t

    from : (f : Fault) → SourceFaults order host libs slot role.Wanted f → Parts f
    from f (inl (w, inl t)) = inl t
    from f (inl (w, inr t)) = inr (inl t)
    from f (inr t) = inr (inr t)
of_role law order host libs slot r has =
    least_same (λ f t. inr t) (λ f. elim [ inl t ↦ absurd (let e = t.0 in cc) | inr t ↦ t ])
    (least_then _ _ (λ at e. code_least law order slot r host libs at))

in_place : (order : Order) (host : List ℕ) (libs : List (List ℕ)) (slot : ℕ) (r : Role)
    (f : Fault) → SourceFaults order host libs slot r f → unwrap_or f.slot f.file ≡ slot
in_place order host libs slot r f h = grind (arith, entry_early, code_late)

-- the first fault of the sources is the smallest that applies
pub step_5 : (law : OneStop) (order : Order) (host : List ℕ) (libs : List (List ℕ))
    → Least (Precedes OfSources) (InSources order host libs) (sources_fault order host libs)
unfolding sources_fault
step_5 law order host libs =
    least_same (λ f t. (t.0, t.1, (t.2.0, ok_is _ t.2.0 t.2.1, t.2.2)))
    (λ f t. (t.0, t.1, (t.2.0, is_ok _ t.2.0 t.2.1, t.2.2)))
    (least_below _ SLOTS (λ slot lt. least_then _ _
    (λ r e. of_role law order host libs slot r (ok_is _ r e)))
    (λ i j x y h s t. (let a = in_place order host libs i s.0 x s.2 in
    let b = in_place order host libs j t.0 y t.2 in inr (refl, inl (omega (arith, a, b, h))))))
