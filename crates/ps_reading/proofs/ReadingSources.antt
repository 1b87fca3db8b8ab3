-- The segments of a link, slot by slot.
use Rattle.ps_reading.proofs.Vocabulary.{◌≡◌, ◌∙◌, ℕ, ◌+◌, ◌-◌, ◌<◌, ◌≤◌, List, [], ◌∷◌, ◌++◌, append_assoc, length, length-append, map, if◌then◌else◌, Option, Some, None, Result, Ok, Err, ◌⊎◌, inl, inr, refl, sym, ap, arith, All, is_none, IfOk, option_and_then, option_or, option_to_list, result_err, result_ok, IfSome, range_with_len, filter_map, take, take_all, SLOT_COUNT, first_of, All-nil, All-cons, All-append, Fault, Order, Role, Segment, entry_at, role_of, own_segment, segment_from, source_fault, code_fault, slots}
use Rattle.ps_reading.specs.Faults.{sources_fault}
use Rattle.ps_reading.specs.Readings.{own_faults}
use Rattle.ps_codefile.specs.declared.entry.Role.TheVariants as role
use Rattle.ps_reading.proofs.FirstSlots.{range_more}

-- a segment that is in the host file
abbrev pub IsOwn : Role → Type 0
IsOwn r = (r ≡ role.Plain) ⊎ ((r ≡ role.Host) ⊎ (r ≡ role.Unit))

pub is_own_host : IsOwn role.Host
is_own_host = inr (inl refl)

-- the fault of a slot of role Plain, Host or Unit is that of the code of the entry of the host
-- there
pub own_fault : (order : Order) (host : List ℕ) (libs : List (List ℕ)) (slot : ℕ) (r : Role)
    → role_of (entry_at order host slot) ≡ Ok r → IsOwn r
    → source_fault order host libs slot ≡ code_fault order host libs slot r (0, slot)
own_fault order host libs slot r of is = grind arith

-- the own segment of a slot of role Plain, Host or Unit is read from the entry of the host there
pub read_from_host : (order : Order) (host : List ℕ) (libs : List (List ℕ)) (slot : ℕ)
    (r : Role) → role_of (entry_at order host slot) ≡ Ok r → IsOwn r
    → own_segment order host libs slot
    ≡ segment_from order host libs slot (entry_at order host slot).name r (0, slot)
read_from_host order host libs slot r of is = grind arith

-- one segment more
pub all_with : {X : Type 0} (P : X → Type 0) (xs : List X) (o : Option X) → All P xs
    → IfSome o P → All P (xs ++ option_to_list o)
all_with P xs None all h = All-append P xs [] all (All-nil P)
all_with P xs (Some x) all h = All-append P xs (x ∷ []) all (All-cons P x [] h (All-nil P))

-- the items so far and those left are the same in all, when the one of number i, if there is one,
-- joins those so far
pub kept_on : {X : Type 0} (h : ℕ → Option X) (xs : List X) (o : Option X) (i n : ℕ) → i < n
    → o ≡ h i → xs ++ filter_map h (range_with_len i (n - i))
    ≡ (xs ++ option_to_list o) ++ filter_map h (range_with_len (i + 1) (n - (i + 1)))
kept_on {X} h xs o i n lt is = grind (arith, range_more, append_assoc)

pub few_more : {X : Type 0} (xs : List X) (o : Option X) (n : ℕ) → length xs ≤ n
    → length (xs ++ option_to_list o) ≤ n + 1
few_more xs o n h = grind (arith, length-append)

-- what is kept of what was read of a slot
pub kept : (fault : Option Fault) (own : Option Segment) (read : Result (Option Segment) Fault)
    → result_err read ≡ fault → IfOk read (λ s. s ≡ own)
    → option_and_then (λ s. s) (result_ok read)
    ≡ (elim fault [ None ↦ own | Some f ↦ None ])
kept fault own (Err f) is h = rw (sym is) refl
kept fault own (Ok None) is h = rw (sym is) h
kept fault own (Ok (Some s)) is h = rw (sym is) h

pub by_fault : (fault : Option Fault) (own : Option Segment)
    → (elim fault [ None ↦ own | Some f ↦ None ]) ≡ (if is_none fault then own else None)
by_fault None own = refl
by_fault (Some f) own = refl

pub kept_read : (P : Segment → Type 0) (read : Result (Option Segment) Fault)
    → IfOk read (λ s. IfSome s P) → IfSome (option_and_then (λ s. s) (result_ok read)) P
kept_read P (Err f) h = tt
kept_read P (Ok None) h = tt
kept_read P (Ok (Some s)) h = h

-- the first fault of slots, from the list of their faults
pub first_listed : (f : ℕ → Option Fault) (xs : List ℕ)
    → first_of (λ (fault : Option Fault). fault) (map f xs) ≡ first_of f xs
first_listed f [] = refl
first_listed f (x ∷ xs) = ap (option_or (f x)) (first_listed f xs)

pub first_of_slots : (order : Order) (host : List ℕ) (libs : List (List ℕ))
    → first_of (λ (fault : Option Fault). fault) (own_faults order host libs)
    ≡ sources_fault order host libs
unfolding sources_fault own_faults
first_of_slots order host libs = first_listed (source_fault order host libs) slots

-- one fault more, of which the first is the first as before, and else this
pub first_with : (faults : List (Option Fault)) (fault : Option Fault)
    → first_of (λ (f : Option Fault). f) (faults ++ fault ∷ [])
    ≡ option_or (first_of (λ (f : Option Fault). f) faults) fault
first_with [] None = refl
first_with [] (Some f) = refl
first_with (None ∷ fs) fault = first_with fs fault
first_with (Some f ∷ fs) fault = refl

-- a table of the faults of all slots
pub table_of_slots : (order : Order) (host : List ℕ) (libs : List (List ℕ))
    (table : List (Option Fault)) → length table ≡ SLOT_COUNT
    → take (length (own_faults order host libs)) table ≡ own_faults order host libs
    → table ≡ own_faults order host libs
unfolding own_faults
table_of_slots order host libs table whole is = sym (take_all SLOT_COUNT table (omega arith)) ∙ is
