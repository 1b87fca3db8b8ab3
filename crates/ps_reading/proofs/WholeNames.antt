-- The names of all slots of a linked file have eight bytes each: those of the host's dictionary,
-- and those of UNITREF records.
use Rattle.ps_reading.proofs.Vocabulary.{◌≡◌, ℕ, ◌+◌, ◌*◌, ◌<◌, ◌≤◌, ◌==◌, List, [], ◌∷◌, ◌++◌, length, length-append, map, if◌then◌else◌, Option, Some, None, refl, sym, ap, ◌∙◌, subst, inl, inr, arith, All, flat_map, find, length-drop, option_map_or, All-nil, All-cons, All-tail, All-append, All-push, All-from_get_or, get_or-range_with_len, cond_both, Order, slots, name_at, entry_at, is_unit_reference, Role, Wanted, reading, Record, UnitReference, SLOTS}
use Rattle.ps_reading.specs.Added.{is_already_known, unit_references, all_unit_references, requested_from, added_segments, requested_units, segment_at, segments, slot_name, slot_names}
use Rattle.ps_reading.specs.Sources.{Segment, own_segment, own_segments, units_of}
use Rattle.ps_reading.proofs.EachSegment.{IsMade, added_made, at_slot, each_slot, find_has, own_made}
use Rattle.ps_lists.proofs.Items.{of_all}
use Rattle.ps_reading.proofs.OfRounds.{each_added, queue_of}

-- the law of link information
abbrev pub ReadWhole : Type 0
ReadWhole = (order : Order) (bytes : List ℕ)
    → All (λ (r : Record). length r.name ≡ 8) (reading order bytes).0

abbrev HasWholeName : Record → Type 0
HasWholeName r = length r.name ≡ 8

abbrev IsNamed : UnitReference → Type 0
IsNamed g = length g.name ≡ 8

-- the names of the records of a segment have eight bytes
abbrev HasWholeNames : Segment → Type 0
HasWholeNames s = All HasWholeName s.records

-- where the names of records have eight bytes, so have those of the UNITREF records among them
references_named : (file slot rec : ℕ) (rs : List Record) → All HasWholeName rs
    → All IsNamed (unit_references file slot rec rs)
references_named file slot rec [] all = All-nil IsNamed
references_named file slot rec (r ∷ rs) all =
    let rest = references_named file slot (rec + 1) rs (All-tail HasWholeName r rs all) in
    cond_both (is_unit_reference r.body) _ _ (All IsNamed)
    (λ _. All-cons IsNamed (record
    { name = r.name; at = record { segment = record { file = file; slot = slot }; rec = rec } }) _
    (all 0 r (omega arith)) rest) (λ _. rest)

-- the UNITREF records of all segments have whole names
all_references_named : (ss : List Segment) → All HasWholeNames ss
    → All IsNamed (all_unit_references ss)
all_references_named [] all = All-nil IsNamed
all_references_named (s ∷ ss) all =
    All-append IsNamed (unit_references s.file s.slot 0 s.records) (all_unit_references ss)
    (references_named s.file s.slot 0 s.records (all 0 s (omega arith)))
    (all_references_named ss (All-tail HasWholeNames s ss all))

-- a sequence of names of eight bytes stays one, where the names that are then requested have eight
-- bytes
queue_named : (units : List (List ℕ × ℕ)) (queue gs : List UnitReference) → All IsNamed queue
    → All IsNamed gs → All IsNamed (requested_from units queue gs)
queue_named units queue [] all rest = all
queue_named units queue (g ∷ gs) all rest =
    grind (
      arith,
      All-push IsNamed queue g all (rest 0 g (omega arith)),
      All-tail IsNamed g gs rest,
      queue_named units (if is_already_known units queue g.name then queue else queue ++ g ∷ [])
          gs,
    )

-- a segment that is made has such records
made_whole : ReadWhole → (order : Order) (host : List ℕ) (libs : List (List ℕ)) (slot : ℕ)
    (name : List ℕ) (r : Role) (at : ℕ × ℕ) (s : Segment)
    → IsMade order host libs slot name r at s → HasWholeNames s
made_whole law order host libs slot name r k s h = grind arith

name_long : (host : List ℕ) (slot : ℕ) → 512 ≤ length host → slot < SLOTS
    → length (name_at host slot) ≡ 8
name_long host slot long lt = grind (arith, length-drop)

abbrev HasName : Segment → Type 0
HasName s = length s.name ≡ 8

-- where the host has its whole dictionary, all segments of a link have names of eight bytes
all_named : ReadWhole → (order : Order) (host : List ℕ) (libs : List (List ℕ))
    → 512 ≤ length host → All HasName (segments order host libs)
unfolding segments own_segments requested_units
all_named law order host libs long =
    each_slot HasName (segment_at order host libs)
    (λ x s lt h. elim (at_slot order host libs HasName named x s h) [
      | inl own ↦ (let t = own_made order host libs x s own in
          grind (arith, name_long))
      | inr t ↦ t.2
    ])
  where
    own : All HasWholeNames (own_segments order host libs)
    own = each_slot HasWholeNames (own_segment order host libs)
        (λ x s lt h. let t = own_made order host libs x s h in
        made_whole law order host libs x (entry_at order host x).name t.0 t.2 s t.3)

    added : All HasWholeNames (added_segments order host libs)
    added = each_added order host libs HasWholeNames
        (λ j g s round. let t = added_made order host libs g s.slot s round.brought in
        subst HasWholeNames (sym t.2)
        (made_whole law order host libs s.slot g.name Wanted t.0 t.1 t.3))

    queue : All IsNamed (queue_of order host libs)
    queue =
        let all = own_segments order host libs ++ added_segments order host libs in
        queue_named (units_of (own_segments order host libs)) [] (all_unit_references all)
        (All-nil IsNamed)
        (all_references_named all (All-append HasWholeNames (own_segments order host libs)
        (added_segments order host libs) own added))

    named : All HasName (added_segments order host libs)
    named = each_added order host libs HasName
        (λ j g s round. ap (λ (n : List ℕ). length n) round.name
        ∙ of_all IsNamed (queue_of order host libs) queue j g round.requested)

-- where the host has its whole dictionary, each slot of the linked file has a name of eight bytes
eight : (host : List ℕ) (ss : List Segment) → 512 ≤ length host → All HasName ss
    → (slot : ℕ) → slot < SLOTS → length (slot_name host ss slot) ≡ 8
eight host ss long all slot lt = by (find (λ (x : Segment). x.slot == slot) ss) refl
  where
    by : (o : Option Segment) → find (λ (x : Segment). x.slot == slot) ss ≡ o
        → length (option_map_or (λ (s : Segment). s.name) o (name_at host slot)) ≡ 8
    by None e = name_long host slot long lt
    by (Some s) e = (find_has HasName (λ (x : Segment). x.slot == slot) ss s e all).1

-- names of eight bytes each, one after another, have eight times as many bytes as there are names
run : (f : ℕ → List ℕ) (xs : List ℕ) → ((x : ℕ) → x < SLOTS → length (f x) ≡ 8)
    → All (λ (x : ℕ). x < SLOTS) xs → length (flat_map (λ name. name) (map f xs))
    ≡ 8 * length xs
run f [] h all = refl
run f (x ∷ xs) h all =
    let one = h x (all 0 x (omega arith)) in
    let rest = run f xs h (All-tail (λ (y : ℕ). y < SLOTS) x xs all) in
    grind (arith, length-append)

-- where the host has its whole dictionary, the names of the sixteen slots have 128 bytes in all
pub names_whole : ReadWhole → (order : Order) (host : List ℕ) (libs : List (List ℕ))
    → 512 ≤ length host
    → length (flat_map (λ name. name) (slot_names host (segments order host libs))) ≡ 128
unfolding slot_names
names_whole law order host libs long =
    let ss = segments order host libs in
    run (slot_name host ss) slots (λ x lt. eight host ss long
    (all_named law order host libs long) x lt)
    (All-from_get_or (λ (x : ℕ). x < SLOTS) slots 0
    (λ i lt. omega (arith, lt, get_or-range_with_len 0 SLOTS i 0)))
