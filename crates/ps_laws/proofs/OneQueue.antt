-- Just one queue of names and one list of segments have what is said of the units that are added.
use Rattle.ps_laws.proofs.Vocabulary.{slice_get, cases_order, same_Some, Role, Record, IsNamed, HasEntry, Before, Segment, RequestsAt, IsGiver, AddedUnits, UnitReference, Order, rules, ◌≡◌, ℕ, zero, suc, ◌+◌, ◌<◌, List, [], ◌∷◌, ◌++◌, length, take, Option, Some, None, Bool, refl, sym, ap, subst, ◌∙◌, inl, inr, arith, ProcedureTables, own_segments, IsOfFirstLibrary, SLOTS}
use Rattle.ps_lists.proofs.Items.{not_apart, some_before}
use Rattle.ps_laws.proofs.Least.{not_both}

-- 1. lists that are the same up to a place
abbrev pub Agree : {A : Type 0} → ℕ → List A → List A → Type 0
Agree k xs ys = (j : ℕ) → j < k → slice_get xs j ≡ slice_get ys j

agree_behind : {A : Type 0} (own xs ys : List A) (k : ℕ) → Agree k xs ys → (i : ℕ)
    → i < length own + k → slice_get (own ++ xs) i ≡ slice_get (own ++ ys) i
agree_behind {A} [] xs ys k h i l = search (rules, arith)
agree_behind (s ∷ own) xs ys k h zero l = refl
agree_behind (s ∷ own) xs ys k h (suc i) l = search (rules, arith, agree_behind own xs ys k h i)

-- a list and its front
front_agrees : {A : Type 0} (k : ℕ) (xs : List A) → Agree k (take k xs) xs
front_agrees zero xs j l = absurd (omega (arith, l))
front_agrees (suc k) [] j l = refl
front_agrees (suc k) (x ∷ xs) zero l = refl
front_agrees (suc k) (x ∷ xs) (suc j) l = front_agrees k xs j (omega (arith, l))

-- 2. givers in lists that are the same up to a place
requests_moves : (xs ys : List Segment) (i rec : ℕ) (name : List ℕ)
    → slice_get xs i ≡ slice_get ys i → RequestsAt xs i rec name → RequestsAt ys i rec name
requests_moves xs ys i rec name same t = (t.0, sym same ∙ t.1, t.2, t.3, t.4, t.5)

pub giver_moves : (xs ys : List Segment) (n i : ℕ) (g : UnitReference) → Agree n xs ys → i < n
    → IsGiver xs i g → IsGiver ys i g
giver_moves xs ys n i g same l t = (
  (t.0.0, sym (same i l) ∙ t.0.1, t.0.2, t.0.3),
  requests_moves xs ys i g.at.rec g.name (same i l) t.1,
  λ j rec b requests. t.2 j rec b
      (requests_moves ys xs j rec g.name (sym (same j (below j rec b))) requests),
)
  where
    below : (j rec : ℕ) → Before (j ∷ rec ∷ []) (i ∷ g.at.rec ∷ []) → j < n
    below j rec h = grind arith

-- a giver among the own segments and the front of the others is one among all
pub giver_of_front : (own others : List Segment) (k i : ℕ) (g : UnitReference)
    → i < length own + k → IsGiver (own ++ take k others) i g → IsGiver (own ++ others) i g
giver_of_front own others k i g l t = giver_moves (own ++ take k others) (own ++ others)
    (length own + k) i g (agree_behind own (take k others) others k (front_agrees k others)) l t

-- two givers of a name are at one place
same_place : (segs : List Segment) (i j : ℕ) (g h : UnitReference) → IsGiver segs i g
    → IsGiver segs j h → g.name ≡ h.name → (i ≡ j) × (g.at.rec ≡ h.at.rec)
same_place segs i j g h a b same = (
  at,
  not_apart g.at.rec h.at.rec (λ l. earlier (inr (at, inl l))) (λ l. later (inr (sym at, inl l))),
)
  where
    earlier : Before (i ∷ g.at.rec ∷ []) (j ∷ h.at.rec ∷ []) → ⊥
    earlier l = b.2 i g.at.rec l (subst (λ n. RequestsAt segs i g.at.rec n) same a.1)

    later : Before (j ∷ h.at.rec ∷ []) (i ∷ g.at.rec ∷ []) → ⊥
    later l = a.2 j h.at.rec l (subst (λ n. RequestsAt segs j h.at.rec n) (sym same) b.1)

    at : i ≡ j
    at = not_apart i j (λ l. earlier (inl l)) (λ l. later (inl l))

reference : List ℕ → ℕ → ℕ → ℕ → UnitReference
reference name file slot rec = record
    { name = name; at = record { segment = record { file = file; slot = slot }; rec = rec } }

alike : (g h : UnitReference) → g.name ≡ h.name → g.at.segment.file ≡ h.at.segment.file
    → g.at.segment.slot ≡ h.at.segment.slot
    → g.at.rec ≡ h.at.rec
    → reference g.name g.at.segment.file g.at.segment.slot g.at.rec
    ≡ reference h.name h.at.segment.file h.at.segment.slot h.at.rec
alike g h name file slot rec = cc

-- two givers of one name are one reference
same_reference : (segs : List Segment) (i j : ℕ) (g h : UnitReference) → IsGiver segs i g
    → IsGiver segs j h → g.name ≡ h.name → g ≡ h
unfolding reference
same_reference segs i j g h a b same = alike g h same (a.0.2 ∙ ap (λ (s : Segment). s.file)
    segment ∙ sym b.0.2) (a.0.3 ∙ ap (λ (s : Segment). s.slot) segment ∙ sym b.0.3) place.1
  where
    place : (i ≡ j) × (g.at.rec ≡ h.at.rec)
    place = same_place segs i j g h a b same

    segment : a.0.0 ≡ b.0.0
    segment = same_Some a.0.0 b.0.0 (sym a.0.1 ∙ ap (λ n. slice_get segs n) place.0 ∙ b.0.1)

-- 3. the queue
before_at : {a b c d p q r s : ℕ} → a ≡ p → b ≡ q → c ≡ r → d ≡ s
    → Before (a ∷ b ∷ []) (c ∷ d ∷ []) → Before (p ∷ q ∷ []) (r ∷ s ∷ [])
before_at e f g h t = rw (← e, ← f, ← g, ← h) t

module _ (order : Order) (host : List ℕ) (libs : List (List ℕ))
    (queue other : List UnitReference) (segs others : List Segment)
    (A : AddedUnits order host libs queue segs) (B : AddedUnits order host libs other others) where
  abbrev Own : List Segment
  Own = own_segments order host libs

  -- where both are the same up to a place, the name that one has there is that of the other
  module _ (k : ℕ) (same_segs : Agree k segs others) (same_queue : Agree k queue other)
      (g : UnitReference) (at : slice_get queue k ≡ Some g) where
    abbrev i : ℕ
    i = (A.requested k g at).0.0

    below : i < length Own + k
    below = (A.requested k g at).0.1

    here : IsGiver (Own ++ segs) i g
    here = (A.requested k g at).0.2

    there : IsGiver (Own ++ others) i g
    there = giver_moves (Own ++ segs) (Own ++ others) (length Own + k) i g
        (agree_behind Own segs others k same_segs) below here

    -- the other has a name there too, which is not another one
    no_other : (x : ℕ) (h : UnitReference) → k < x → slice_get other x ≡ Some h
        → h.name ≡ g.name → (y : UnitReference) → slice_get other k ≡ Some y → ⊥
    no_other x h later is name y first =
        elim (A.complete j y.at.rec y.name back.1)
        [ inl has ↦ (B.requested k y first).1 has | inr t ↦ at_place t.0 t.1 t.2 t.3 ]
      where
        j : ℕ
        j = (B.requested k y first).0.0

        giver : IsGiver (Own ++ others) j y
        giver = (B.requested k y first).0.2

        back : IsGiver (Own ++ segs) j y
        back = giver_moves (Own ++ others) (Own ++ segs) (length Own + k) j y (λ n l. sym
            (agree_behind Own segs others k same_segs n l)) (B.requested k y first).0.1 giver

        crossed : (m : ℕ) (z : UnitReference) → k < m → slice_get queue m ≡ Some z
            → z.name ≡ y.name → ⊥
        crossed m z l e n =
            let p = A.ordered k m g z l at e in
            let q = B.ordered k x y h later first is in
            let a = same_place (Own ++ segs) p.0 i g g p.2 here refl in
            let b = same_place (Own ++ segs) p.1 j z y p.3 back n in
            let c = same_place (Own ++ others) q.0 j y y q.2 giver refl in
            let d = same_place (Own ++ others) q.1 i h g q.3 there name in
            not_both (i ∷ g.at.rec ∷ []) (j ∷ y.at.rec ∷ []) (before_at a.0 a.1 b.0 b.1 p.4)
            (before_at c.0 c.1 d.0 d.1 q.4)

        at_place : (m : ℕ) (z : UnitReference) → slice_get queue m ≡ Some z
            → z.name ≡ y.name → ⊥
        at_place m z e n = elim (cases_order m k) [
          | inl u ↦
              let one : z ≡ g = same_Some z g
              (sym e ∙ ap (λ (o : ℕ). slice_get queue o) u ∙ at) in
              let a = B.once k x y h first is
              (sym n ∙ ap (λ (r : UnitReference). r.name) one ∙ sym name) in
              omega (arith, a, later)
          | inr u ↦ elim u [
            | inl l ↦ (let a = B.once m k z y (sym (same_queue m l) ∙ e) first n in
                omega (arith, a, l))
            | inr l ↦ crossed m z l e n
          ]
        ]

    found : (x : ℕ) (h : UnitReference) → slice_get other x ≡ Some h → h.name ≡ g.name
        → slice_get other k ≡ Some g
    found x h is name =
        let at_k = not_apart x k (λ l. let a = A.once x k h g (same_queue x l
        ∙ is) at name in omega (arith, a, l)) (λ l. behind l (slice_get other k) refl) in
        let first : slice_get other k ≡ Some h =
        ap (λ (o : ℕ). slice_get other o) (sym at_k) ∙ is in
        first ∙ ap (λ (r : UnitReference). Some r) (same_reference
        (Own ++ others) (B.requested k h first).0.0 i h g (B.requested k h first).0.2 there name)
      where
        behind : k < x → (o : Option UnitReference) → slice_get other k ≡ o → ⊥
        behind u None e = grind (arith, some_before)
        behind u (Some y) e = no_other x h u is name y e

    pub same_name : slice_get other k ≡ Some g
    same_name = elim (B.complete i g.at.rec g.name there.1)
        [ inl has ↦ absurd ((A.requested k g at).1 has) | inr t ↦ found t.0 t.1 t.2 t.3 ]

-- 4. the segments
-- the first library that has an entry of the name has no second one
abbrev pub HasOneEntry : Order → List (List ℕ) → List ℕ → Type 0
HasOneEntry order libs name =
    (k : ℕ) (lib : List ℕ) → slice_get libs k ≡ Some lib
    → ((lesser : ℕ) (other : List ℕ) → lesser < k
    → slice_get libs lesser ≡ Some other → HasEntry order name other → ⊥)
    → (i j : ℕ) → i < SLOTS → j < SLOTS → IsNamed order name lib i
    → IsNamed order name lib j → i ≡ j

segment : ℕ → List ℕ → Role → Bool → ℕ → ℕ → List ℕ → Option ProcedureTables
    → ℕ → List Record → Segment
segment slot name role added file index code tables block records =
    record {
      slot = slot;
      name = name;
      role = role;
      added = added;
      file = file;
      index = index;
      code = code;
      tables = tables;
      block = block;
      records = records;
    }

made_alike : (s t : Segment) → s.slot ≡ t.slot → s.name ≡ t.name → s.role ≡ t.role
    → s.added ≡ t.added → s.file ≡ t.file → s.index ≡ t.index → s.code ≡ t.code
    → s.tables ≡ t.tables → s.block ≡ t.block → s.records ≡ t.records
    → segment s.slot s.name s.role s.added s.file s.index s.code s.tables s.block s.records
    ≡ segment t.slot t.name t.role t.added t.file t.index t.code t.tables t.block t.records
made_alike s t slot name role added file index code tables block records = cc

-- one name and one slot have one segment of the first library that has the name
pub same_segment : (order : Order) (libs : List (List ℕ)) (s t : Segment) → s.slot ≡ t.slot
    → s.name ≡ t.name → s.role ≡ t.role → s.added ≡ t.added → IsOfFirstLibrary
    order libs s → IsOfFirstLibrary order libs t → HasOneEntry order libs s.name → s ≡ t
unfolding segment
same_segment order libs s t slot name role added f u only =
    made_alike s t slot name role added file index code tables block records
  where
    number : f.0 ≡ u.0
    number =
        not_apart f.0 u.0 (λ l. u.3.0 f.0 f.1 l f.2
        (s.index, f.3.2, subst (λ n. IsNamed order n f.1 s.index) name f.3.3))
        (λ l. f.3.0 u.0 u.1 l u.2 (
          t.index,
          u.3.2,
          subst (λ n. IsNamed order n u.1 t.index) (sym name) u.3.3,
        ))

    library : f.1 ≡ u.1
    library = same_Some f.1 u.1 (sym f.2 ∙ ap (λ n. slice_get libs n) number ∙ u.2)

    file : s.file ≡ t.file
    file = f.3.1 ∙ ap (λ n. n + 1) number ∙ sym u.3.1

    index : s.index ≡ t.index
    index = only f.0 f.1 f.2 f.3.0 s.index t.index f.3.2 u.3.2 f.3.3
        (subst (λ l. IsNamed order s.name l t.index) (sym library)
        (subst (λ n. IsNamed order n u.1 t.index) (sym name) u.3.3))

    code : s.code ≡ t.code
    code = let a = f.3.4 in let b = u.3.4 in cc (library, index)

    tables : s.tables ≡ t.tables
    tables = let a = f.3.5 in let b = u.3.5 in cc code

    block : s.block ≡ t.block
    block = let a = f.3.6 in let b = u.3.6 in cc (library, index)

    records : s.records ≡ t.records
    records = let a = f.3.7 in let b = u.3.7 in cc (library, index)
