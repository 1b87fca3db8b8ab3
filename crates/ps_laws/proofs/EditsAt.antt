-- The edits of a segment of a link: what each is, and which of them covers a place.
use Rattle.ps_laws.proofs.Vocabulary.{same_Some, ◌⊎◌, if◌then◌else◌, ◌&&◌, nat_le, nat_lt, enumerate_from, slice_get, flat_map, table_of, total_words, private_offset, Reaches, IsSizePlace, summed_edits, refs_of, Body, Record, needs_linking, is_host, Segment, target_in, target_of, known_of, grown_data_size, Target, Order, Edit, Byte, Reason, rules, ◌≡◌, ℕ, zero, suc, ◌+◌, ◌-◌, ◌<◌, ◌≤◌, List, [], ◌∷◌, ◌++◌, length, map, Some, Result, Ok, Err, Bool, true, refl, sym, ap, subst, ◌∙◌, inl, inr, arith, nat_tests, IsNumberPlace, edit_of, record_edits, data_edits, Word}
use Rattle.ps_linkinfo.specs.Operands.{operand_width}
use Rattle.ps_lists.proofs.Items.{In, in_left, in_right, in_flat, of_numbered, in_numbered}
use Rattle.ps_laws.proofs.AddedUnits.{split_at, mapped, map_at}
use Rattle.ps_laws.proofs.SoundCodes.{HasOuter}
use Rattle.ps_words.specs.Edits.{place_of, width, covers}

-- what is in a joined list is in one of its parts
of_joined : {A : Type 0} (xs ys : List A) (a : A) → In a (xs ++ ys) → In a xs ⊎ In a ys
of_joined xs ys a t = grind (arith, split_at)

-- what is in a list that is joined of what the items give is in what one of them gives
of_flat : {A C : Type 0} (f : A → List C) (xs : List A) (y : C) → In y (flat_map f xs)
    → (x : A) × In x xs × In y (f x)
of_flat f [] y t = absurd (let e = t.1 in cc)
of_flat {A} {C} f (x ∷ xs) y t = elim (of_joined (f x) (flat_map f xs) y t) [
  | inl u ↦ (x, (zero, refl), u)
  | inr u ↦ (let r = of_flat f xs y u in (r.0, (suc r.1.0, r.1.1), r.2))
]

module _ (x p w : ℕ) where
  -- which places an edit covers
  covered : (nat_le x p && nat_lt p (x + w)) ≡ true → (x ≤ p) × (p < x + w)
  covered h = grind arith

  covering : x ≤ p → p < x + w → (nat_le x p && nat_lt p (x + w)) ≡ true
  covering h k = grind (arith, nat_tests)

pub edit_place : (code : List ℕ) (t : Target) (x : ℕ) → place_of (edit_of code t x) ≡ x
edit_place code t x = grind arith

-- what an operand becomes is as wide as the operand
pub edit_width : (segs : List Segment) (off : ℕ) (name : List ℕ) (body : Body) (i x : ℕ)
    (code : List ℕ) (t : Target) → slice_get (refs_of body) i ≡ Some x → target_in
    (known_of segs) off name body ≡ Ok t → width (edit_of code t x) ≡ operand_width body
edit_width segs off name body i x code t h k = grind arith

-- what an edit is that covers a place: the number, the data size, or what a reference becomes
abbrev pub IsNumber : Segment → ℕ → Edit → Type 0
IsNumber s p f = IsNumberPlace s p × (f ≡ Byte s.slot (length s.code - 2))

abbrev pub IsSize : Order → List Segment → Segment → ℕ → Edit → Type 0
IsSize order segs s p f = (t : ℕ) × (j : ℕ) × IsSizePlace order s t j p
    × (f ≡ Word (grown_data_size order s.code (total_words segs) t) (t - 8))

abbrev pub IsOfReference : List Segment → Segment → ℕ → Edit → Type 0
IsOfReference segs s p f =
    (rec : ℕ) × (i : ℕ) × (x : ℕ) × (r : Record) × Reaches s rec r i x p
    × ((t : Target) × (target_of (known_of segs) (private_offset segs s.slot rec) r ≡ Ok t)
    × (f ≡ edit_of s.code t x))

module _ (order : Order) (segs : List Segment) (s : Segment)
    (long : needs_linking s.role ≡ true → 2 ≤ length s.code)
    (outer : (t : ℕ) → is_host s.role ≡ true → table_of order s.code 1 ≡ Some t
    → HasOuter order s.code t) where
  abbrev pub number : Edit
  number = Byte s.slot (length s.code - 2)

  abbrev pub size : ℕ → Edit
  size t = Word (grown_data_size order s.code (total_words segs) t) (t - 8)

  abbrev pub own : List Edit
  own = if is_host s.role then data_edits order (total_words segs) s.code else []

  abbrev pub offset : ℕ → ℕ
  offset rec = private_offset segs s.slot rec

  abbrev pub others : List Edit
  others = flat_map (λ (r : ℕ × Record). record_edits (known_of segs) s.code
      (private_offset segs s.slot r.0) r.1) (enumerate_from 0 s.records)

  all_linked : needs_linking s.role ≡ true
      → summed_edits order segs s ≡ number ∷ (own ++ others)
  all_linked h = ap (λ b. if b then number ∷ (own ++ others) else []) h

  is_number : (p : ℕ) (f : Edit) → needs_linking s.role ≡ true → number ≡ f
      → covers p f ≡ true → IsNumber s p f
  is_number p f h same on = grind arith

  is_size : (p : ℕ) (f : Edit) → In f own → covers p f ≡ true → IsSize order segs s p f
  is_size p f t on = grind arith

  is_reference : (p : ℕ) (f : Edit) → In f others → covers p f ≡ true
      → IsOfReference segs s p f
  is_reference p f t on =
      let u = of_flat (λ (r : ℕ × Record). record_edits (known_of segs) s.code _ r.1) _ f t in
      let n = of_numbered 0 s.records u.1.0 u.0 u.1.1 in
      let at : u.1.0 ≡ u.0.0 = (let h = n.0 in omega (arith, h)) in
      go u.0.0 u.0.1 (subst (λ m. slice_get s.records m ≡ Some u.0.1) at n.1) _ refl u.2.0 u.2.1
    where
      go : (rec : ℕ) (r : Record) → slice_get s.records rec ≡ Some r → (o : Result Target
          Reason) → target_of (known_of segs) (offset rec) r ≡ o → (k : ℕ) → slice_get
          (elim o [ Err why ↦ [] | Ok t ↦ map (edit_of s.code t) (refs_of r.body) ]) k
          ≡ Some f → IsOfReference segs s p f
      go rec r h o m k q = search (rules, mapped, covered, edit_place, edit_width)

  -- an edit that covers a place is one of these
  pub what_covers : (p : ℕ) (f : Edit) → In f (summed_edits order segs s) → covers p f
      ≡ true → IsNumber s p f ⊎ (IsSize order segs s p f ⊎ IsOfReference segs s p f)
  what_covers p f t on = go (needs_linking s.role) refl t.0 t.1
    where
      go : (b : Bool) → needs_linking s.role ≡ b → (k : ℕ)
          → slice_get (if b then number ∷ (own ++ others) else []) k ≡ Some f
          → IsNumber s p f ⊎ (IsSize order segs s p f ⊎ IsOfReference segs s p f)
      go b h1 h2 h3 = grind (arith, is_number, same_Some, of_joined, is_size, is_reference)

  -- the place of a segment's number has an edit
  pub number_covers : (p : ℕ) → IsNumberPlace s p
      → In number (summed_edits order segs s) × (covers p number ≡ true)
  number_covers p n = grind arith

  behind : (f : Edit) → needs_linking s.role ≡ true → In f (own ++ others)
      → In f (summed_edits order segs s)
  behind f h t = subst (λ es. In f es) (sym (all_linked h)) (suc t.0, t.1)

  pub size_covers : (p t j : ℕ) → needs_linking s.role ≡ true → IsSizePlace order s t j p
      → In (size t) (summed_edits order segs s) × (covers p (size t) ≡ true)
  size_covers p t j h z = grind (arith, behind, in_left, covering)

  pub reference_covers : (p rec i x : ℕ) (r : Record) (t : Target) → needs_linking s.role
      ≡ true → Reaches s rec r i x p → target_of (known_of segs) (offset rec) r ≡ Ok t
      → In (edit_of s.code t x) (summed_edits order segs s)
      × (covers p (edit_of s.code t x) ≡ true)
  reference_covers p rec i x r t h u e =
      let g = edit_place s.code t x in
      let w = edit_width segs _ r.name r.body i x s.code t u.0.1 e in
      let a = u.1.0 in
      let b = u.1.1 in
      let on = covering (place_of (edit_of s.code t x)) p (width (edit_of s.code t x))
      (omega (arith, a, g)) (omega (arith, b, g, w)) in
      (behind _ h (in_right own others _ there), on)
    where
      mine : List Edit
      mine = record_edits (known_of segs) s.code (private_offset segs s.slot rec) r

      mine_is : mine ≡ map (edit_of s.code t) (refs_of r.body)
      mine_is = grind arith

      there : In (edit_of s.code t x) others
      there =
          let at = in_numbered 0 s.records rec r u.0.0 ∙ ap (λ m. Some (m, r)) (omega arith) in
          let made = ap (λ es. slice_get es i) mine_is
          ∙ map_at (edit_of s.code t) (refs_of r.body) i x u.0.1 in
          in_flat (λ (r : ℕ × Record). record_edits (known_of segs) s.code _ r.1) _ (rec, r) _
          (rec, at) (i, made)
