-- The byte that the edits of a segment make is its linked byte, and no other byte is.
use Rattle.ps_laws.proofs.Vocabulary.{◌⊎◌, if◌then◌else◌, slice_get, find, lookup, option_map_or, bytes_eq, table_of, private_offset, next_of, IsReference, Reaches, IsSizePlace, IsOnePlace, summed_edits, summed_segment, refs_of, Body, Record, needs_linking, is_host, is_unit, Segment, host_records, units_of, target_in, target_of, known_of, grown_data_size, Target, Order, Edit, rules, ◌≡◌, ℕ, ◌+◌, ◌-◌, ◌≤◌, List, [], ◌∷◌, length, Option, Some, None, Ok, true, false, refl, sym, ap, ◌∙◌, inl, inr, arith, slice_index, IsSlotOf, IsPublic, IsBase, all_private_words, Becomes, IsNumberPlace, IsLinkedByte, UnitRef, PublRef, PrivRef, PublDef, edit_of, unit_slot, public_base, linked_byte}
use Rattle.ps_resolve.specs.LinkedBytes.{words_before}
use Rattle.ps_resolve.specs.Symbols.{def_in, definition_in, definitions, definition_of}
use Rattle.ps_resolve.specs.declared.definitions.Def.{Def}
use Rattle.ps_resolve.specs.declared.definitions.DefKind.TheVariants.{Public}
use Rattle.ps_resolve.specs.declared.references.Target.TheVariants.{Slot, Base}
use Rattle.ps_lists.proofs.Items.{In, find_in, find_passes, of_filter_map}
use Rattle.ps_laws.proofs.References.{named_some}
use Rattle.ps_laws.proofs.Looking.{of_test, find_none}
use Rattle.ps_laws.proofs.PrivateOffsets.{all_are}
use Rattle.ps_laws.proofs.SoundCodes.{HasOuter}
use Rattle.ps_laws.proofs.EditsAt.{edit_place, IsNumber, IsSize, IsOfReference, what_covers, number_covers, size_covers, reference_covers}
use Rattle.ps_words.specs.Words.{word_bytes, operand_bytes, displacement_at}
use Rattle.ps_words.specs.Edits.{place_of, stored_bytes, covers}

-- 1. what a reference becomes
unit_slot_is : (name : List ℕ) (segs : List Segment) (slot : ℕ)
    → lookup (bytes_eq name) (units_of segs) ≡ Some slot → IsSlotOf segs name slot
unit_slot_is name segs slot e =
    let t = named_some name (units_of segs) slot e in
    let u = of_filter_map (λ (s : Segment). if is_unit s.role then Some (s.name, s.slot) else None)
    segs t.1 (t.0, t.2) in
    (u.1.0, u.0, u.1.1, grind arith)

abbrev IsGiven : List Record → List ℕ → ℕ → Type 0
IsGiven rs name value = (k : ℕ) × (d : Record) × (slice_get rs k ≡ Some d)
    × ((d.name ≡ name) × (d.body ≡ PublDef value))

-- a record of a public definition is a PUBLDEF of its value
public_in : (body : Body) (d : Def) → def_in body ≡ Some d → d.kind ≡ Public
    → body ≡ PublDef d.value
public_in body d h k = grind arith

-- a public definition that is found for a name is that of a PUBLDEF record, which gives the name
-- its value
given : (name : List ℕ) (rs : List Record) (d : Def) → definition_of name (definitions rs)
    ≡ Some d → d.kind ≡ Public → IsGiven rs name d.value
given name rs d e k =
    let t = named_some name (definitions rs) d e in
    let u = of_filter_map definition_in rs t.1 (t.0, t.2) in
    (u.1.0, u.0, u.1.1, grind (arith, public_in))

-- a value that the host's records give a name is a public of the link
public_is : (segs : List Segment) (name : List ℕ) (value : ℕ)
    → IsGiven (host_records segs) name value → IsPublic segs name value
public_is segs name value = grind (arith, find_in, find_passes)

-- what is found for a name with a target
slot_found : (o : Option ℕ) (t : Target) → unit_slot o ≡ Ok t
    → (slot : ℕ) × (o ≡ Some slot) × (t ≡ Slot slot)
slot_found o t e = grind arith

base_found : (o : Option Def) (t : Target) → public_base o ≡ Ok t
    → (d : Def) × (o ≡ Some d) × (d.kind ≡ Public) × (t ≡ Base d.value)
base_found o t e = grind arith

-- what the edit of a reference stores is what its operand becomes
becomes : (order : Order) (segs : List Segment) → IsBase segs (next_of (host_records segs))
    → (s : Segment) (rec : ℕ) (name : List ℕ) (body : Body) (i x : ℕ) (t : Target)
    → slice_get (refs_of body) i ≡ Some x
    → target_in (known_of segs) (private_offset segs s.slot rec) name body ≡ Ok t
    → Becomes segs s rec name body x (stored_bytes order (edit_of s.code t x))
becomes order segs base s rec name (PrivRef words refs) i x t g e =
    let is : Base (private_offset segs s.slot rec) ≡ t = cc in
    (next_of (host_records segs), base, ap (λ u. stored_bytes order (edit_of s.code u x)) (sym is))
becomes order segs base s rec name (UnitRef refs) i x t g e =
    grind (arith, slot_found, unit_slot_is)
becomes order segs base s rec name (PublRef refs) i x t g e =
    let u = base_found (definition_of name (definitions (host_records segs))) t e in
    let value = public_is segs name u.0.value (given name (host_records segs) u.0 u.1 u.2) in
    (u.0.value, value, ap (λ v. stored_bytes order (edit_of s.code v x)) u.3)
becomes order segs base s rec name other i x t g e = absurd (cc)

-- what names one thing becomes one
abbrev pub OneUnit : List Segment → Type 0
OneUnit segs = (name : List ℕ) (a b : ℕ) → IsSlotOf segs name a → IsSlotOf segs name b
    → a ≡ b

abbrev pub OnePublic : List Segment → Type 0
OnePublic segs = (name : List ℕ) (a b : ℕ) → IsPublic segs name a → IsPublic segs name b
    → a ≡ b

abbrev pub OneBase : List Segment → Type 0
OneBase segs = (a b : ℕ) → IsBase segs a → IsBase segs b → a ≡ b

-- an operand becomes one thing only, where each unit has one slot, each public one value, and there
-- is one base offset
one_becomes : (segs : List Segment) → OneUnit segs → OnePublic segs → OneBase segs
    → (s : Segment) (rec : ℕ) (name : List ℕ) (body : Body) (x : ℕ) (b c : List ℕ)
    → Becomes segs s rec name body x b → Becomes segs s rec name body x c → b ≡ c
one_becomes segs units publics bases s rec name (UnitRef refs) x b c t u =
    t.2 ∙ (ap (λ n. n ∷ []) (units name t.0 u.0 t.1 u.1) ∙ sym u.2)
one_becomes segs units publics bases s rec name (PublRef refs) x b c t u = t.2 ∙ (ap
    (λ n. operand_bytes (displacement_at s.code x + n)) (publics name t.0 u.0 t.1 u.1) ∙ sym u.2)
one_becomes segs units publics bases s rec name (PrivRef words refs) x b c t u =
    t.2 ∙ (ap (λ n. operand_bytes (displacement_at s.code x
    + (n + words_before segs s.slot rec))) (bases t.0 u.0 t.1 u.1) ∙ sym u.2)
one_becomes segs units publics bases s rec name other x b c t u = absurd t

-- 2. the byte
-- a record and its reference by their numbers
same_reference : (s : Segment) (rec i x other j y : ℕ) (r q : Record) → IsReference s rec r i x
    → IsReference s other q j y → (rec ≡ other) × (i ≡ j) → (r ≡ q) × (x ≡ y)
same_reference s rec i x other j y r q a b e = grind arith

module _ (order : Order) (segs : List Segment) (base : IsBase segs (next_of (host_records segs)))
    (s : Segment) (long : needs_linking s.role ≡ true → 2 ≤ length s.code)
    (outer : (t : ℕ) → is_host s.role ≡ true → table_of order s.code 1 ≡ Some t
    → HasOuter order s.code t)
    (hosts : is_host s.role ≡ true → needs_linking s.role ≡ true)
    (plain : needs_linking s.role ≡ false → s.records ≡ [])
    (targets : (rec i x : ℕ) (r : Record) → IsReference s rec r i x
    → (t : Target) × (target_of (known_of segs) (private_offset segs s.slot rec) r ≡ Ok t))
    (p : ℕ) (apart : IsOnePlace order s p) where
  abbrev pub edits : List Edit
  edits = summed_edits order segs s

  -- a segment with a reference is linked
  linked_by : (rec i x : ℕ) (r : Record) → IsReference s rec r i x
      → needs_linking s.role ≡ true
  linked_by rec i x r t = grind arith

  abbrev pub Uncovered : Type 0
  Uncovered = find (covers p) edits ≡ None

  no_edit : Uncovered → (f : Edit) → In f edits → covers p f ≡ true → ⊥
  no_edit e f t on = find_none (covers p) (λ (g : Edit). covers p g ≡ true)
      (λ g. of_test (covers p g)) edits e (t.0, f, t.1, on)

  no_number : Uncovered → IsNumberPlace s p → ⊥
  no_number e n = grind (arith, number_covers, no_edit)

  no_size : Uncovered → (t j : ℕ) → IsSizePlace order s t j p → ⊥
  no_size e t j z = grind (arith, size_covers, no_edit)

  no_reference : Uncovered → (rec i x : ℕ) (r : Record) → Reaches s rec r i x p → ⊥
  no_reference e rec i x r u =
      let t = targets rec i x r u.0 in
      let c = reference_covers order segs s long outer p rec i x r t.0
      (linked_by rec i x r u.0) u t.1 in
      no_edit e (edit_of s.code t.0 x) c.0 c.1

  abbrev pub byte_at : Option Edit → ℕ
  byte_at o = option_map_or (λ (edit : Edit). slice_index (stored_bytes order edit)
      (p - place_of edit)) o (slice_index s.code p)

  abbrev pub Facts : ℕ → Type 0
  Facts b = IsLinkedByte order segs s p b

  uncovered : Uncovered → Facts (slice_index s.code p)
  uncovered e = search (rules, no_number, no_size, no_reference)

  of_number : (f : Edit) → IsNumber s p f → Facts (byte_at (Some f))
  of_number f h = grind arith

  of_size : (f : Edit) → IsSize order segs s p f → Facts (byte_at (Some f))
  of_size f h = record {
    number = λ n. absurd (apart.own h.0 h.1 n h.2);
    size = λ t j z. is_it t j z;
    reference = λ rec i x r u. absurd (apart.size rec i x h.0 h.1 r u h.2);
    kept = λ n z u. absurd (z h.0 h.1 h.2);
  }
    where
      is_it : (t j : ℕ) → IsSizePlace order s t j p → byte_at (Some f) ≡ slice_index
          (word_bytes order (grown_data_size order s.code (all_private_words segs) t)) j
      is_it t j z = grind (arith, all_are)

  of_reference : (f : Edit) → IsOfReference segs s p f → Facts (byte_at (Some f))
  of_reference f h = record {
    number = λ n. absurd (apart.number h.0 h.1 h.2 h.3 h.4 n);
    size = λ t j z. absurd (apart.size h.0 h.1 h.2 t j h.3 h.4 z);
    reference = λ rec i x r u. is_it rec i x r u;
    kept = λ n z u. absurd (u h.0 h.1 h.2 h.3 h.4);
  }
    where
      t : Target
      t = h.5.0

      whole : Edit
      whole = edit_of s.code t h.2

      mine : (bytes : List ℕ) × Becomes segs s h.0 h.3.name h.3.body h.2 bytes
          × (byte_at (Some f) ≡ slice_index bytes (p - h.2))
      mine =
          let made = becomes order segs base s h.0 h.3.name h.3.body h.1 h.2 t h.4.0.1 h.5.1 in
          let at = ap (λ g. byte_at (Some g)) h.5.2
          ∙ ap (λ n. slice_index (stored_bytes order whole) (p - n)) (edit_place s.code t h.2) in
          (stored_bytes order whole, made, at)

      is_it : (rec i x : ℕ) (r : Record) → Reaches s rec r i x p
          → (bytes : List ℕ) × Becomes segs s rec r.name r.body x bytes
          × (byte_at (Some f) ≡ slice_index bytes (p - x))
      is_it rec i x r u =
          let one = apart.references h.0 h.1 h.2 rec i x h.3 r h.4 u in
          let same = same_reference s h.0 h.1 h.2 rec i x h.3 r h.4.0 u.0 one in
          rw (← one.0, ← same.0, ← same.1) mine

  covered_by : (f : Edit) → find (covers p) edits ≡ Some f
      → IsNumber s p f ⊎ (IsSize order segs s p f ⊎ IsOfReference segs s p f)
  covered_by f e = what_covers order segs s long outer p f (find_in (covers p) edits f e)
      (find_passes (covers p) edits f e)

  pub facts : Facts (linked_byte order (summed_segment order segs s) p)
  facts = go (find (covers p) edits) refl
    where
      go : (o : Option Edit) → find (covers p) edits ≡ o → Facts (byte_at o)
      go None e = uncovered e
      go (Some f) e = elim (covered_by f e) [
        | inl h ↦ of_number f h
        | inr u ↦ elim u [ inl h ↦ of_size f h | inr h ↦ of_reference f h ]
      ]

  pub one_byte : OneUnit segs → OnePublic segs → OneBase segs → (b c : ℕ) → Facts b
      → Facts c → b ≡ c
  one_byte units publics bases b c x y = go (find (covers p) edits) refl
    where
      go : (o : Option Edit) → find (covers p) edits ≡ o → b ≡ c
      go None e = x.kept (no_number e) (no_size e) (no_reference e)
          ∙ sym (y.kept (no_number e) (no_size e) (no_reference e))
      go (Some f) e = elim (covered_by f e) [
        | inl h ↦ x.number h.0 ∙ sym (y.number h.0)
        | inr u ↦ elim u [
          | inl h ↦ x.size h.0 h.1 h.2 ∙ sym (y.size h.0 h.1 h.2)
          | inr h ↦
              let v = x.reference h.0 h.1 h.2 h.3 h.4 in
              let w = y.reference h.0 h.1 h.2 h.3 h.4 in
              v.2 ∙ (ap (λ bytes. slice_index bytes (p - h.2))
              (one_becomes segs units publics bases s h.0 h.3.name h.3.body h.2 v.0 w.0 v.1 w.1)
              ∙ sym w.2)
        ]
      ]
