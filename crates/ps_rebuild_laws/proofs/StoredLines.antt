-- The lines of the references of a link name each byte that it stores, and no other.
use Rattle.ps_rebuild_laws.proofs.Vocabulary.{AreMadeByLines, Bool, Cause, Decides, Decides-eqb, Edit, Err, HaveApartPlaces, HaveLinkedBytes, HaveOneLinkedByte, HaveSummedOffsets, In, IsLine, IsLinkedByte, IsMadeByLines, IsNumberPlace, IsOfLink, IsOnePlace, IsSizePlace, Known, LinkedFile, List, None, Ok, Option, Order, Reaches, Reason, Record, Result, Segment, Some, SomeItem, StoredIn, Target, Word, [], all_items, all_stored, ap, arith, block_len, block_of, by_slot, cause_at, cause_width, data_edits, drop, edit_of, edited_segments, enumerate_from, false, filter, filter_map, find, find_in, find_passes, flat_map, get_or-drop, get_or-map-range_with_len, get_or-take, grown_data_size, if◌then◌else◌, in_filter_map, is_host, is_word_at, known_of, length, length-drop, length-map-range_with_len, length-take, linked_byte, list_any, list_any-append, map, map_at, nat_tests, needs_linking, of_all, of_filter_map, of_link, of_segments, option_map, option_map_or, order_of, patched_byte, private_offset, range_with_len, reading_fault, record_edits, records_at, refl, refs_of, segments_of, slice_get, slice_index, some_mapped, stored_in, summed_edits, summed_segment, sym, table_of, take, target_of, total_words, true, ℕ, ◌&&◌, ◌*◌, ◌+◌, ◌-◌, ◌<◌, ◌==◌, ◌||◌, ◌∙◌, ◌∷◌, ◌≡◌, ◌≤◌}
use Rattle.ps_laws.proofs.Looking.{any_of_items, find_none, is_there}
use Rattle.ps_laws.proofs.OnePlace.{host_linked}
use Rattle.ps_laws.proofs.References.{wide}
use Rattle.ps_laws.proofs.SoundCodes.{outer}
use Rattle.ps_linkfile.specs.declared.cause.Cause.TheVariants.{DataSize, Number, Reference}
use Rattle.ps_linkinfo.specs.Kinds.{kind_of}
use Rattle.ps_linkinfo.specs.Numbered.{numbered_records}
use Rattle.ps_linkinfo.specs.Operands.{operand_width}
use Rattle.ps_linkinfo.specs.declared.kind.Kind.{Kind}
use Rattle.ps_rebuild_laws.specs.StoredLines.{IsRecordOfLine}
use Rattle.std.proofs.lemmas.Option.{slice_get-get_or, slice_get_within}
use Rattle.std.proofs.Common.{suc}
use Rattle.std.specs.Option.{option_or}

-- 1. lists
-- what some items give, in one step
as_one : {A C D : Type 0} (g : C → D) (test : C → Bool) (f : A → C) (xs : List A)
    → map g (filter test (map f xs))
    ≡ filter_map (λ x. if test (f x) then Some (g (f x)) else None) xs
as_one g test f [] = refl
as_one g test f (x ∷ xs) = grind (arith, as_one g test f xs)

-- a list that a function makes of its places, and a piece of it
pub made_at : {A : Type 0} (f : ℕ → A) (n p : ℕ) → p < n
    → slice_get (map f (range_with_len 0 n)) p ≡ Some (f p)
made_at f n p h =
    let at = get_or-map-range_with_len f 0 n p p (f p) in
    let size = length-map-range_with_len f 0 n in grind (arith, slice_get-get_or, at, size)

module _ (f : ℕ → ℕ) (n w at : ℕ) where
  abbrev piece : List ℕ
  piece = take w (drop at (map f (range_with_len 0 n)))

  piece_at : (j : ℕ)
      → ((j < length piece) → (at + j < n) × (slice_index piece j ≡ f (at + j)))
      × (j < w → at + j < n → j < length piece)
  piece_at j =
      let all = map f (range_with_len 0 n) in
      let a = length-take w (drop at all) in let b = length-drop at all in
      let size = length-map-range_with_len f 0 n in
      let x = get_or-take w (drop at all) j 0 in let y = get_or-drop at all j 0 in
      let z = get_or-map-range_with_len f 0 n (at + j) (at + j) 0 in
      (λ h. grind (arith, a, b, size, x, y, z), λ h k. omega (arith, h, k, a, b, size))

-- 2. what is stored at a place
module _ (x : ℕ) where
  -- the references of records store no word
  no_word : (code : List ℕ) (t : Target) (refs : List ℕ)
      → list_any (is_word_at x) (map (edit_of code t) refs) ≡ false
  no_word code t [] = refl
  no_word code t (y ∷ ys) = grind (arith, no_word code t ys)

  no_words : (known : Known) (code : List ℕ) (offset : ℕ → ℕ) (rs : List (ℕ × Record))
      → list_any (is_word_at x) (flat_map (λ (r : ℕ × Record). record_edits known code
      (offset r.0) r.1) rs) ≡ false
  no_words known code offset [] = refl
  no_words known code offset (r ∷ rs) = rw (list_any-append (is_word_at x)
      (record_edits known code (offset r.0) r.1) _) (rw (no_words known code offset rs)
      (go (target_of known (offset r.0) r.1)))
    where
      go : (o : Result Target Reason) → (list_any (is_word_at x)
          (elim o [ Err why ↦ [] | Ok t ↦ map (edit_of code t) (refs_of r.1.body) ]) || false)
          ≡ false
      go (Err why) = refl
      go (Ok t) = rw (no_word code t (refs_of r.1.body)) refl

  -- the first record that refers to the place stores there, by its width
  abbrev refers : Record → Bool
  refers r = list_any (λ y. y == x) (refs_of r.body)

  first_stores : (n : ℕ) (rs : List Record)
      → option_map cause_width (records_at (numbered_records n rs) x)
      ≡ option_map (λ (r : Record). operand_width r.body) (find refers rs)
  first_stores n [] = refl
  first_stores n (r ∷ rs) = grind (arith, first_stores (n + 1) rs)

  -- what is stored elsewhere than at the number
  cause_is : (size : ℕ) (edits : List Edit) (rs : List Record) (b : Bool)
      → (x + 2 ≡ size → ⊥) → list_any (is_word_at x) edits ≡ b
      → cause_at size edits rs x
      ≡ (if b then Some DataSize else records_at (numbered_records 0 rs) x)
  cause_is size edits rs b n e = grind (arith, nat_tests)

  -- a reference that is stored there is of a record that refers to the place, by its number
  of_records : (size : ℕ) (edits : List Edit) (rs : List Record) (kind : Kind) (name : List ℕ)
      (rec : ℕ) → cause_at size edits rs x ≡ Some (Reference kind name rec)
      → records_at (numbered_records 0 rs) x ≡ Some (Reference kind name rec)
  of_records size edits rs kind name rec e = grind arith

  abbrev IsRecordOf : ℕ → List Record → Kind → List ℕ → ℕ → Type 0
  IsRecordOf n rs kind name rec = (k : ℕ) × (rec ≡ n + k) × ((r : Record)
      × (slice_get rs k ≡ Some r) × (kind_of r.body ≡ kind) × (r.name ≡ name)
      × (refers r ≡ true))

  record_of : (n : ℕ) (rs : List Record) (kind : Kind) (name : List ℕ) (rec : ℕ)
      → records_at (numbered_records n rs) x ≡ Some (Reference kind name rec)
      → IsRecordOf n rs kind name rec
  record_of n [] kind name rec e = absurd (cc)
  record_of n (r ∷ rs) kind name rec e = by (refers r) refl (record_of (n + 1) rs kind name rec) e
    where
      by : (b : Bool) → refers r ≡ b
          → (records_at (numbered_records (n + 1) rs) x ≡ Some (Reference kind name rec)
          → IsRecordOf (n + 1) rs kind name rec)
          → option_or (if b then Some (Reference (kind_of r.body) r.name n) else None)
          (records_at (numbered_records (n + 1) rs) x) ≡ Some (Reference kind name rec)
          → IsRecordOf n (r ∷ rs) kind name rec
      by true is later h =
          (0, (let same : n ≡ rec = (cc) in omega (arith, same)), (r, refl, cc, cc, is))
      by false is later h = let t = later h in let at = t.1 in (suc t.0, omega (arith, at), t.2)

  refers_if : (r : Record) → Decides (refers r) (SomeItem (refs_of r.body) (λ i y. y ≡ x))
  refers_if r = any_of_items (λ y. y == x) (λ y. y ≡ x) (λ y. Decides-eqb y x) (refs_of r.body)

-- 3. the segments of one link
module _ (host : List ℕ) (libs : List (List ℕ)) (file : List ℕ)
    (is : LinkedFile host libs file)
    (made : HaveLinkedBytes host libs) (one : HaveOneLinkedByte host libs)
    (apart : HaveApartPlaces host libs) (summed : HaveSummedOffsets host libs)
    (read : reading_fault host libs ≡ None) where
  abbrev order : Order
  order = order_of host

  abbrev segs : List Segment
  segs = segments_of host libs

  abbrev start : Segment → ℕ
  start s = block_of (segments_of host libs) s.slot

  abbrev edits : Segment → List Edit
  edits s = summed_edits order segs s

  abbrev mine : Segment → StoredIn
  mine s = stored_in order (start s) s (edits s)

  abbrev listed : Segment → Option StoredIn
  listed s = if needs_linking s.role then Some (mine s) else None

  lists_are : all_stored host libs ≡ filter_map listed segs
  lists_are = rw (summed, as_one)

  module _ (s : Segment) (there : In s segs) where
    -- a segment is the only one of its slot
    listed_is : (l : StoredIn) → In l (all_stored host libs) → l.slot ≡ s.slot
        → l ≡ mine s
    listed_is l t e =
        let u = of_filter_map listed segs l (rw lists_are at t) in
        let is_mine : l ≡ mine u.0 = grind arith in
        let slots : u.0.slot ≡ s.slot = sym (ap (λ (x : StoredIn). x.slot) is_mine) ∙ e in
        let rises = (by_slot host libs).0 in let a = there.1 in let b = u.1.1 in
        let k : there.0 ≡ u.1.0 = grind (arith, rises) in
        let same : u.0 ≡ s = cc in is_mine ∙ ap mine same

    -- the byte at each place of its code is the linked byte
    is_linked : (p : ℕ) → p < length s.code
        → IsLinkedByte order segs s p (slice_index file (block_len * start s + p))
    is_linked = of_all (λ (q : Segment). (p : ℕ) → p < length q.code
        → IsLinkedByte order segs q p (slice_index file (block_len * start q + p))) segs
        is.codes there.0 s there.1

    named : (at j : ℕ) (new : List ℕ) → IsLine (all_stored host libs) s.slot at new
        → j < length new → (at + j < length s.code)
        × (slice_index file (block_len * start s + (at + j)) ≡ slice_index new j)
    named at j new (k, l, get, (slot, (c, cause, now))) h =
        let same = listed_is l (k, get) slot in
        let is_now : new ≡ take (cause_width c) (drop at (mine s).linked) =
        now ∙ ap (λ (x : StoredIn). take (cause_width c) (drop at x.linked)) same in
        let t = (piece_at (patched_byte order s.code (edits s)) (length s.code) (cause_width c)
        at j).0 (rw is_now at h) in
        let byte = of_all (λ (e : Segment × List Edit). (p : ℕ) → p < length e.0.code
        → IsLinkedByte order segs e.0 p (linked_byte order e p)) (edited_segments order segs) made
        there.0 (s, edits s) (rw summed (map_at (summed_segment order segs) segs there.0 s
        there.1)) (at + j) t.0 in
        let same_byte = of_all (λ (q : Segment). (p b c : ℕ) → IsLinkedByte order segs q p b
        → IsLinkedByte order segs q p c → b ≡ c) segs one there.0 s there.1 (at + j) _ _
        (is_linked (at + j) t.0) byte in (t.0, same_byte ∙ sym (rw is_now t.1))

    recorded : (at rec : ℕ) (kind : Kind) (name : List ℕ)
        → IsRecordOfLine (all_stored host libs) s.slot at kind name rec → (r : Record)
        × (slice_get s.records rec ≡ Some r) × (kind_of r.body ≡ kind) × (r.name ≡ name)
        × SomeItem (refs_of r.body) (λ i x. x ≡ at)
    recorded at rec kind name (k, l, get, (slot, cause)) =
        let f = cause_at (length s.code) (edits s) s.records in
        let there = rw (listed_is l (k, get) slot) at cause in
        let inside : at < length s.code = rw length-map-range_with_len at
        (slice_get_within (map f (range_with_len 0 (length s.code))) at _ there) in
        let same : f at ≡ Some (Reference kind name rec) =
        (let made = made_at f (length s.code) at inside in cc) in
        let r = record_of at 0 s.records kind name rec
        (of_records at (length s.code) (edits s) s.records kind name rec same) in
        let k : r.0 ≡ rec = (let e = r.1 in omega (arith, e)) in
        (r.2.0, rw k at r.2.1, r.2.2, r.2.3, (refers_if at r.2.0).0 r.2.4)

    known : IsOfLink order host libs s
    known = of_link host libs read s (of_segments order host libs there.0 s there.1)

    one_at : (p : ℕ) → IsOnePlace order s p
    one_at = of_all (λ (q : Segment). (p : ℕ) → IsOnePlace order q p) segs apart
        there.0 s there.1

    -- the table of the outer block has its data size before it
    low : (t : ℕ) → is_host s.role ≡ true → table_of order s.code 1 ≡ Some t → 8 ≤ t
    low t h e = (outer order s.code t (is_host s.role) h
        (known.file.tables (host_linked s.role h)) e).low

    -- a word is stored there alone
    words : needs_linking s.role ≡ true → (x : ℕ) → list_any (is_word_at x) (edits s)
        ≡ (is_host s.role && option_map_or (λ t. t - 8 == x) (table_of order s.code 1) false)
    words linked x = rw linked (rw (list_any-append (is_word_at x) (if is_host s.role
        then data_edits order (total_words segs) s.code else []) _) (rw (no_words x (known_of segs)
        s.code (private_offset segs s.slot) (enumerate_from 0 s.records))
        (by (is_host s.role) (table_of order s.code 1))))
      where
        by : (b : Bool) (o : Option ℕ) → (list_any (is_word_at x) (if b then option_map_or
            (λ t. Word (grown_data_size order s.code (total_words segs) t) (t - 8) ∷ []) o []
            else []) || false) ≡ (b && option_map_or (λ t. t - 8 == x) o false)
        by b o = grind arith

    -- a place that no line covers has none of what is linked
    module _ (p : ℕ) (inside : p < length s.code) (free : (at : ℕ) (new : List ℕ)
        → IsLine (all_stored host libs) s.slot at new → at ≤ p → p < at + length new
        → ⊥) where
      not_stored : needs_linking s.role ≡ true → (at : ℕ) (c : Cause)
          → cause_at (length s.code) (edits s) s.records at ≡ Some c
          → at ≤ p → p < at + cause_width c → ⊥
      not_stored linked at c cause low high =
          let l = in_filter_map listed segs s (mine s) there (rw linked refl) in
          let size = (piece_at (patched_byte order s.code (edits s)) (length s.code)
          (cause_width c) at (p - at)).1 (omega (arith, low, high)) (omega (arith, low, inside)) in
          let get = made_at (cause_at (length s.code) (edits s) s.records) (length s.code) at
          (omega (arith, low, inside)) ∙ ap (λ o. Some o) cause in
          free at (take (cause_width c) (drop at (mine s).linked))
          (l.0, mine s, rw lists_are l.1, (refl, (c, get, refl))) low (omega (arith, low, size))

      number : IsNumberPlace s p → ⊥
      number n = not_stored n.0 p Number (grind (arith, nat_tests, n.1)) (omega arith) (omega arith)

      size : (t j : ℕ) → IsSizePlace order s t j p → ⊥
      size t j (own, table, less, at) =
          let linked = host_linked s.role own in
          let eight = low t own table in
          not_stored linked (t - 8) DataSize (cause_is (t - 8) (length s.code) (edits s) s.records
          true (λ e. (one_at (t - 8)).own t 0 (linked, e)
          (own, table, omega arith, omega (arith, eight)))
          (words linked (t - 8) ∙ rw (own, table) ((Decides-eqb (t - 8) (t - 8)).1 refl)))
          (omega (arith, at, eight)) (omega (arith, at, eight, less))

      reference : (rec i x : ℕ) (r : Record) → Reaches s rec r i x p → ⊥
      reference rec i x r ((at, ref), (from, to)) =
          let linked : needs_linking s.role ≡ true =
          (let unread = known.file.unread in grind arith) in
          let itself : Reaches s rec r i x x =
          ((at, ref), (omega arith, omega (arith, wide r.body i x ref))) in
          let first = is_there (find (refers x) s.records) (λ n. find_none (refers x)
          (λ (q : Record). SomeItem (refs_of q.body) (λ i y. y ≡ x)) (refers_if x) s.records n
          (rec, r, at, (i, x, ref, refl))) in
          let there = find_in (refers x) s.records first.0 first.1 in
          let place = (refers_if x first.0).0 (find_passes (refers x) s.records first.0 first.1) in
          let ref_there = place.2 ∙ ap (λ y. Some y) place.3 in
          let theirs : Reaches s there.0 first.0 place.0 x x = (
            (there.1, ref_there),
            (omega arith, omega (arith, wide first.0.body place.0 x ref_there)),
          ) in
          let same = ((one_at x).references rec i x there.0 place.0 x r first.0 itself theirs).0 in
          let is_first : first.0 ≡ r = (let b = there.1 in cc) in
          let c = some_mapped cause_width (records_at (numbered_records 0 s.records) x)
          (operand_width r.body) (first_stores x 0 s.records ∙ ap (option_map (λ (q : Record).
          operand_width q.body)) (first.1 ∙ ap (λ q. Some q) is_first)) in
          not_stored linked x c.0 (cause_is x (length s.code) (edits s) s.records false
          (λ e. (one_at x).number rec i x r itself (linked, e)) (no_size linked x rec i r itself)
          ∙ c.1) from (rw (← c.2) to)
        where
          no_size : needs_linking s.role ≡ true → (x rec i : ℕ) (r : Record)
              → Reaches s rec r i x x → list_any (is_word_at x) (edits s) ≡ false
          no_size linked x rec i r itself =
              let none = λ (t : ℕ) (h : is_host s.role ≡ true)
              (e : table_of order s.code 1 ≡ Some t) (same : t - 8 ≡ x).
              (one_at x).size rec i x t 0 r itself
              (h, e, omega arith, omega (arith, same, low t h e)) in
              words linked x ∙ grind (arith, nat_tests, none)

    pub segment_made : IsMadeByLines (all_stored host libs) s file (start s)
    segment_made = record {
      before = λ k l get slot. let same = listed_is l (k, get) slot in
          (ap (λ (x : StoredIn). x.code) same, ap (λ (x : StoredIn). x.block) same);
      named = named;
      recorded = recorded;
      kept = λ p inside free. (is_linked p inside).kept (number p inside free)
          (size p inside free) (reference p inside free);
    }

  pub made_by_lines : AreMadeByLines host libs file
  made_by_lines = all_items
      (λ (s : Segment). IsMadeByLines (all_stored host libs) s file (start s)) segs
      (λ k s e. segment_made s (k, e))
