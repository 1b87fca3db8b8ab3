-- The edits of one segment link it.
use Rattle.ps_resolve.proofs.Vocabulary.{rules, arith, ◌≡◌, ℕ, ◌-◌, ◌++◌, List, [], ◌∷◌, length, true, Option, IsPermutation, option_to_list, IsPermutation-sym, AreApart, AreEdits, patched_byte, Order, Edit, Byte, needs_linking, is_host, Segment, data_size_edit, data_edits, segment_edits, LinksSegment, Known, records_edits}

-- the number of a segment that is linked, its own edit, and the edits of its references
abbrev pub all_of : Known → Segment → Option Edit → ℕ → List Edit
all_of known v own free = Byte v.slot (length v.code - 2)
    ∷ (option_to_list own ++ records_edits known v.code free v.records)

module _ (order : Order) (known : Known) (v : Segment) (free : ℕ) where
  -- one whose references are resolved
  module _ (h : needs_linking v.role ≡ true) (size : Edit) where
    listed : (words : ℕ) → (is_host v.role ≡ true
        → data_edits order words v.code ≡ size ∷ [])
        → segment_edits order known words free v
        ≡ all_of known v (data_size_edit (is_host v.role) size) free
    listed words e = grind arith

    pub linked_links : (sorted : List Edit)
        → IsPermutation (all_of known v (data_size_edit (is_host v.role) size) free) sorted
        → AreEdits (length v.code) sorted
        → ((edits listed : List Edit) (p : ℕ) → AreApart 0 edits
        → IsPermutation edits listed
        → patched_byte order v.code edits p ≡ patched_byte order v.code listed p)
        → (words : ℕ) → (is_host v.role ≡ true
        → data_edits order words v.code ≡ size ∷ [])
        → LinksSegment order v (segment_edits order known words free v) sorted
    linked_links sorted same ready alike words e = search (rules, IsPermutation-sym)
