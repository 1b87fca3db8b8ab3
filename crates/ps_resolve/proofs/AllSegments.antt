-- One segment more of those that are linked one after another.
use Rattle.ps_resolve.proofs.Vocabulary.{◌≡◌, ℕ, ◌+◌, ◌<◌, ◌≤◌, ◌++◌, List, [], ◌∷◌, length, map, get_or, drop, Option, None, arith, Order, Edit, Fault, Segment, owner_of, private_words, all_words, AreOfReferences, IsStop, Known, segment_edits, edited_from, segment_fault, references_fault_from, LinksSegment, LinkSegments, Stop, drop_all, refl}
use Rattle.std.specs.Prelude.{⊤}
use Rattle.ps_reading.proofs.NextItems.{drop_at}
use Rattle.ps_words.specs.declared.words.TheConstants.{MAX_WORD}

module _ (order : Order) (known : Known) (ss : List Segment) (i : ℕ) (v : Segment)
    (lt : i < length ss) (is : v ≡ get_or ss i v) (free : ℕ) where
  head_is : drop i ss ≡ v ∷ drop (i + 1) ss
  head_is = grind (arith, drop_at)

  words_head : all_words (map owner_of (drop i ss))
      ≡ private_words v.records + all_words (map owner_of (drop (i + 1) ss))
  words_head = grind (arith, head_is)

  pub room_at : (total : ℕ) → free + all_words (map owner_of (drop i ss)) ≡ total
      → total ≤ MAX_WORD → free + private_words v.records ≤ MAX_WORD
  room_at total h lt = omega (arith, words_head)

  pub stop_at : (base : ℕ) (stop : Stop) → references_fault_from order known free (drop i ss)
      ≡ references_fault_from order known base ss
      → IsStop ⊤ (segment_fault order known free v) stop
      → AreOfReferences order known base ss stop
  stop_at base stop h d = grind (arith, head_is)

  module _ (end : ℕ) (goes : end ≡ free + private_words v.records) where
    pub words_on : (total : ℕ) → free + all_words (map owner_of (drop i ss)) ≡ total
        → end + all_words (map owner_of (drop (i + 1) ss)) ≡ total
    words_on total h = omega (arith, words_head, goes)

    pub first_on : (first : Option Fault)
        → references_fault_from order known free (drop i ss) ≡ first
        → segment_fault order known free v ≡ None
        → references_fault_from order known end (drop (i + 1) ss) ≡ first
    first_on first h none = grind (arith, head_is)

    pub links_on : (words : ℕ) (all : List (Segment × List Edit)) (done : List (List Edit))
        (d : List Edit) → LinksSegment order v (segment_edits order known words free v) d
        → ((behind : List (List Edit))
        → LinkSegments order (edited_from order known words free (drop i ss)) behind
        → LinkSegments order all (done ++ behind)) → (behind : List (List Edit))
        → LinkSegments order (edited_from order known words end (drop (i + 1) ss)) behind
        → LinkSegments order all (done ++ d ∷ behind)
    links_on words all done d link before behind h = grind (arith, head_is)

-- no segment is left
pub none_left : (order : Order) (known : Known) (words free i : ℕ) (ss : List Segment)
    → length ss ≤ i → LinkSegments order (edited_from order known words free (drop i ss)) []
none_left order known words free i ss h = grind (arith, drop_all)

-- the slots of the owners are those of the segments
pub slots_are : (segs : List Segment) → map (λ o. o.0.slot) (map owner_of segs)
    ≡ map (λ s. s.slot) segs
slots_are [] = refl
slots_are (s ∷ ss) = rw (slots_are ss) refl
