-- As many lists of edits as segments.
use Rattle.ps_resolve.proofs.Vocabulary.{◌≡◌, ◌∙◌, ℕ, ◌+◌, List, [], ◌∷◌, length, refl, arith, Order, Edit, Segment, next_of, host_records, private_words, total_words, Known, known_of, edited_from, edited_segments, LinkSegments}

-- lists of edits that link segments are as many as these
linked_len : (order : Order) (es : List (Segment × List Edit)) (ds : List (List Edit))
    → LinkSegments order es ds → length ds ≡ length es
linked_len order [] [] h = refl
linked_len order [] (d ∷ ds) h = absurd h
linked_len order (e ∷ es) [] h = absurd h
linked_len order (e ∷ es) (d ∷ ds) h = grind (arith, linked_len order es ds h.1)

pub edited_len : (order : Order) (known : Known) (words free : ℕ) (segs : List Segment)
    → length (edited_from order known words free segs) ≡ length segs
edited_len order known words free [] = refl
edited_len order known words free (s ∷ ss) =
    grind (arith, edited_len order known words (free + private_words s.records) ss)

-- the lists of edits that link segments are as many
pub lengths : (order : Order) (segs : List Segment) (ds : List (List Edit))
    → LinkSegments order (edited_segments order segs) ds → length ds ≡ length segs
lengths order segs ds h = linked_len order (edited_segments order segs) ds h
    ∙ edited_len order (known_of segs) (total_words segs) (next_of (host_records segs)) segs
