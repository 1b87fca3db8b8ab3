-- Links with the same segments make the same file, from whichever files they come.
use Rattle.ps_rebuild_laws.proofs.Vocabulary.{AreSameSegments, HaveSameHeads, Known, List, Order, SLOTS, Segment, [], ap, arith, blocks, edited_from, edited_segments, filter, find, find_mapped, flat_map, host_records, known_moved, known_of, length, linked_file, map, map-map, name_at, nat_lt, next_of, of_any_file, option_map_or, order_of, padded_segment, pair_of, private_words, refl, replicate, same_clipped, segments_of, slot_name, slot_names, slots, sym, tail_of, total_words, ℕ, ◌++◌, ◌+◌, ◌<◌, ◌==◌, ◌∙◌, ◌∷◌, ◌≡◌}
use Rattle.ps_rebuild_laws.proofs.SameSearches.{Change, renewed}
use Rattle.ps_linkfile.specs.LinkedFile.{all_pairs, dictionary}
use Rattle.ps_resolve.specs.Linking.{segment_edits}
use Rattle.std.specs.List.{fold}

-- segments whose files have other numbers are the same
pub same_renewed : (c : Change) (segs news : List Segment) → news ≡ map (renewed c) segs
    → AreSameSegments segs news
same_renewed c segs news e =
    sym (ap (λ ss. map of_any_file ss) e ∙ map-map of_any_file (renewed c) segs)

-- the file of these segments and this host
abbrev file_of : Order → List ℕ → List Segment → List ℕ
file_of order host segs = dictionary order (slot_names host segs) host segs
    ++ flat_map (padded_segment order) (edited_segments order segs)

-- 1. nothing in it depends on where a segment comes from
blocks_moved : (slot n : ℕ) (segs : List Segment)
    → fold (λ (m : ℕ) (s : Segment). m + blocks (length s.code)) n
    (filter (λ (s : Segment). nat_lt s.slot slot) (map of_any_file segs))
    ≡ fold (λ (m : ℕ) (s : Segment). m + blocks (length s.code)) n
    (filter (λ (s : Segment). nat_lt s.slot slot) segs)
blocks_moved slot n [] = refl
blocks_moved slot n (s ∷ segs) = let now = blocks_moved slot n segs in
    let later = blocks_moved slot (n + blocks (length s.code)) segs in grind arith

slot_moved : (order : Order) (host : List ℕ) (segs : List Segment) (slot : ℕ)
    → (slot_name host (map of_any_file segs) slot ≡ slot_name host segs slot)
    × (pair_of order (map of_any_file segs) slot ≡ pair_of order segs slot)
slot_moved order host segs slot =
    rw (blocks_moved slot 0 segs, find_mapped (λ (s : Segment). s.slot == slot) of_any_file segs)
    (grind arith, grind arith)

codes_moved : (order : Order) (known : Known) (words free : ℕ) (segs : List Segment)
    → flat_map (padded_segment order) (edited_from order known words free (map of_any_file segs))
    ≡ flat_map (padded_segment order) (edited_from order known words free segs)
codes_moved order known words free [] = refl
codes_moved order known words free (s ∷ segs) =
    λ i. padded_segment order (s, segment_edits order known words free s)
    ++ codes_moved order known words (free + private_words s.records) segs i

file_moved : (order : Order) (host : List ℕ) (segs : List Segment)
    → file_of order host (map of_any_file segs) ≡ file_of order host segs
unfolding dictionary all_pairs slot_names
file_moved order host segs =
    let known = known_moved of_any_file segs in
    let codes : flat_map (padded_segment order) (edited_segments order (map of_any_file segs))
    ≡ flat_map (padded_segment order) (edited_segments order segs) =
    rw (known.0, known.1, known.2)
    (codes_moved order (known_of segs) (total_words segs) (next_of (host_records segs)) segs) in
    λ i. (flat_map (λ slot. (slot_moved order host segs slot).1 i) slots
    ++ (flat_map (λ name. name) (map (λ slot. (slot_moved order host segs slot).0 i) slots)
    ++ (replicate 64 0 ++ tail_of host))) ++ codes i

-- 2. nor on more of the host than is copied: the names of its slots and its tail
same_head : (order : Order) (host other : List ℕ) (segs : List Segment)
    → ((slot : ℕ) → slot < SLOTS → name_at host slot ≡ name_at other slot)
    → tail_of host ≡ tail_of other → file_of order host segs ≡ file_of order other segs
unfolding dictionary slot_names
same_head order host other segs names tail = λ i. (all_pairs order segs
    ++ (flat_map (λ name. name) (map (λ slot. option_map_or (λ (s : Segment). s.name)
    (find (λ (s : Segment). s.slot == slot) segs)
    (same_clipped [] (name_at host) (name_at other) names i slot)) slots)
    ++ (replicate 64 0 ++ tail i)))
    ++ flat_map (padded_segment order) (edited_segments order segs)

pub same_file : (host other : List ℕ) (libs others : List (List ℕ)) → HaveSameHeads host other
    → AreSameSegments (segments_of host libs) (segments_of other others)
    → linked_file host libs ≡ linked_file other others
same_file host other libs others heads same =
    let order = order_of host in
    sym (file_moved order host (segments_of host libs))
    ∙ ((λ i. file_of order host (same i))
    ∙ (file_moved order host (segments_of other others)
    ∙ (same_head order host other (segments_of other others) heads.names heads.tail
    ∙ (λ i. file_of (heads.order i) other (segments_of other others)))))
