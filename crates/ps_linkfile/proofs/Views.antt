-- The segment of a plan at a place, the first block of its code, and its edits.
use Rattle.ps_linkfile.proofs.Vocabulary.{All, slice_get, Edit, MAX_CODE_LEN, Segment, block_of, starts_of, Ascend, arith, ℕ, List, map, get_or, drop, Some, ap, subst, sym, ◌≡◌, ◌+◌, ◌≤◌, ◌<◌, ◌∷◌, length, ◌∙◌, drop-map, drop_more, get_or-drop, SLOTS}
use Rattle.std.proofs.lemmas.Option.{get_or_from_slice_get, slice_get_within}
use Rattle.ps_linkfile.proofs.Blocks.{slots_below}
use Rattle.ps_linkfile.proofs.Codes.{IsAt}

-- what a list has at a place where another has an item
pub mapped : {X : Type 0} (g : X → ℕ) (xs : List X) (k : ℕ) (x : X) (rest : List X)
    → drop k xs ≡ x ∷ rest → get_or (map g xs) k 0 ≡ g x
mapped {X} g xs k x rest h =
    let at : k + 0 ≡ k = omega arith in
    rw at at (sym (get_or-drop k (map g xs) 0 0)) ∙ rw (drop-map, h)

module _ (ss : List Segment) (i : ℕ) (v : Segment) (lt : i < length ss) (is : v ≡ get_or ss i v)
  where
    pub here : drop i ss ≡ v ∷ drop (i + 1) ss
    here = drop_more ss i v lt ∙ ap (λ s. s ∷ drop (i + 1) ss) (sym is)

    -- the code of a viewed segment is small
    pub size_at : All (λ s. length s.code ≤ MAX_CODE_LEN) ss → length v.code ≤ MAX_CODE_LEN
    size_at h = subst (λ (s : Segment). length s.code ≤ MAX_CODE_LEN) (sym is) (h i v lt)

    -- the slot of a viewed segment is one of sixteen
    pub slot_at : Ascend 0 ss → v.slot < SLOTS
    slot_at h = subst (λ (s : Segment). s.slot < SLOTS) (sym is) (slots_below 0 ss h i v lt)

    -- the start at its place is the first block of its code
    pub start_at : (starts : List ℕ) → starts ≡ starts_of ss
        → get_or starts i 0 ≡ block_of ss v.slot
    start_at starts h = ap (λ bs. get_or bs i 0) h
        ∙ mapped (λ (s : Segment). block_of ss s.slot) ss i v (drop (i + 1) ss) here

-- an item and those after it
pub got : {X : Type 0} (xs : List X) (i : ℕ) (x : X) → slice_get xs i ≡ Some x
    → drop i xs ≡ x ∷ drop (i + 1) xs
got {X} xs i x h = drop_more xs i x (slice_get_within xs i x h)
    ∙ ap (λ y. y ∷ drop (i + 1) xs) (get_or_from_slice_get xs i x x h)

-- a segment and its edits
pub is_at : (ss os : List Segment) (ds : List (List Edit)) (i : ℕ) (v : Segment) (d : List Edit)
    → ss ≡ os → i < length ss → v ≡ get_or ss i v → slice_get ds i ≡ Some d
    → IsAt os ds i v d
is_at ss os ds i v d same lt is k = grind (arith, here, got)
