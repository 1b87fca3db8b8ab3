-- Segments as they were read, in lists.
use Rattle.std.proofs.Common.{◌≡◌, ◌∙◌, ◌∷◌, ◌+◌, ◌≤◌, ℕ, Bor, List, length, drop, map, ap, sym, arith}
use Rattle.std.proofs.lemmas.List.{drop-map, length-map}
use Rattle.ps_resolve.specs.Sources.{contents}
use Rattle.ps_check_segments.specs.Seen.{Seen, seen}
use Rattle.ps_check_segments.specs.declared.segments.ReadSegment.{ReadSegment}

-- the segments that are left, as they are seen
pub seen_left : (ss : List ReadSegment) (i : ℕ) (s : ReadSegment)
    → drop i ss ≡ s ∷ drop (i + 1) ss
    → drop i (map seen ss) ≡ seen s ∷ drop (i + 1) (map seen ss)
seen_left ss i s h = drop-map seen i ss ∙ (ap (λ (l : List ReadSegment). map seen l) h
    ∙ ap (λ (l : List Seen). seen s ∷ l) (sym (drop-map seen (i + 1) ss)))

pub seen_over : (ss : List ReadSegment) (i : ℕ) → length ss ≤ i → length (map seen ss) ≤ i
seen_over ss i h = omega (arith, length-map ss seen)

-- files that are left
pub contents_left : (fs : List (Bor (List ℕ))) (i : ℕ) (f : Bor (List ℕ))
    → drop i fs ≡ f ∷ drop (i + 1) fs
    → drop i (contents fs) ≡ f.now ∷ drop (i + 1) (contents fs)
contents_left fs i f h = drop-map (λ (b : Bor (List ℕ)). b.now) i fs
    ∙ (ap (λ (l : List (Bor (List ℕ))). map (λ (b : Bor (List ℕ)). b.now) l) h
    ∙ ap (λ (l : List (List ℕ)). f.now ∷ l)
    (sym (drop-map (λ (b : Bor (List ℕ)). b.now) (i + 1) fs)))

pub contents_over : (fs : List (Bor (List ℕ))) (i : ℕ) → length fs ≤ i
    → length (contents fs) ≤ i
contents_over fs i h = omega (arith, length-map fs (λ (b : Bor (List ℕ)). b.now))
