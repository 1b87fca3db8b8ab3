-- A plan of a link can be written, and its file is the linked file.
use Rattle.ps_linkfile.proofs.Vocabulary.{length-map, flat_map, patched_byte, Order, Edit, private_words, Segment, order_of, Known, Planned, LinkSegments, IsPlan, linked_segments, padded_code, padded_segment, linked_file, padded_codes, file_in, HaveEdits, arith, ◌≡◌, ℕ, ◌+◌, ◌≤◌, ◌<◌, List, [], ◌∷◌, length, map, refl, ap, block_len, segments_of, edited_from, summary_of, summary_in, IsReady}
use Rattle.ps_resolve.specs.Added.{slot_names}
use Rattle.ps_laws.proofs.PrivateOffsets.{all_are}
use Rattle.ps_linkfile.proofs.Slots.{segments_ascend, segments_small}

-- the segments of those with their edits
abbrev pub segments_in : List (Segment × List Edit) → List Segment
segments_in es = map (λ (e : Segment × List Edit). e.0) es

of_edited : (order : Order) (known : Known) (words free : ℕ) (ss : List Segment)
    → segments_in (edited_from order known words free ss) ≡ ss
of_edited order known words free [] = refl
of_edited order known words free (s ∷ ss) = ap (λ ts. s ∷ ts)
    (of_edited order known words (free + private_words s.records) ss)

-- the linked segments with their edits are the segments of the link
pub linked_are : (host : List ℕ) (libs : List (List ℕ))
    → segments_in (linked_segments host libs) ≡ segments_of host libs
linked_are host libs = grind (arith, of_edited)

-- each source has its own edits
have_edits : (order : Order) (known : Known) (words free : ℕ) (ss : List Segment)
    (ds : List (List Edit)) → LinkSegments order (edited_from order known words free ss) ds
    → HaveEdits ss ds
have_edits order known words free [] [] h = tt
have_edits order known words free (s ∷ ss) (d ∷ ds) h =
    (h.0.ready, have_edits order known words (free + private_words s.records) ss ds h.1)
have_edits order known words free ss ds h = absurd h

-- codes that are patched alike are padded alike
pub map_alike : {Y : Type 0} (f g : ℕ → Y) → ((p : ℕ) → f p ≡ g p) → (xs : List ℕ)
    → map f xs ≡ map g xs
map_alike f g h xs = grind arith

-- where two lists of edits leave the same byte at each place of a code, they leave the same whole
-- blocks
padded_alike : (order : Order) (code : List ℕ) (d e : List Edit)
    → ((p : ℕ) → p < length code → patched_byte order code d p
    ≡ patched_byte order code e p) → padded_code order code d ≡ padded_code order code e
padded_alike order code d e h = grind arith

-- with edits that link the segments, the padded codes of the segments are those of the
-- linked segments
codes_are : (order : Order) (known : Known) (words free : ℕ) (ss : List Segment)
    (ds : List (List Edit)) → LinkSegments order (edited_from order known words free ss) ds
    → padded_codes order ss ds
    ≡ flat_map (padded_segment order) (edited_from order known words free ss)
codes_are order known words free [] [] h = refl
codes_are order known words free (s ∷ ss) (d ∷ ds) h = grind
    (arith, padded_alike, codes_are order known words (free + private_words s.records) ss ds h.1)
codes_are order known words free ss ds h = absurd h

module _ (host : List ℕ) (libs : List (List ℕ)) (plan : Planned) where
  -- the padded codes of a plan of a link are those of the link's segments with their edits
  plan_codes : IsPlan host libs plan → padded_codes plan.order plan.sources plan.edits
      ≡ flat_map (padded_segment (order_of host)) (linked_segments host libs)
  plan_codes h = grind (arith, codes_are)

  -- the file of a plan of a link is the linked file
  pub plan_file : IsPlan host libs plan → file_in plan ≡ linked_file host libs
  plan_file h = grind (arith, plan_codes)

  -- a plan of a link whose host has a whole dictionary can be written
  pub plan_ready : IsPlan host libs plan → block_len ≤ length plan.host → IsReady plan
  unfolding slot_names
  plan_ready h long = grind (arith, segments_ascend, segments_small, have_edits)

  -- the summary of a plan of a link is that of the link
  pub plan_summary : IsPlan host libs plan → summary_in plan ≡ summary_of host libs
  plan_summary h = grind (arith, length-map, all_are)
