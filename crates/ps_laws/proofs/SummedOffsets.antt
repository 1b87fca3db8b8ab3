-- The offset that runs along with the records is the base offset and the words of all privates
-- before it.
use Rattle.ps_laws.proofs.Vocabulary.{if◌then◌else◌, enumerate_from, needs_linking, private_offset, flat_map, Record, total_words, segments_of, words_taken, is_host, private_words, summed_edits, summed_segment, Segment, order_of, known_of, Order, Byte, ◌≡◌, ℕ, suc, ◌+◌, ◌-◌, List, [], ◌∷◌, ◌++◌, length, take, map, refl, ap, ◌∙◌, arith, HaveSummedOffsets, Known, record_edits, records_edits, edited_from, data_edits, segment_edits, words_before}
use Rattle.ps_laws.proofs.Segments.{ascend}
use Rattle.ps_laws.proofs.PrivateOffsets.{carried}

-- the edits of records, each with its own offset
records_summed : (known : Known) (code : List ℕ) (offset : ℕ → ℕ) (rs : List Record)
    (rec off : ℕ) → ((n : ℕ) → offset (rec + n) ≡ off + private_words (take n rs))
    → records_edits known code off rs ≡ flat_map
    (λ (r : ℕ × Record). record_edits known code (offset r.0) r.1) (enumerate_from rec rs)
records_summed known code offset [] rec off h = refl
records_summed known code offset (r ∷ rs) rec off h =
    ap (λ n. record_edits known code n r ++ records_edits known code (off + words_taken r.body) rs)
    first ∙ ap (λ es. record_edits known code (offset rec) r ++ es)
    (records_summed known code offset rs (rec + 1) (off + words_taken r.body) later)
  where
    first : off ≡ offset rec
    first =
        let a : offset (rec + 0) ≡ offset rec = ap offset (omega arith) in
        let e = h 0 in
        omega (arith, a, e)

    later : (n : ℕ) → offset (rec + 1 + n)
        ≡ off + words_taken r.body + private_words (take n rs)
    later n =
        let a : offset (rec + 1 + n) ≡ offset (rec + suc n) = ap offset (omega arith) in
        let b = h (suc n) in
        let c = words_before r (take n rs) in
        omega (arith, a, b, c)

module _ (order : Order) (all : List Segment) where
  -- the edits of a segment, with an offset that runs along from its first private, are those with
  -- each offset as a sum
  segment_summed : (s : Segment) (free : ℕ)
      → ((n : ℕ) → private_offset all s.slot n ≡ free + private_words (take n s.records))
      → segment_edits order (known_of all) (total_words all) free s ≡ summed_edits order all s
  segment_summed s free h = ap (λ es. if needs_linking s.role then Byte s.slot (length s.code - 2)
      ∷ ((if is_host s.role then data_edits order (total_words all) s.code else []) ++ es) else
      []) (records_summed (known_of all) s.code (λ n. private_offset all s.slot n) s.records 0 free
      (λ n. ap (λ m. private_offset all s.slot m) (omega arith) ∙ h n))

-- the edits of all segments of a link have summed offsets
pub offsets : (host : List ℕ) (libs : List (List ℕ)) → HaveSummedOffsets host libs
offsets host libs =
    let order = order_of host in
    let segs = segments_of host libs in
    carried segs (λ n ss. edited_from order (known_of segs) (total_words segs) n ss
    ≡ map (summed_segment order segs) ss) (λ n. refl) (λ s rest n offsets later. grind
    (arith, segment_summed order segs s n offsets, later)) (ascend order host libs)
