-- The segments of a link are by slot, and no code is longer than MAX_CODE_LEN bytes.
use Rattle.ps_linkfile.proofs.Vocabulary.{All, Order, entry_at, MAX_CODE_LEN, Ascend, ℕ, ◌+◌, ◌<◌, ◌≤◌, List, [], ◌∷◌, length, map, sym, subst, inl, inr, arith, All-tail, Segment, file_at, SLOTS}
use Rattle.ps_codefile.specs.declared.entry.Role.{Role}
use Rattle.ps_codefile.specs.declared.entry.Role.TheVariants.{Wanted}
use Rattle.ps_resolve.specs.Added.{segments, segment_at, added_segments}
use Rattle.ps_resolve.specs.Linkable.{AscendFrom}
use Rattle.ps_resolve.proofs.EachSegment.{IsMade, added_made, at_slot, each_slot, own_made}
use Rattle.ps_resolve.proofs.OfRounds.{each_added}
use Rattle.ps_resolve.proofs.ReadingCodes.{whole}
use Rattle.ps_resolve.proofs.ReadingKnown.{ascend, slot_parts}

abbrev IsSmall : Segment → Type 0
IsSmall s = length s.code ≤ MAX_CODE_LEN

module _ (order : Order) (host : List ℕ) (libs : List (List ℕ)) where
  made_small : (slot : ℕ) (name : List ℕ) (r : Role) (at : ℕ × ℕ) (s : Segment)
      → IsMade order host libs slot name r at s → IsSmall s
  made_small slot name r at s h =
      let is = whole (file_at host libs at.0)
      (entry_at order (file_at host libs at.0) at.1) h.code h.given in
      let small : length h.code ≤ MAX_CODE_LEN = omega (arith, is.len, is.small) in
      subst IsSmall (sym h.is) small

  -- no code is longer than MAX_CODE_LEN bytes
  all_small : All IsSmall (segments order host libs)
  unfolding segments
  all_small = each_slot IsSmall (segment_at order host libs)
      (λ x s lt h. elim (at_slot order host libs IsSmall added x s h) [
        | inl own ↦ (let t = own_made order host libs x s own in
            made_small x (entry_at order host x).name t.0 t.2 s t.3)
        | inr t ↦ t.2
      ])
    where
      added : All IsSmall (added_segments order host libs)
      added = each_added order host libs IsSmall
          (λ j g s round. let t = added_made order host libs g s.slot s round.brought in
          subst IsSmall (sym t.2) (made_small s.slot g.name Wanted t.0 t.1 t.3))

  all_within : All (λ s. s.slot < SLOTS) (segments order host libs)
  unfolding segments
  all_within = each_slot (λ (s : Segment). s.slot < SLOTS) (segment_at order host libs)
      (λ x s lt h. let at = (slot_parts order host libs x s h).0 in omega arith)

segments_rise : (from : ℕ) (ss : List Segment) → AscendFrom from (map
    (λ (s : Segment). s.slot) ss) → All (λ s. s.slot < SLOTS) ss → Ascend from ss
segments_rise from [] rises within = tt
segments_rise from (s ∷ ss) rises within = (
  rises.0,
  within 0 s (omega arith),
  segments_rise (s.slot + 1) ss rises.1 (All-tail (λ (q : Segment). q.slot < SLOTS) s ss within),
)

module _ (order : Order) (host : List ℕ) (libs : List (List ℕ)) where
  pub segments_ascend : Ascend 0 (segments order host libs)
  segments_ascend = grind (arith, segments_rise, ascend, all_within)

  pub segments_small : All (λ s. length s.code ≤ MAX_CODE_LEN) (segments order host libs)
  segments_small = all_small order host libs
