-- The first fault of the definitions, and that of the host's data size, is the smallest that is.
use Rattle.ps_laws.proofs.Vocabulary.{option_map, Record, fault_if, SomeItem, OfDefinitions, in_record, Order, nat_lt, option_and_then, Decides-ltb, total_words, OfDataSize, grown_data_size, in_slot, table_of, Fault, ◌≡◌, ◌<◌, ℕ, List, [], Some, refl, sym, subst, inl, inr, arith, segments, is_definition, definitions_carried}
use Rattle.ps_resolve.specs.Standing.Definitions.{HasEarlierNamesake, InDefinitions}
use Rattle.ps_resolve.specs.Faults.{definitions_fault, data_fault}
use Rattle.ps_laws.proofs.Least.{Least, Precedes, least_if, least_then, least_items, at_apart}
use Rattle.ps_words.specs.declared.fault.Reason.TheVariants as reason
use Rattle.ps_laws.proofs.PrivateOffsets.{all_are}
pub use Rattle.ps_resolve.proofs.LookingBack.{again, take_prefix, longer}
use Rattle.ps_resolve.specs.declared.edits.data_size.TheConstants.{MAX_DATA_SIZE}
use Rattle.ps_resolve.specs.Standing.DataSizes.{InDataSize}
use Rattle.ps_resolve.specs.Standing.Segments.{OfHostSegment}

module _ (order : Order) (host : List ℕ) (libs : List (List ℕ)) where
  -- the first fault of the definitions is the smallest that applies
  pub step_7 : Least (Precedes OfDefinitions)
      (InDefinitions order host libs) (definitions_fault (segments order host libs))
  unfolding definitions_fault
  step_7 = least_then (λ s. option_map (λ rec. in_record 0 s.slot rec reason.DoubledDefinition) _)
      _ (λ s is_it. subst (λ o. Least (Precedes OfDefinitions) (λ f. SomeItem s.records (λ rec
      r. (f ≡ in_record 0 s.slot rec reason.DoubledDefinition) × HasEarlierNamesake is_definition
      s.records rec r)) o) (sym (definitions_carried (λ rec. in_record 0 s.slot rec
      reason.DoubledDefinition) [] s.records 0 refl)) (least_items (λ (r : ℕ × Record). fault_if
      _ _) s.records (λ k r e. least_if _ _ (again is_definition s.records k r)) (λ i j a b x y h.
      at_apart (Precedes OfDefinitions) _ _ (inr (refl, inr (refl, inl (omega (arith, h))))) x y)))

  -- the fault of a data size that grows by so many words
  abbrev OfWords : ℕ → Fault → Type 0
  OfWords words f =
      OfHostSegment order host libs (λ s. (t : ℕ) × (table_of order s.code 1 ≡ Some t)
      × ((f ≡ in_slot 0 s.slot reason.DataTooLarge)
      × (MAX_DATA_SIZE < grown_data_size order s.code words t)))

  -- the first fault of the data size that grows by the words of the allotment
  by_total : Least (Precedes OfDataSize) (OfWords (total_words (segments order host libs)))
      (data_fault order (segments order host libs))
  unfolding data_fault
  by_total =
      let total = total_words _ in
      least_then (λ s. option_and_then (λ t. fault_if (nat_lt MAX_DATA_SIZE (grown_data_size order
      s.code total t)) _) _) _ (λ s is_it. least_then (λ t. fault_if _ _) _ (λ t e. least_if _ _
      (Decides-ltb MAX_DATA_SIZE _)))

  -- the first fault of the host's data size is the smallest that applies
  pub step_9 : Least (Precedes OfDataSize)
      (InDataSize order host libs) (data_fault order (segments order host libs))
  step_9 =
      let segs = segments order host libs in
      subst (λ words. Least (Precedes OfDataSize) (OfWords words) (data_fault order segs))
      (sym (all_are segs)) by_total
