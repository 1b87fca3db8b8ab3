-- The first fault of a link's segments, stage by stage.
use Rattle.ps_resolve.proofs.Vocabulary.{arith, ◌≡◌, ℕ, ◌<◌, List, [], ◌∷◌, length, map, true, Option, Some, None, refl, sym, ◌∙◌, ap, All, option_or, option_map_or, Edit, Order, Fault, is_host, next_of, Segment, host_of, host_records, units_of, definitions, first_duplicate, IsStop, duplicate_fault, Allotted, owner_of, all_allotted, allotment_of, first_private_fault, total_words, IsOfSize, AreOfReferences, HasOneHost, Known, known_by, known_of, data_edits, edited_segments, edited_from, AreStopped, LinkSegments, Stop}
use Rattle.ps_resolve.specs.Faults.{definitions_fault, privates_fault, data_fault, size_fault, references_fault, references_fault_from, linking_fault}
use Rattle.ps_resolve.specs.declared.definitions.Def.{Def}

pub skip : {X : Type 0} (a b : Option X) → a ≡ None → option_or a b ≡ b
skip a b h = grind arith

pub keep : {X : Type 0} (a b : Option X) (x : X) → a ≡ Some x → option_or a b ≡ Some x
keep a b x h = grind arith

-- a link of these segments, of which one is the host's
module _ (order : Order) (segs : List Segment) {own : Segment}
    (is : host_of segs ≡ Some own) where
  pub records_are : host_records segs ≡ own.records
  records_are = ap (λ (o : Option Segment). option_map_or (λ s. s.records) o []) is

  stages : linking_fault order segs ≡ option_or (definitions_fault segs)
      (option_or (privates_fault segs) (option_or (data_fault order segs)
      (references_fault order segs)))
  unfolding linking_fault
  stages = refl

  definitions_are : definitions_fault segs ≡ duplicate_fault 0 own.slot own.records
  unfolding definitions_fault
  definitions_are = rw is refl

  privates_are : privates_fault segs
      ≡ first_private_fault (next_of own.records) (map owner_of segs)
  unfolding privates_fault
  privates_are = grind arith

  data_is : data_fault order segs ≡ size_fault order (total_words segs) own
  unfolding data_fault
  data_is = rw is refl

  references_are : references_fault order segs
      ≡ references_fault_from order (known_of segs) (next_of own.records) segs
  unfolding references_fault
  references_are = grind arith

  pub definitions_stop : (stop : Stop) → IsStop (0 < length (definitions own.records))
      (duplicate_fault 0 own.slot own.records) stop → AreStopped order segs stop
  definitions_stop stop d = grind (arith, stages, definitions_are)

  -- the definitions of the host's segment, and the offset after its own data
  module _ {ds : List (List ℕ × Def)} (ds_are : ds ≡ definitions own.records)
      (once : first_duplicate own.records ≡ None) {next : ℕ}
      (next_is : next ≡ next_of own.records) where
    behind_definitions : linking_fault order segs ≡ option_or (privates_fault segs)
        (option_or (data_fault order segs) (references_fault order segs))
    behind_definitions = grind (arith, stages, definitions_are)

    fault_is : first_private_fault next (map owner_of segs) ≡ privates_fault segs
    fault_is = grind (arith, privates_are)

    pub privates_stop : (stop : Stop)
        → IsStop (0 < length (all_allotted next (map owner_of segs)))
        (first_private_fault next (map owner_of segs)) stop → AreStopped order segs stop
    privates_stop stop d = grind (arith, behind_definitions, fault_is)

    -- the privates, and how many words they take
    module _ {a : Allotted} (a_is : a ≡ allotment_of next (map owner_of segs))
        (allotted : first_private_fault next (map owner_of segs) ≡ None) {words : ℕ}
        (words_is : words ≡ a.words) where
      pub words_are : words ≡ total_words segs
      words_are = grind arith

      pub allotment_is : a ≡ allotment_of (next_of (host_records segs)) (map owner_of segs)
      allotment_is = grind arith

      behind_privates : linking_fault order segs
          ≡ option_or (size_fault order words own) (references_fault order segs)
      behind_privates = behind_definitions ∙ skip _ _ (sym fault_is ∙ allotted)
          ∙ ap (λ (o : Option Fault). option_or o (references_fault order segs))
          (data_is ∙ ap (λ (n : ℕ). size_fault order n own) (sym words_are))

      pub size_stop : (stop : Stop) → IsOfSize order words own stop → AreStopped order segs stop
      size_stop stop d = grind (arith, behind_privates)

      -- the edit that stores the host's data size, the units of the link
      module _ (fits : size_fault order words own ≡ None)
          {units : List (List ℕ × ℕ)} (units_is : units ≡ units_of segs) where
        abbrev known : Known
        known = known_by ds units

        pub known_is : known ≡ known_of segs
        known_is = grind arith

        behind_size : linking_fault order segs ≡ references_fault_from order known next segs
        behind_size = grind (arith, behind_privates, references_are, known_is)

        pub references_stop : (stop : Stop) → AreOfReferences order known next segs stop
            → AreStopped order segs stop
        references_stop stop d = grind (arith, behind_size)

        pub none_stands : references_fault_from order known next segs ≡ None
            → linking_fault order segs ≡ None
        none_stands d = behind_size ∙ d

        module _ (one : HasOneHost segs) {size : Edit}
            (stored : data_edits order words own.code ≡ size ∷ []) (edits : List (List Edit))
            (links : (n : ℕ) → All (λ s. is_host s.role ≡ true
            → data_edits order n s.code ≡ size ∷ []) segs
            → LinkSegments order (edited_from order known n next segs) edits) where
          linked : LinkSegments order (edited_from order known (total_words segs) next segs) edits
          linked = grind (arith, words_are)

          pub all_linked : LinkSegments order (edited_segments order segs) edits
          all_linked = grind (arith, linked)
