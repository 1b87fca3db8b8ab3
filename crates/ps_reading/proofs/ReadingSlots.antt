-- What is read of the slots of a host, where reading has no fault: the segments of the link.
use Rattle.ps_reading.proofs.Vocabulary.{arith, ◌≡◌, ◌<◌, ◌==◌, ℕ, Bool, false, if◌then◌else◌, List, [], ◌∷◌, ◌++◌, ap, take, Option, Some, None, Result, Ok, Err, refl, ◌∙◌, filter_map, option_map_or, option_or, Order, in_file, Fault, Reason, OpenedFile, opened_alone, slots, first_of, reading_fault, segments_in_slots, MAX_REQUESTED, SLOTS}
use Rattle.ps_reading.specs.Sources.{Segment, own_segment, own_segments, opened_files, order_of, units_of}
use Rattle.ps_reading.specs.Faults.{slots_fault, no_host_fault, libraries_fault, source_fault, sources_fault}
use Rattle.ps_reading.specs.Added.{RoundsOutcome, added_fault, all_unit_references, empty_slots, requested_from, rounds, rounds_in, segments}
use Rattle.ps_reading.specs.Readings.{HostFiles, all_read, fault_of_added, host_reading_fault, own_reading_fault, opened_host, read_requests, read_rounds, read_segment, read_segments, slot_after, slot_fault}
use Rattle.ps_reading.proofs.EachRound.{rounds_added}
use Rattle.ps_reading.proofs.FirstSlots.{neither_first, neither_second}
use Rattle.ps_reading.proofs.InSlots.{in_slots_are}
use Rattle.ps_reading.proofs.ReadingHosts.{host_is, host_read, host_refused, rest_of}
use Rattle.ps_reading.proofs.ReadingKnown.{none_at}
use Rattle.ps_reading.proofs.ReadingLibraries.{all_opened}

module _ (order : Order) (host : List ℕ) (libs : List (List ℕ)) where
  -- where no source has a fault, the segments that were read are all own ones
  read_from : (xs : List ℕ) → first_of (source_fault order host libs) xs ≡ None
      → filter_map (read_segment order host libs) xs
      ≡ filter_map (own_segment order host libs) xs
  read_from [] h = refl
  read_from (x ∷ xs) h = grind (arith, neither_second, read_from xs)

  pub read_are : sources_fault order host libs ≡ None
      → read_segments order host libs ≡ own_segments order host libs
  unfolding sources_fault read_segments own_segments
  read_are h = read_from slots h

  pub rounds_are : sources_fault order host libs ≡ None
      → read_rounds order host libs ≡ rounds order host libs
  unfolding read_rounds rounds
  rounds_are h = grind (arith, read_are)

  -- all that were read are the segments of the link
  pub all_are : sources_fault order host libs ≡ None → added_fault order host libs ≡ None
      → all_read order host libs ≡ segments order host libs
  unfolding all_read
  all_are h fine = grind (arith, read_are, rounds_are, rounds_added, in_slots_are)

module _ (order : Order) (host : List ℕ) (libs : List (List ℕ)) where
  pub libraries_are : libraries_fault order libs ≡ None → opened_files order libs ≡ libs
  unfolding libraries_fault
  libraries_are h = all_opened order libs 1 h

  -- the first fault of a host and its libraries, as it is defined step by step
  pub reading_is : host_reading_fault order host libs ≡ rest_of order host libs
  unfolding host_reading_fault
  reading_is = grind (arith, libraries_are, rounds_are)

  -- where there is none, the segments that were read are those of the link
  pub segments_are : host_reading_fault order host libs ≡ None
      → all_read order host (opened_files order libs) ≡ segments order host libs
  segments_are h = grind (arith, reading_is, libraries_are, neither_first, neither_second, all_are)

  -- what is read of the slots, by the words of the definitions
  abbrev files : List (List ℕ)
  files = opened_files order libs

  -- the fault of the own slots is the first, and else that of the units that are added
  pub units_last : (own last : Option Fault) → own ≡ own_reading_fault order host libs
      → last ≡ (read_rounds order host files).fault
      → option_or own last ≡ host_reading_fault order host libs
  unfolding own_reading_fault host_reading_fault
  units_last own last is ends = grind arith

  pub own_is : (of_files sources own : Option Fault) → own ≡ option_or of_files sources
      → of_files ≡ option_or (slots_fault order host)
      (option_or (no_host_fault order host) (libraries_fault order libs))
      → sources ≡ sources_fault order host files → own ≡ own_reading_fault order host libs
  unfolding own_reading_fault
  own_is of_files sources own is first second = grind arith

  pub first_own : (fault : Fault) → own_reading_fault order host libs ≡ Some fault
      → host_reading_fault order host libs ≡ Some fault
  first_own fault h = grind (
    arith,
    units_last (own_reading_fault order host libs) (read_rounds order host files).fault refl refl,
  )

  none_added : (here : Bool) (fault : Option Fault) → fault ≡ None
      → (if here then fault else None) ≡ None
  none_added here fault h = grind arith

  -- where reading has no fault, no slot has
  pub no_slot_fault : host_reading_fault order host libs ≡ None → (slot : ℕ) → slot < SLOTS
      → slot_fault order host files slot ≡ None
  unfolding host_reading_fault sources_fault
  no_slot_fault none slot lt =
      let own : Option Fault = slots_fault order host in
      let wanting : Option Fault = no_host_fault order host in
      let others : Option Fault = libraries_fault order libs in
      let sources : Option Fault = first_of (source_fault order host files) slots in
      let rounds_here : RoundsOutcome = read_rounds order host files in
      let last : Option Fault = rounds_here.fault in
      let rest : option_or sources last ≡ None =
      neither_second others (option_or sources last)
      (neither_second wanting (option_or others (option_or sources last))
      (neither_second own (option_or wanting (option_or others (option_or sources last)))
      none)) in
      let fine : source_fault order host files slot ≡ None =
      none_at (source_fault order host files) 0 SLOTS slot (neither_first sources last rest)
      (omega arith) (omega (arith, lt)) in
      let left : Option ℕ = slot_after rounds_here (empty_slots order host) in
      let none_more : fault_of_added rounds_here (empty_slots order host) slot ≡ None =
      none_added (option_map_or (λ (next : ℕ). next == slot) left false) last
      (neither_second sources last rest) in
      ap (λ (o : Option Fault). option_or o
      (fault_of_added rounds_here (empty_slots order host) slot)) fine ∙ none_more

  module _ (own : List Segment) (is : own ≡ read_segments order host files) where
    pub in_rounds : (empty : List ℕ) → empty ≡ empty_slots order host
        → rounds_in order host files own empty ≡ read_rounds order host files
    unfolding read_rounds
    in_rounds empty left = grind arith

    module _ (added : List Segment) (with : added ≡ (read_rounds order host files).added) where
      pub all_of : segments_in_slots order host own added ≡ all_read order host files
      unfolding all_read
      all_of = grind arith

      pub requests_of : take MAX_REQUESTED (requested_from (units_of own) []
          (all_unit_references (own ++ added))) ≡ read_requests order host files
      unfolding read_requests
      requests_of = grind arith

-- a host that is opened or refused
pub host_err : (host : List ℕ) (libs : List (List ℕ)) (why : Reason)
    → opened_host host libs ≡ Err why → opened_alone host ≡ Err why
host_err host libs why h = by (opened_alone host) refl
  where
    by : (r : Result OpenedFile Reason) → opened_alone host ≡ r
        → opened_alone host ≡ Err why
    by (Err other) e = let t = rw (e, opened_host) at h in e ∙ cc
    by (Ok o) e = let t = rw (e, opened_host) at h in cc

pub host_ok : (host : List ℕ) (libs : List (List ℕ)) (v : HostFiles)
    → opened_host host libs ≡ Ok v
    → (opened_alone host ≡ Ok (record { order = v.order; file = v.file })) × (v.libs ≡ libs)
host_ok host libs v h = by (opened_alone host) refl
  where
    by : (r : Result OpenedFile Reason) → opened_alone host ≡ r
        → (opened_alone host ≡ Ok (record { order = v.order; file = v.file }))
        × (v.libs ≡ libs)
    by (Err why) e = let t = rw (e, opened_host) at h in cc
    by (Ok o) e =
        let t : ◌≡◌ {A = Result HostFiles Reason}
        (Ok (record { order = o.order; file = o.file; libs = libs })) (Ok v) =
        rw (e, opened_host) at h in
        grind arith

-- the first fault of a host that is opened is that of the reading of its files
pub fault_of_host : (host : List ℕ) (libs : List (List ℕ)) (v : HostFiles)
    → opened_host host libs ≡ Ok v → host_reading_fault v.order v.file v.libs
    ≡ reading_fault host libs
fault_of_host host libs v h = grind (
  arith,
  host_ok host libs v h,
  reading_is v.order v.file libs,
  host_read host libs (record { order = v.order; file = v.file }),
)

pub fault_of_none : (host : List ℕ) (libs : List (List ℕ)) (why : Reason)
    → opened_host host libs ≡ Err why → reading_fault host libs ≡ Some (in_file 0 why)
fault_of_none host libs why h = host_refused host libs why (host_err host libs why h)

-- the host that is opened is the host file, in its own order
pub host_of_files : (host : List ℕ) (libs : List (List ℕ)) (v : HostFiles)
    → opened_host host libs ≡ Ok v → v
    ≡ record { order = order_of host; file = host; libs = libs }
host_of_files host libs v h =
    grind (arith, host_ok host libs v h, host_is host (record { order = v.order; file = v.file }))
