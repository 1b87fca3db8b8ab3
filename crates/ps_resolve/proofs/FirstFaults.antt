-- The first fault of all, by that of reading the files and that of linking their segments.
use Rattle.ps_resolve.proofs.Vocabulary.{arith, ◌≡◌, ℕ, List, Some, None, Fault, order_of, segments, linking_fault, AreStopped, IsStopped, Stop}
use Rattle.ps_resolve.specs.AllFaults.{first_fault}
use Rattle.ps_reading.specs.Readings.{reading_fault}
use Rattle.ps_resolve.proofs.LinkingFaults.{skip, keep}

module _ (host : List ℕ) (libs : List (List ℕ)) where
  pub first_read : (fault : Fault) → reading_fault host libs ≡ Some fault
      → first_fault host libs ≡ Some fault
  unfolding first_fault
  first_read fault h = keep _ _ fault h

  pub first_linked : reading_fault host libs ≡ None
      → first_fault host libs ≡ linking_fault (order_of host)
      (segments (order_of host) host libs)
  unfolding first_fault
  first_linked h = skip _ _ h

  pub stopped : reading_fault host libs ≡ None → (stop : Stop)
      → AreStopped (order_of host) (segments (order_of host) host libs) stop
      → IsStopped host libs stop
  stopped h stop d = grind (arith, first_linked)
