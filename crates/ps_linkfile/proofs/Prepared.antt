-- What follows from a plan of the link of these files, and from why there is none.
use Rattle.std.proofs.Common.{arith, ◌≡◌, ◌≢◌, ℕ, List, Some, None}
use Rattle.ps_words.specs.FaultText.{number_of}
use Rattle.ps_words.specs.declared.fault.Fault.{Fault}
use Rattle.ps_resolve.specs.AllFaults.{first_fault, reading_fault}
use Rattle.ps_resolve.specs.FaultParts.{HasItsParts}
use Rattle.ps_resolve.specs.Standing.{FaultAt, IsFirst, NoneStandsInReading}
use Rattle.ps_resolve.specs.Standing.Keys.{Step}
use Rattle.ps_resolve.specs.declared.linkage.Stop.{Stop}
use Rattle.ps_resolve.specs.declared.linkage.Stop.TheVariants as stop
use Rattle.ps_linkfile.specs.Outcomes.{HasUsedNumber}
use Rattle.ps_linkfile.specs.Writing.{StandsFor}
use Rattle.ps_linkfile.proofs.Vocabulary.{Planned, IsPlan, IsReady, IsStopped, NamesFirst, error_of, order_of}
use Rattle.ps_linkfile.proofs.Plans.{plan_ready, plan_file, plan_summary}
use Rattle.ps_linkfile.proofs.Whole.{AreMade, NamesWhole, NoneFound, long_host, there}

module _ (host : List ℕ) (libs : List (List ℕ)) (plan : Planned) (is : IsPlan host libs plan)
    (none : first_fault host libs ≡ None) where
  -- the file of a plan can be written
  pub ready : IsReady plan
  ready = grind (arith, plan_ready, long_host)

  -- and is the linked file
  pub stands_for : NamesWhole → NoneFound → AreMade → StandsFor host libs plan
  stands_for law found made = record {
    file = rw (← (plan_file host libs plan is)) at (there host libs law found made none);
    summary = plan_summary host libs plan is;
  }

-- why no plan was made says the first fault with its parts, or that none applies in the steps of
-- reading
pub names_first : ((host : List ℕ) (libs : List (List ℕ)) (f : Fault)
    → first_fault host libs ≡ Some f → IsFirst host libs f)
    → ((host : List ℕ) (libs : List (List ℕ)) (step : Step) (f : Fault)
    → FaultAt host libs step f → HasItsParts (order_of host) host libs f)
    → ((host : List ℕ) (libs : List (List ℕ)) → reading_fault host libs ≡ None
    → NoneStandsInReading host libs) → (host : List ℕ) (libs : List (List ℕ)) (why : Stop)
    → IsStopped host libs why → NamesFirst host libs (error_of why)
names_first h k m host libs why p = grind arith

-- the number of the fault for which no plan was made is used
pub used_number : ((host : List ℕ) (libs : List (List ℕ)) (f : Fault)
    → first_fault host libs ≡ Some f → number_of f.reason ≢ 30)
    → (host : List ℕ) (libs : List (List ℕ)) (why : Stop)
    → IsStopped host libs why → HasUsedNumber (error_of why)
used_number h host libs (stop.Refused f) is = h host libs f is
used_number h host libs stop.Memory is = tt
