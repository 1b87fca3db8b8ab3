-- Which faults apply, a clause for each number, step by step; their keys, and which is the first of
-- all.
use Rattle.std.specs.Prelude.{◌≡◌, ◌⊎◌, ℕ, ◌<◌, List}
use Rattle.ps_resolve.specs.First.{Before}
use Rattle.ps_reading.specs.Sources.{order_of}
use Rattle.ps_words.specs.declared.order.Order.{Order}
use Rattle.ps_words.specs.declared.fault.Fault.{Fault}
use Rattle.ps_resolve.specs.Standing.Keys.{Step, turn, key, OfHost, OfSlots, OfNoHost, OfLibraries, OfSources, OfAdded, OfDefinitions, OfPrivates, OfDataSize, OfReferences}
use Rattle.ps_resolve.specs.Standing.Hosts.{InHost}
use Rattle.ps_reading.specs.Standing.Slots.{InSlots, InNoHost}
use Rattle.ps_resolve.specs.Standing.Libraries.{InLibraries}
use Rattle.ps_resolve.specs.Standing.Sources.{InSources}
use Rattle.ps_resolve.specs.Standing.Rounds.{InRound}
use Rattle.ps_resolve.specs.Standing.Definitions.{InDefinitions}
use Rattle.ps_resolve.specs.Standing.Privates.{InPrivates}
use Rattle.ps_resolve.specs.Standing.DataSizes.{InDataSize}
use Rattle.ps_resolve.specs.Standing.References.{InReferences}
pub use Rattle.ps_reading.specs.Standing.Phrases
pub use Rattle.ps_reading.specs.Standing.Slots
pub mod Keys
pub mod Hosts
pub mod Libraries
pub mod Sources
pub mod Rounds
pub mod Segments
pub mod Definitions
pub mod Privates
pub mod DataSizes
pub mod References

-- the faults that apply in a step
abbrev pub StandsIn : Step → Order → List ℕ → List (List ℕ) → Fault → Type 0
StandsIn OfHost order host libs f = InHost host f
StandsIn OfSlots order host libs f = InSlots order host f
StandsIn OfNoHost order host libs f = InNoHost order host f
StandsIn OfLibraries order host libs f = InLibraries order libs f
StandsIn OfSources order host libs f = InSources order host libs f
StandsIn (OfAdded k) order host libs f = InRound order host libs k f
StandsIn OfDefinitions order host libs f = InDefinitions order host libs f
StandsIn OfPrivates order host libs f = InPrivates order host libs f
StandsIn OfDataSize order host libs f = InDataSize order host libs f
StandsIn OfReferences order host libs f = InReferences order host libs f

-- The fault applies in this step, whatever the steps before it have: what a step is about may mean
-- little where an earlier one has a fault, and a fault that applies only so is never first, since
-- that of the earlier step has the smaller key.
pub record FaultAt (host : List ℕ) (libs : List (List ℕ)) (step : Step) (f : Fault) : Type 0
  where
    pub stands : StandsIn step (order_of host) host libs f

-- no fault applies in the steps of reading, which come before that of the definitions: nothing is
-- linked in them yet, and no memory is taken
abbrev pub NoneStandsInReading : List ℕ → List (List ℕ) → Type 0
NoneStandsInReading host libs = (step : Step) (f : Fault) → turn step < turn OfDefinitions
    → FaultAt host libs step f → ⊥

-- no fault applies, in any step
abbrev pub NoneStands : List ℕ → List (List ℕ) → Type 0
NoneStands host libs = (step : Step) (f : Fault) → FaultAt host libs step f → ⊥

-- the first fault: it applies, and its key is less than that of each other fault that applies, in
-- whichever step
pub record IsFirst (host : List ℕ) (libs : List (List ℕ)) (f : Fault) : Type 0 where
  pub step : Step
  pub stands : FaultAt host libs step f
  pub least : (other : Step) (g : Fault) → FaultAt host libs other g
      → ((other ≡ step) × (g ≡ f)) ⊎ Before (key step f) (key other g)
