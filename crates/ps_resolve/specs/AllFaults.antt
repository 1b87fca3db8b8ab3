-- The first fault of all: what is looked at while the files are read, and what is looked at then.
pub use Rattle.ps_reading.specs.Readings.{reading_rest}
unfoldable pub use Rattle.ps_reading.specs.Readings.{reading_fault}
use Rattle.std.specs.Prelude.{ℕ, List, Option}
use Rattle.std.specs.Option.{option_or}
use Rattle.ps_words.specs.declared.fault.Fault.{Fault}
use Rattle.ps_reading.specs.Sources.{order_of}
use Rattle.ps_reading.specs.Added.{segments}
use Rattle.ps_resolve.specs.Faults.{linking_fault}

-- the first fault of all
unfoldable pub first_fault : List ℕ → List (List ℕ) → Option Fault
first_fault host libs = let order = order_of host in
    option_or (reading_fault host libs) (linking_fault order (segments order host libs))
