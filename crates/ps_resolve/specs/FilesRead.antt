-- What was read of the files of a link.
use Rattle.std.specs.Prelude.{◌≡◌, ℕ, List, Option, None}
use Rattle.ps_words.specs.declared.order.Order.{Order}
use Rattle.ps_words.specs.declared.fault.Fault.{Fault}
use Rattle.ps_reading.specs.Added.{segments}
use Rattle.ps_reading.specs.Readings.{reading_fault}
use Rattle.ps_reading.specs.Sources.{Segment, order_of}
use Rattle.ps_resolve.specs.Linkable.{AreWhole}

-- the host's byte order, the first fault and, where there is none, all segments of the link, which
-- can be linked
pub record WereRead (host : List ℕ) (libs : List (List ℕ)) (order : Order) (ss : List Segment)
    (fault : Option Fault) : Type 0 where
  pub of_host : order ≡ order_of host
  pub first : fault ≡ reading_fault host libs
  pub all : fault ≡ None → ss ≡ segments (order_of host) host libs
  pub whole : fault ≡ None → AreWhole order ss
