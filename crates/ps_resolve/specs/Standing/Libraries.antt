-- Faults of a library file by itself.
use Rattle.std.specs.Prelude.{◌≡◌, ◌≢◌, ℕ, ◌<◌, ◌≤◌, List, length}
use Rattle.ps_codefile.specs.Dictionary.{Ordered, Mixed, file_order}
use Rattle.ps_words.specs.FaultPlaces.{in_file}
use Rattle.ps_words.specs.declared.order.Order.{Order}
use Rattle.ps_words.specs.declared.fault.Reason.{Reason}
use Rattle.ps_words.specs.declared.fault.Fault.{Fault}
use Rattle.ps_words.specs.declared.fault.Reason.TheVariants as reason
use Rattle.ps_reading.specs.Sources.{library_file}
use Rattle.ps_reading.specs.Standing.Phrases.{Because, SomeItem}

-- The library is shorter than 512 bytes, or the kinds of its entries fit no byte order, or the
-- other one than the host's.
abbrev pub LibraryHas : Order → List ℕ → Reason → Type 0
LibraryHas order lib reason.ShortFile = length lib < 512
LibraryHas order lib reason.NoOrder = (512 ≤ length lib) × (file_order lib ≡ Mixed)
LibraryHas order lib reason.OrderMismatch =
    (512 ≤ length lib) × (other : Order) × (file_order lib ≡ Ordered other)
    × (other ≢ order)
LibraryHas order lib other = ⊥

-- a fault of a library file, reported with its number, from 1, and without a slot
abbrev pub InLibraries : Order → List (List ℕ) → Fault → Type 0
InLibraries order libs f = SomeItem libs
    (λ k lib. Because (in_file (library_file k)) (LibraryHas order lib) f)
