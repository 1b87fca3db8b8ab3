-- The fault of the data size of the host's outer block.
use Rattle.std.specs.Prelude.{◌≡◌, ℕ, ◌<◌, List, Some}
use Rattle.ps_codefile.specs.Procedures.{table_of}
use Rattle.ps_reading.specs.Added.{segments}
use Rattle.ps_resolve.specs.LinkedBytes.{all_private_words}
use Rattle.ps_resolve.specs.Linking.{grown_data_size}
use Rattle.ps_words.specs.FaultPlaces.{in_slot}
use Rattle.ps_words.specs.declared.order.Order.{Order}
use Rattle.ps_words.specs.declared.fault.Fault.{Fault}
use Rattle.ps_words.specs.declared.fault.Reason.TheVariants as reason
use Rattle.ps_resolve.specs.Standing.Segments.{OfHostSegment}
use Rattle.ps_resolve.specs.declared.edits.data_size.TheConstants.{MAX_DATA_SIZE}

-- the data size of the host's outer block, with two bytes more for each private word, does not fit
-- in a word
abbrev pub InDataSize : Order → List ℕ → List (List ℕ) → Fault → Type 0
InDataSize order host libs f =
    OfHostSegment order host libs (λ s. (t : ℕ) × (table_of order s.code 1 ≡ Some t)
    × ((f ≡ in_slot 0 s.slot reason.DataTooLarge)
    × (MAX_DATA_SIZE < grown_data_size order s.code
    (all_private_words (segments order host libs)) t)))
