-- Faults of the host file by itself.
use Rattle.std.specs.Prelude.{◌≡◌, ℕ, ◌<◌, ◌≤◌, List, length}
use Rattle.ps_codefile.specs.Dictionary.{Zero, Mixed, file_order}
use Rattle.ps_words.specs.FaultPlaces.{in_file}
use Rattle.ps_words.specs.declared.fault.Reason.{Reason}
use Rattle.ps_words.specs.declared.fault.Fault.{Fault}
use Rattle.ps_words.specs.declared.fault.Reason.TheVariants as reason
use Rattle.ps_reading.specs.Standing.Phrases.{Because}

-- The host file is shorter than 512 bytes, or the kinds of its slots fit no byte order, or all of
-- them are 0.
abbrev pub HostHas : List ℕ → Reason → Type 0
HostHas host reason.ShortFile = length host < 512
HostHas host reason.NoOrder = (512 ≤ length host) × (file_order host ≡ Mixed)
HostHas host reason.NoHost = (512 ≤ length host) × (file_order host ≡ Zero)
HostHas host other = ⊥

-- a fault of the host file, reported without a slot
abbrev pub InHost : List ℕ → Fault → Type 0
InHost host f = Because (in_file 0) (HostHas host) f
