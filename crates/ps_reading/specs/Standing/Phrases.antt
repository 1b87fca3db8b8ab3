-- The phrases in which faults are reported.
use Rattle.std.specs.Prelude.{◌≡◌, ℕ, ◌<◌, List, slice_get, Some}
use Rattle.ps_words.specs.declared.fault.Fault.{Fault}

-- f is the fault that h makes of a reason that applies
abbrev pub Because : {A : Type 0} → (A → Fault) → (A → Type 0) → Fault → Type 0
Because {A} h Has f = (why : A) × (f ≡ h why) × Has why

-- P holds of a smaller number
abbrev pub SomeBelow : ℕ → (ℕ → Type 0) → Type 0
SomeBelow n P = (m : ℕ) × (m < n) × P m

-- P holds of an item and its place
abbrev pub SomeItem : {A : Type 0} → List A → (ℕ → A → Type 0) → Type 0
SomeItem {A} items P = (i : ℕ) × (a : A) × (slice_get items i ≡ Some a) × P i a
