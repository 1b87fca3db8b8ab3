-- Operands that references name, and the first fault of them.
-- Source: this project's profile; BIG operands are those of the UCSD Pascal II.0 manual.
use Rattle.std.specs.Prelude.{ℕ, ◌+◌, ◌&&◌, List, [], ◌∷◌, ◌++◌, length, map, Bool, nat_le, nat_lt, Option, None}
use Rattle.std.specs.List.{range_with_len, list_any}
use Rattle.std.specs.Option.{option_map, option_or}
use Rattle.ps_words.specs.Words.{displacement_at}
use Rattle.ps_reading.specs.Searches.{fault_if}
use Rattle.ps_words.specs.declared.edit.Edit.{Edit}
use Rattle.ps_words.specs.declared.edit.Edit.TheVariants.{Big, Byte}
use Rattle.ps_words.specs.declared.fault.Reason.{Reason}
use Rattle.ps_words.specs.declared.fault.Reason.TheVariants as reason
use Rattle.ps_resolve.specs.declared.references.Target.{Target}
use Rattle.ps_resolve.specs.declared.references.Target.TheVariants.{Slot, Base}
use Rattle.ps_words.specs.declared.words.TheConstants.{MAX_OPERAND}

-- how many bytes an operand has that becomes this
abbrev pub width_of : Target → ℕ
width_of (Slot slot) = 1
width_of (Base base) = 2

-- what an operand of two bytes becomes; there is nothing to check for a byte
abbrev pub value_of : List ℕ → Target → ℕ → ℕ
value_of code (Slot slot) x = 0
value_of code (Base base) x = displacement_at code x + base

-- the edit of the operand at x that becomes this
abbrev pub edit_of : List ℕ → Target → ℕ → Edit
edit_of code (Slot slot) x = Byte slot x
edit_of code (Base base) x = Big (value_of code (Base base) x) x

-- an operand: its place and its width
abbrev pub is_in : ℕ → ℕ × ℕ → Bool
is_in p operand = nat_le operand.0 p && nat_lt p (operand.0 + operand.1)

-- why there is no operand at x, where `taken` are the operands of the references before
abbrev pub reference_reason : (ℕ → Bool) → List ℕ → List (ℕ × ℕ) → Target → ℕ
    → Option Reason
reference_reason reserved code taken target x =
    let places = range_with_len x (width_of target) in
    option_or (fault_if (nat_lt (length code) (x + width_of target)) reason.OutsideCode)
    (option_or (fault_if (list_any reserved places) reason.ReservedPlace)
    (option_or (fault_if (list_any (λ p. list_any (is_in p) taken) places) reason.Overlap)
    (fault_if (nat_lt MAX_OPERAND (value_of code target x)) reason.OperandTooLarge)))

-- the operands of a record's references, each as its place and its width
abbrev pub operands : Target → List ℕ → List (ℕ × ℕ)
operands target refs = map (λ x. (x, width_of target)) refs

-- the first fault of the references, the first of which has number i
abbrev pub refs_fault : (ℕ → Bool) → List ℕ → Target → ℕ → List (ℕ × ℕ)
    → List ℕ → Option (ℕ × Reason)
refs_fault reserved code target i taken [] = None
refs_fault reserved code target i taken (x ∷ xs) =
    option_or (option_map (λ why. (i, why)) (reference_reason reserved code taken target x))
    (refs_fault reserved code target (i + 1) (taken ++ (x, width_of target) ∷ []) xs)
