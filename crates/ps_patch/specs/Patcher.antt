-- What a patcher works on and how far it is, and what it knows of the edits that it is done with.
use Rattle.std.specs.Prelude.{◌≡◌, ℕ, ◌+◌, ◌<◌, ◌≤◌, List, [], ◌∷◌, drop, find, length, ⊤}
use Rattle.ps_words.specs.Edits.{AreEdits, covers, place_of, width}
use Rattle.ps_words.specs.declared.order.Order.{Order}
use Rattle.ps_words.specs.declared.edit.Edit.{Edit}

-- a code that is being patched by its edits; the bytes before the position were given
pub record Patching : Type 0 where
  pub order : Order
  pub code : List ℕ
  pub edits : List Edit
  pub position : ℕ

-- the first edit ends after the place
abbrev pub EndsBehind : ℕ → List Edit → Type 0
EndsBehind place [] = ⊤
EndsBehind place (edit ∷ edits) = place < place_of edit + width edit

-- the edits before `next` cover nothing from the position on, and the one at `next` is not yet over
pub record IsUnderWay (patching : Patching) (next : ℕ) : Type 0 where
  pub are_edits : AreEdits (length patching.code) patching.edits
  pub position_within : patching.position ≤ length patching.code
  pub next_within : next ≤ length patching.edits
  pub before : (p : ℕ) → patching.position ≤ p
      → find (covers p) patching.edits ≡ find (covers p) (drop next patching.edits)
  pub over : EndsBehind patching.position (drop next patching.edits)
