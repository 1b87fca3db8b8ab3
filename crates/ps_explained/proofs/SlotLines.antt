-- The lines of a text to which a line is added.
use Rattle.std.proofs.Common.{◌≡◌, ◌++◌, ◌∷◌, ◌==◌, [], ℕ, List, true, false, cond, append-nil, refl, sym}
use Rattle.std.proofs.lemmas.Bool.{and_parts, not-true}
use Rattle.std.proofs.lemmas.List.{append_assoc}
use Rattle.ps_explained.specs.SlotLines.{AddsSlotLines, is_slot_line, lines_of, one_line, slot_lines}

-- a line ends at the first byte 10
pub line_ends : (line rest : List ℕ) → one_line line ≡ true
    → lines_of (line ++ 10 ∷ rest) ≡ line ∷ lines_of rest
line_ends [] rest one = refl
line_ends (b ∷ line) rest one = let p = and_parts _ _ one in
    rw (not-true (b == 10) p.0, line_ends line rest p.1) refl

slot_lines_after : (line rest : List ℕ) → one_line line ≡ true
    → slot_lines ((line ++ 10 ∷ []) ++ rest)
    ≡ cond (is_slot_line line) (line ∷ slot_lines rest) (slot_lines rest)
unfolding slot_lines
slot_lines_after line rest one = rw (append_assoc, line_ends line rest one) refl

-- a line that begins with `slot `, and one that does not
pub adds_line : (old line new : List ℕ) → one_line line ≡ true → is_slot_line line ≡ true
    → new ≡ old ++ (line ++ 10 ∷ []) → AddsSlotLines old (line ∷ []) new
adds_line old line new one begins is =
    (line ++ 10 ∷ [], is, λ rest. rw begins at (slot_lines_after line rest one))

pub adds_no_line : (old line new : List ℕ) → one_line line ≡ true
    → is_slot_line line ≡ false → new ≡ old ++ (line ++ 10 ∷ [])
    → AddsSlotLines old [] new
adds_no_line old line new one begins is =
    (line ++ 10 ∷ [], is, λ rest. rw begins at (slot_lines_after line rest one))

pub adds_none : (text : List ℕ) → AddsSlotLines text [] text
adds_none text = ([], sym (append-nil text), λ rest. refl)

pub adds_then : (a b c : List ℕ) (ls ms : List (List ℕ)) → AddsSlotLines a ls b
    → AddsSlotLines b ms c → AddsSlotLines a (ls ++ ms) c
adds_then a b c ls ms h k = (
  h.0 ++ k.0,
  rw (k.1, h.1) (append_assoc a h.0 k.0),
  λ rest. rw (append_assoc h.0 k.0 rest, h.2 (k.0 ++ rest), k.2 rest)
      (sym (append_assoc ls ms (slot_lines rest))),
)

pub adds_then_none : (a b c : List ℕ) (ls : List (List ℕ)) → AddsSlotLines a ls b
    → AddsSlotLines b [] c → AddsSlotLines a ls c
adds_then_none a b c ls h k = rw (append-nil ls) at (adds_then a b c ls [] h k)

-- a whole text
pub lines_in : (text : List ℕ) (ls : List (List ℕ)) → AddsSlotLines [] ls text
    → slot_lines text ≡ ls
unfolding slot_lines
lines_in text ls h = rw h.1 (simp append-nil at (h.2 []))
