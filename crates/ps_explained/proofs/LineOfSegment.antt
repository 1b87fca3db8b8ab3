-- The line of a segment is one line, and begins with `slot `.
use Rattle.std.proofs.Common.{◌≡◌, ◌++◌, ◌∷◌, [], ℕ, Bool, List, false, true, refl}
use Rattle.std.specs.Prelude.{Option, Some, None}
use Rattle.std.specs.Str.{IsUtf8}
use Rattle.std.proofs.lemmas.List.Folds.{list_all-append}
use Rattle.ps_filetype.specs.Shown.{slot_digits}
use Rattle.ps_explained.specs.SlotLines.{AddsSlotLines, one_line}
use Rattle.ps_check_segments.specs.SegmentParts.{part_words}
use Rattle.ps_explained.specs.SegmentLines.{from_words, head_words, line_in_slot, slot_words, why_words}
use Rattle.ps_reading.specs.declared.slot_reading.Absent.{Absent}
use Rattle.ps_reading.specs.declared.slot_reading.Absent.TheVariants as absent
use Rattle.ps_check_segments.specs.declared.segments.SegmentPart.{SegmentPart}
use Rattle.ps_check_segments.specs.declared.segments.SegmentPart.TheVariants as part
use Rattle.ps_explained.proofs.OneLine.{one_append, one_digits, one_name, one_path, ones, tens}
use Rattle.ps_explained.proofs.SlotLines.{adds_line, adds_no_line}

pub one_two : (n : ℕ) → one_line (slot_digits n) ≡ true
one_two n = rw (tens n, ones n) refl

one_part : (what : SegmentPart) → one_line (part_words what) ≡ true
one_part (part.Added requester rec) = simp (list_all-append, one_digits 10 rec, one_name requester)
one_part other = refl

one_slot : (slot : Option ℕ) → one_line (slot_words slot) ≡ true
one_slot None = refl
one_slot (Some n) = one_two n

one_head : (slot : Option ℕ) (name : List ℕ) (what : SegmentPart)
    → one_line (head_words slot name what) ≡ true
one_head slot name what =
    simp (list_all-append, one_slot slot, one_name name, one_part what)

one_from : (path : List ℕ) (index size : ℕ) → IsUtf8 path
    → one_line (from_words path index size) ≡ true
one_from path index size text =
    simp (list_all-append, one_path path text, tens index, ones index, one_digits 10 size)

one_why : (unread : Bool) (why : Absent) → one_line (why_words unread why) ≡ true
one_why false (absent.Refused f) = refl
one_why false other = refl
one_why true (absent.Refused f) = refl
one_why true other = refl

-- a line that begins with a slot is one of those lines, and one that begins with `no slot` is none
adds_in_slot : (slot : Option ℕ) (name : List ℕ) (what : SegmentPart)
    (more old new : List ℕ) → one_line more ≡ true
    → new ≡ old ++ ((head_words slot name what ++ more) ++ 10 ∷ [])
    → AddsSlotLines old (line_in_slot slot (head_words slot name what ++ more)) new
adds_in_slot None name what more old new one is =
    adds_no_line old (head_words None name what ++ more) new
    (one_append (head_words None name what) more (one_head None name what) one) refl is
adds_in_slot (Some n) name what more old new one is =
    adds_line old (head_words (Some n) name what ++ more) new
    (one_append (head_words (Some n) name what) more (one_head (Some n) name what) one) refl is

pub adds_segment : (slot : Option ℕ) (name : List ℕ) (what : SegmentPart) (path : List ℕ)
    (index size : ℕ) (old new : List ℕ) → IsUtf8 path
    → new ≡ old ++ ((head_words slot name what ++ from_words path index size) ++ 10 ∷ [])
    → AddsSlotLines old (line_in_slot slot (head_words slot name what
    ++ from_words path index size)) new
adds_segment slot name what path index size old new text is =
    adds_in_slot slot name what (from_words path index size) old new
    (one_from path index size text) is

pub adds_absent : (slot : Option ℕ) (name : List ℕ) (what : SegmentPart) (unread : Bool)
    (why : Absent) (old new : List ℕ)
    → new ≡ old ++ ((head_words slot name what ++ why_words unread why) ++ 10 ∷ [])
    → AddsSlotLines old (line_in_slot slot (head_words slot name what ++ why_words unread why)) new
adds_absent slot name what unread why old new is =
    adds_in_slot slot name what (why_words unread why) old new (one_why unread why) is
