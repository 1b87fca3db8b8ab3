-- A segment's code after one of its edits, and in whole blocks after all of them.
use Rattle.std.specs.Prelude.{ℕ, ◌-◌, if◌then◌else◌, List, find, slice_index, length, nat_lt}
use Rattle.std.specs.Option.{option_map_or}
use Rattle.ps_words.specs.Edits.{covers, patched_byte, place_of, stored_bytes}
use Rattle.ps_words.specs.declared.order.Order.{Order}
use Rattle.ps_words.specs.declared.edit.Edit.{Edit}

-- the byte at p after one edit, where this byte was
abbrev pub patched_by : Order → Edit → ℕ → ℕ → ℕ
patched_by order edit p byte = if covers p edit
    then slice_index (stored_bytes order edit) (p - place_of edit) else byte

-- the byte at p after these edits, where this byte was
abbrev pub patched_from : Order → List Edit → ℕ → ℕ → ℕ
patched_from order edits p byte = option_map_or
    (λ edit. slice_index (stored_bytes order edit) (p - place_of edit))
    (find (covers p) edits) byte

-- the byte at p after the edits, and 0 past the code's end
abbrev pub patched_or_zero : Order → List ℕ → List Edit → ℕ → ℕ
patched_or_zero order code edits p = if nat_lt p (length code) then patched_byte order code edits p
    else 0
