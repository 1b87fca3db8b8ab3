-- A name without the blanks at its end, byte by byte.
use Rattle.std.proofs.Common.{◌≡◌, ◌≢◌, ◌∙◌, ◌++◌, ◌∷◌, ◌+◌, ◌==◌, ◌&&◌, ◌<◌, [], ℕ, List, Bool, true, false, length, take, get_or, refl, sym, ap, arith}
use Rattle.std.specs.Prelude.{if◌then◌else◌}
use Rattle.std.proofs.lemmas.Bool.Decides.{nat_tests}
use Rattle.std.proofs.lemmas.List.{take_more}
use Rattle.ps_filetype.specs.Shown.{trimmed}

-- a blank after a text is left out
pub with_blank : (text : List ℕ) → trimmed (text ++ 32 ∷ []) ≡ trimmed text
with_blank [] = refl
with_blank (b ∷ text) = ap (λ (left : List ℕ). if b == 32 && length left == 0 then []
    else b ∷ left) (with_blank text)

not_empty : (text : List ℕ) (byte : ℕ) → (length (text ++ byte ∷ []) == 0) ≡ false
not_empty [] byte = refl
not_empty (t ∷ ts) byte = grind (arith, nat_tests)

-- any other byte after a text is kept, and what stands before it
pub with_byte : (text : List ℕ) (byte : ℕ) → (byte == 32) ≡ false
    → trimmed (text ++ byte ∷ []) ≡ text ++ byte ∷ []
with_byte [] byte other = ap (λ (blank : Bool). if blank && true then [] else byte ∷ []) other
with_byte (b ∷ text) byte other = let more = not_empty text byte in
    rw (with_byte text byte other) (grind arith)

-- so with the bytes of a name up to a place
pub same_blank : (name : List ℕ) (i d : ℕ) → i < length name → get_or name i d ≡ 32
    → trimmed (take (i + 1) name) ≡ trimmed (take i name)
same_blank name i d within blank = ap trimmed
    (take_more name i d within ∙ ap (λ (b : ℕ). take i name ++ b ∷ []) blank)
    ∙ with_blank (take i name)

pub all_of : (name : List ℕ) (i d : ℕ) → i < length name → get_or name i d ≢ 32
    → trimmed (take (i + 1) name) ≡ take (i + 1) name
all_of name i d within other =
    ap trimmed (take_more name i d within)
    ∙ (with_byte (take i name) (get_or name i d) (grind (arith, nat_tests))
    ∙ sym (take_more name i d within))
