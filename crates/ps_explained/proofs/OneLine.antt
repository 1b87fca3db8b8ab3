-- Texts without a byte 10.
use Rattle.std.proofs.Common.{zero, suc, Bor, ◌≡◌, ◌++◌, ◌∷◌, ◌+◌, ◌/◌, ◌%◌, ◌==◌, ◌&&◌, ◌≤◌, ◌<◌, [], ℕ, List, Bool, true, false, not, cond, length, take, refl, arith}
use Rattle.std.specs.Prelude.{if◌then◌else◌, Option, Some, None, MatchOption, chars, nat_lt}
use Rattle.std.specs.Char.{encode_utf8}
use Rattle.std.specs.Fmt.{digit_glyph, digits, digits_onto}
use Rattle.std.specs.List.{after_first, before_first, flat_map, list_any, position_or_len}
use Rattle.std.specs.Str.{IsUtf8}
use Rattle.std.proofs.Math.Utf8.{encode, encodes}
use Rattle.std.proofs.lemmas.Bool.{and_from, and_parts, or_parts}
use Rattle.std.proofs.lemmas.Bool.Decides.{nat_tests}
use Rattle.std.proofs.lemmas.List.Folds.{list_all-append}
use Rattle.std.proofs.lemmas.Str.{encodes-chars}
use Rattle.ps_filetype.specs.Shown.{control_escape, hex_digit, is_printed, is_quoted, other_char, is_hidden, quoted_char, quotes, shown_byte, shown_name, shown_path, trimmed}
use Rattle.ps_explained.specs.SlotLines.{one_line}
use Rattle.ps_lists.proofs.Tests.{all_append, all_flat_map, none_before, none_passes}

pub and_left : (x y : Bool) → (x && y) ≡ true → x ≡ true
and_left x y h = (and_parts x y h).0

pub and_right : (x y : Bool) → (x && y) ≡ true → y ≡ true
and_right x y h = (and_parts x y h).1

pub and_both : (x y : Bool) → x ≡ true → y ≡ true → (x && y) ≡ true
and_both x y h k = and_from x y h k

pub one_append : (xs ys : List ℕ) → one_line xs ≡ true → one_line ys ≡ true
    → one_line (xs ++ ys) ≡ true
one_append xs ys h k = all_append _ xs ys h k

-- a byte above 10
pub above : (k x : ℕ) → 11 ≤ k → not ((k + x) == 10) ≡ true
above k x h = grind (arith, nat_tests)

-- numbers
pub glyph : (upper : Bool) (d : ℕ) → not (digit_glyph upper d == 10) ≡ true
glyph upper d = by (nat_lt d 10) upper
  where
    by : (t u : Bool) → not ((if t then 48 + d else (if u then 55 + d else 87 + d)) == 10)
        ≡ true
    by true u = above 48 d (omega arith)
    by false true = above 55 d (omega arith)
    by false false = above 87 d (omega arith)

-- the two digits of a slot or an entry
pub tens : (n : ℕ) → not ((48 + n / 10) == 10) ≡ true
tens n = above 48 (n / 10) (omega arith)

pub ones : (n : ℕ) → not ((48 + n % 10) == 10) ≡ true
ones n = above 48 (n % 10) (omega arith)

either : (t : Bool) (xs ys : List ℕ) → one_line xs ≡ true → one_line ys ≡ true
    → one_line (if t then xs else ys) ≡ true
either true xs ys h k = h
either false xs ys h k = k

onto : (base k n : ℕ) (acc : List ℕ) → one_line acc ≡ true
    → one_line (digits_onto k base false n acc) ≡ true
onto base zero n acc h = h
onto base (suc k) n acc h = let more = and_from _ _ (glyph false (n % base)) h in
    either (n / base == 0) _ _ more (onto base k (n / base) _ more)

pub one_digits : (base n : ℕ) → one_line (digits base false n) ≡ true
unfolding digits
one_digits base n = onto base 64 n [] refl

-- names
pub one_byte : (b : ℕ) → one_line (shown_byte b) ≡ true
one_byte b = by (is_printed b) (b == 10) refl refl
  where
    by : (t ten : Bool) → is_printed b ≡ t → (b == 10) ≡ ten → one_line (if t then b ∷ []
        else 92 ∷ 120 ∷ hex_digit (b / 16) ∷ hex_digit (b % 16) ∷ []) ≡ true
    by true false e other = rw other refl
    by true true e same = let ten : b ≡ 10 = grind (arith, nat_tests) in let no = rw ten at e in cc
    by false ten e other = rw (glyph false (b / 16), glyph false (b % 16)) refl

one_quotes : (b : Bool) → one_line (quotes b) ≡ true
one_quotes true = refl
one_quotes false = refl

pub one_name : (name : List ℕ) → one_line (shown_name name) ≡ true
unfolding shown_name
one_name name = let mark = one_quotes (is_quoted (trimmed name)) in
    let text = all_flat_map _ shown_byte one_byte (trimmed name) in
    simp (list_all-append, mark, text)

-- paths
one_encode : (c : ℕ) → (c == 10) ≡ false → one_line (encode c) ≡ true
unfolding encode
one_encode c other = by (nat_lt c 128) (nat_lt c 2048) (nat_lt c 65536)
  where
    by : (low two three : Bool) → one_line
        (cond low (c ∷ []) (cond two ((192 + c / 64) ∷ (128 + c % 64) ∷ [])
        (cond three ((224 + c / 4096) ∷ (128 + (c / 64) % 64) ∷ (128 + c % 64) ∷ [])
        ((240 + c / 262144) ∷ (128 + (c / 4096) % 64) ∷ (128 + (c / 64) % 64) ∷ (128 + c % 64)
        ∷ [])))) ≡ true
    by true two three = rw other refl
    by false two three = grind (arith, nat_tests)

not_ten : (c : ℕ) → is_hidden c ≡ false → (c == 10) ≡ false
not_ten c shown = by (c == 10) refl
  where
    by : (t : Bool) → (c == 10) ≡ t → t ≡ false
    by false e = refl
    by true e = let ten : c ≡ 10 = grind (arith, nat_tests) in let no = rw ten at shown in cc

one_escape : (c : ℕ) → one_line (control_escape c) ≡ true
one_escape c = one_append (digits 16 false c) (125 ∷ []) (one_digits 16 c) refl

one_other : (c : ℕ) → one_line (other_char c) ≡ true
one_other c = by (is_hidden c) refl
  where
    by : (t : Bool) → is_hidden c ≡ t
        → one_line (if t then control_escape c else encode_utf8 c) ≡ true
    by true e = one_escape c
    by false e = one_encode c (not_ten c e)

one_letter : (x : List ℕ) → one_line x ≡ true → (a b c d e f : Bool)
    → one_line (elim (if a then Some 48
    else (if b then Some 116 else (if c then Some 110
    else (if d then Some 114 else (if e then Some 34 else (if f then Some 92 else None)))))) [
      | Some letter ↦ 92 ∷ letter ∷ []
      | None ↦ x
    ]) ≡ true
one_letter x h true b c d e f = refl
one_letter x h false true c d e f = refl
one_letter x h false false true d e f = refl
one_letter x h false false false true e f = refl
one_letter x h false false false false true f = refl
one_letter x h false false false false false true = refl
one_letter x h false false false false false false = h

one_quoted : (c : ℕ) → one_line (quoted_char c) ≡ true
unfolding quoted_char
one_quoted c = one_letter (other_char c) (one_other c) (c == 0) (c == 9) (c == 10) (c == 13)
    (c == 34) (c == 92)

one_chars : (cs : List ℕ) → list_any is_hidden cs ≡ false → one_line (encodes cs) ≡ true
one_chars [] h = refl
one_chars (c ∷ cs) h = let p = or_parts _ _ h in
    one_append (encode c) (encodes cs) (one_encode c (not_ten c p.0)) (one_chars cs p.1)

pub one_path : (path : List ℕ) → IsUtf8 path → one_line (shown_path path) ≡ true
unfolding shown_path
one_path path text = by (list_any is_hidden (chars path)) refl
  where
    by : (t : Bool) → list_any is_hidden (chars path) ≡ t
        → one_line (if t then 34 ∷ (flat_map quoted_char (chars path) ++ 34 ∷ []) else path)
        ≡ true
    by true e = one_append (flat_map quoted_char (chars path)) (34 ∷ [])
        (all_flat_map _ quoted_char one_quoted (chars path)) refl
    by false e = rw (encodes-chars path text) at (one_chars (chars path) e)

-- up to the first byte 10, or where there is none
pub one_before : (bs : List ℕ) → one_line (take (position_or_len (λ b. b == 10) bs) bs)
    ≡ true
one_before bs = none_before (λ b. b == 10) bs

-- what splitting a text at the first byte 10 gives
abbrev pub Splits : List ℕ → Option (Bor (List ℕ) × Bor (List ℕ)) → Type 0
Splits bs r =
    MatchOption r (position_or_len (λ b. b == 10) bs ≡ length bs)
    (λ x. (position_or_len (λ b. b == 10) bs < length bs)
    × (x.0.now ≡ before_first (λ b. b == 10) bs)
    × (x.1.now ≡ after_first (λ b. b == 10) bs))

pub split_line : (bs : List ℕ) (r : Option (Bor (List ℕ) × Bor (List ℕ)))
    (x : Bor (List ℕ) × Bor (List ℕ)) → Splits bs r → r ≡ Some x
    → one_line x.0.now ≡ true
split_line bs None x m e = cc
split_line bs (Some y) x m e = let same : y ≡ x = cc in rw (← same, m.1) (one_before bs)

pub unsplit_line : (bs : List ℕ) (r : Option (Bor (List ℕ) × Bor (List ℕ))) → Splits bs r
    → ((x : Bor (List ℕ) × Bor (List ℕ)) → r ≡ Some x → ⊥) → one_line bs ≡ true
unsplit_line bs None m never = none_passes (λ b. b == 10) bs m
unsplit_line bs (Some y) m never = absurd (never y refl)
