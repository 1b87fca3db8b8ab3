-- A shell reads the word for a path as the path.
use Rattle.std.proofs.Common.{◌≡◌, ◌∙◌, ◌++◌, ◌∷◌, ◌+◌, ◌/◌, ◌%◌, ◌==◌, [], ℕ, List, Bool, true, false, not, codes, cond, length, refl, ap, arith}
use Rattle.std.specs.Prelude.{if◌then◌else◌, Option, Some, None, chars, nat_lt}
use Rattle.std.specs.Char.{encode_utf8}
use Rattle.std.specs.List.{flat_map, list_all}
use Rattle.std.specs.Option.{option_map}
use Rattle.std.specs.Str.{IsUtf8}
use Rattle.std.proofs.Math.Utf8.{encode, encodes}
use Rattle.std.proofs.lemmas.Bool.{and_parts, eqb-true, false_from_ne_true, not-true}
use Rattle.std.proofs.lemmas.Bool.Decides.{nat_tests}
use Rattle.std.proofs.lemmas.List.{append_assoc, append-nil}
use Rattle.std.proofs.lemmas.Str.{encodes-chars}
use Rattle.ps_filetype.specs.ShellWords.{Bare, Quoted, is_taken_otherwise, here, is_plain_byte, is_plain_path, quoted_for_shell, quoted_path, shell_reads, shell_word, whole_word}

-- a byte that is no single quote
abbrev no_quote : ℕ → Bool
no_quote b = not (b == 39)

plain_is_not : (b n : ℕ) → is_plain_byte n ≡ false → is_plain_byte b ≡ true
    → (b == n) ≡ false
plain_is_not b n other plain = false_from_ne_true (b == n) (λ e.
    let is : is_plain_byte n ≡ true = rw (← eqb-true b n e) plain in cc)

-- 1. bytes that mean themselves
reads_plain : (path word rest : List ℕ) → shell_reads Bare word ≡ Some rest
    → list_all is_plain_byte path ≡ true → shell_reads Bare (path ++ word) ≡ Some (path ++ rest)
reads_plain [] word rest e h = e
reads_plain (b ∷ path) word rest e h =
    let both = and_parts (is_plain_byte b) (list_all is_plain_byte path) h in
    rw (
      plain_is_not b 39 refl both.0,
      plain_is_not b 92 refl both.0,
      both.0,
      reads_plain path word rest e both.1,
    ) refl

-- 2. bytes between quotes, before what is read
abbrev before : List ℕ → Option (List ℕ) → Option (List ℕ)
before bytes o = option_map (λ rest. bytes ++ rest) o

before_more : (b : ℕ) (bytes : List ℕ) (o : Option (List ℕ))
    → option_map (λ rest. b ∷ rest) (before bytes o) ≡ before (b ∷ bytes) o
before_more b bytes None = refl
before_more b bytes (Some rest) = refl

before_none : (o : Option (List ℕ)) → o ≡ before [] o
before_none None = refl
before_none (Some rest) = refl

reads_quoted : (bytes word : List ℕ) → list_all no_quote bytes ≡ true
    → shell_reads Quoted (bytes ++ word) ≡ before bytes (shell_reads Quoted word)
reads_quoted [] word h = before_none (shell_reads Quoted word)
reads_quoted (b ∷ bytes) word h =
    let both = and_parts (no_quote b) (list_all no_quote bytes) h in
    rw (not-true (b == 39) both.0, reads_quoted bytes word both.1) (before_more b bytes _)

-- a character that is no single quote has none in its bytes
no_quote_in : (c : ℕ) → (c == 39) ≡ false → list_all no_quote (encode c) ≡ true
unfolding encode
no_quote_in c other = by (nat_lt c 128) (nat_lt c 2048) (nat_lt c 65536)
  where
    by : (low two three : Bool) → list_all no_quote
        (cond low (c ∷ []) (cond two ((192 + c / 64) ∷ (128 + c % 64) ∷ [])
        (cond three ((224 + c / 4096) ∷ (128 + (c / 64) % 64) ∷ (128 + c % 64) ∷ [])
        ((240 + c / 262144) ∷ (128 + (c / 4096) % 64) ∷ (128 + (c / 64) % 64) ∷ (128 + c % 64)
        ∷ [])))) ≡ true
    by low two three = grind (arith, nat_tests)

-- a character between quotes is read as its bytes
encode_quote : encode 39 ≡ 39 ∷ []
unfolding encode
encode_quote = refl

reads_character : (c : ℕ) (word : List ℕ) (t : Bool) → (c == 39) ≡ t
    → shell_reads Quoted ((if t then codes "'\\''" else encode_utf8 c) ++ word)
    ≡ before (encode c) (shell_reads Quoted word)
reads_character c word true e =
    let is : c ≡ 39 = grind (arith, nat_tests) in
    rw (is, encode_quote) refl
reads_character c word false e = reads_quoted (encode c) word (no_quote_in c e)

reads_characters : (cs word rest : List ℕ) → shell_reads Bare word ≡ Some rest
    → shell_reads Quoted (flat_map quoted_for_shell cs ++ 39 ∷ word) ≡ Some (encodes cs ++ rest)
reads_characters [] word rest e = e
reads_characters (c ∷ cs) word rest e =
    rw (append_assoc, append_assoc)
    (reads_character c (flat_map quoted_for_shell cs ++ 39 ∷ word) (c == 39) refl
    ∙ ap (before (encode c)) (reads_characters cs word rest e))

-- 3. the word, before one that is read as this
module _ (word rest : List ℕ) (reads : shell_reads Bare word ≡ Some rest) where
  reads_path : (path : List ℕ) → IsUtf8 path
      → shell_reads Bare (quoted_path path ++ word) ≡ Some (path ++ rest)
  unfolding quoted_path
  reads_path path text = by (is_plain_path path) refl
    where
      by : (t : Bool) → is_plain_path path ≡ t → shell_reads Bare ((if t then path
          else 39 ∷ (flat_map quoted_for_shell (chars path) ++ 39 ∷ [])) ++ word)
          ≡ Some (path ++ rest)
      by true e = reads_plain path word rest reads (and_parts (not (length path == 0)) _ e).1
      by false e = rw append_assoc (reads_characters (chars path) word rest reads
          ∙ ap (λ bytes. Some (bytes ++ rest)) (encodes-chars path text))

  reads_before : (path : List ℕ) → IsUtf8 path
      → shell_reads Bare (shell_word path ++ word) ≡ Some (here path ++ (path ++ rest))
  unfolding shell_word
  reads_before path text = by (is_taken_otherwise path)
    where
      by : (t : Bool) → shell_reads Bare (((if t then codes "./" else []) ++ quoted_path path)
          ++ word) ≡ Some ((if t then codes "./" else []) ++ (path ++ rest))
      by true = ap (λ (o : Option (List ℕ)). option_map (λ rest. 46 ∷ rest)
          (option_map (λ rest. 47 ∷ rest) o)) (reads_path path text)
      by false = reads_path path text

pub reads_word : (path : List ℕ) → IsUtf8 path
    → shell_reads Bare (shell_word path) ≡ Some (here path ++ path)
reads_word path text = rw (append-nil (shell_word path), append-nil path)
    at (reads_before [] [] refl path text)

-- and with the end of the file that a command makes
pub reads_whole : (path : List ℕ) → IsUtf8 path
    → shell_reads Bare (whole_word path) ≡ Some (here path ++ (path ++ codes ".whole"))
reads_whole path text = reads_before (codes ".whole") (codes ".whole") refl path text
