-- Paths in a command that is typed, and what a shell reads.
-- Source: POSIX.1-2017, Shell Command Language, 2.2 Quoting; which paths are quoted is this project's
-- profile.
use Rattle.std.specs.Prelude.{ℕ, ◌==◌, ◌&&◌, ◌||◌, not, if◌then◌else◌, Bool, List, [], ◌∷◌, ◌++◌, Option, Some, None, codes, length, nat_le, chars}
use Rattle.std.specs.Char.{encode_utf8}
use Rattle.std.specs.List.{flat_map, list_all, starts_with}
use Rattle.std.specs.Option.{option_map}

-- a byte that means itself to a shell, wherever it stands in a word that is no first one: a letter,
-- a digit, or one of `%+,-./:=@_`
abbrev pub is_plain_byte : ℕ → Bool
is_plain_byte b = (nat_le 97 b && nat_le b 122) || (nat_le 64 b && nat_le b 90)
    || (nat_le 43 b && nat_le b 58) || b == 37 || b == 61 || b == 95

-- a path that needs no quotes
abbrev pub is_plain_path : List ℕ → Bool
is_plain_path path = not (length path == 0) && list_all is_plain_byte path

-- a character between single quotes; a single quote ends them, has a backslash, and begins them again
abbrev pub quoted_for_shell : ℕ → List ℕ
quoted_for_shell c = if c == 39 then codes "'\\''" else encode_utf8 c

-- a path as it is, or between single quotes
unfoldable pub quoted_path : List ℕ → List ℕ
quoted_path path = if is_plain_path path then path
    else 39 ∷ (flat_map quoted_for_shell (chars path) ++ 39 ∷ [])

-- a path that begins with a hyphen would be read as an option, and zsh takes one that begins with `=` for
-- the name of a command
abbrev pub is_taken_otherwise : List ℕ → Bool
is_taken_otherwise path = starts_with (λ a b. a == b) path (codes "-")
    || starts_with (λ a b. a == b) path (codes "=")

-- what is put before a path, which names the same file with it
abbrev pub here : List ℕ → List ℕ
here path = if is_taken_otherwise path then codes "./" else []

-- the word of a command for a path
unfoldable pub shell_word : List ℕ → List ℕ
shell_word path = here path ++ quoted_path path

-- where a shell is in a word: outside of quotes, between single quotes, or behind a backslash
pub data Place : Type 0 where
  Bare : Place
  Quoted : Place
  Escaped : Place

-- what a shell reads from a word, from such a place on: between single quotes each byte is itself, and
-- so is one behind a backslash, but for the end of a line; elsewhere each that means itself; nothing
-- where the word has another byte, or ends between quotes or behind a backslash
abbrev pub shell_reads : Place → List ℕ → Option (List ℕ)
shell_reads Bare [] = Some []
shell_reads Quoted [] = None
shell_reads Escaped [] = None
shell_reads Quoted (b ∷ word) = if b == 39 then shell_reads Bare word
    else option_map (λ rest. b ∷ rest) (shell_reads Quoted word)
shell_reads Escaped (b ∷ word) = if b == 10 then None
    else option_map (λ rest. b ∷ rest) (shell_reads Bare word)
shell_reads Bare (b ∷ word) = if b == 39 then shell_reads Quoted word
    else (if b == 92 then shell_reads Escaped word
    else (if is_plain_byte b then option_map (λ rest. b ∷ rest) (shell_reads Bare word)
    else None))

-- the word for the file that a command makes of the one at a path
abbrev pub whole_word : List ℕ → List ℕ
whole_word path = shell_word path ++ codes ".whole"

-- `Unpack it: (set -C; gzip -dc < HOST.CODE > HOST.CODE.whole). Then give HOST.CODE.whole.`
unfoldable pub command_words : List ℕ → List ℕ → List ℕ → List ℕ → List ℕ → List ℕ
command_words before path between after end = before ++ (shell_word path ++ (between
    ++ (whole_word path ++ (after ++ (whole_word path ++ end)))))
