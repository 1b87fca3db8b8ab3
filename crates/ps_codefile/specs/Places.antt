-- The places of an attribute table, and the words of a procedure dictionary.
use Rattle.std.specs.Prelude.{ℕ, ◌+◌, ◌<◌, ◌≤◌, ◌&&◌, List, length, Bool, nat_le, nat_lt, true, false, Option, ◌≡◌}
use Rattle.std.specs.List.{list_all}
use Rattle.std.specs.Option.{option_map_or}
use Rattle.ps_words.specs.declared.order.Order.{Order}
use Rattle.ps_codefile.specs.Procedures.{procedure_words, dictionary_len, dictionary_start, is_placed, numbers}

-- from `start` on, and before `end`
abbrev pub is_between : ℕ → ℕ → ℕ → Bool
is_between start end place = nat_le start place && nat_lt place end

-- the test of a table's place, where there is a table
abbrev pub passes : (ℕ → Bool) → Option ℕ → Bool
passes test table = option_map_or test table false

-- A table at this place is whole in the code before the procedure dictionary.
pub record IsWhole (code : List ℕ) (t : ℕ) : Type 0 where
  pub low : 8 ≤ t
  pub high : t + 1 < dictionary_start code

-- The procedure dictionary of a code is within the code, and each table lies in the code before it.
-- So no word's content is more than the word's place.
pub record HasTables (order : Order) (code : List ℕ) : Type 0 where
  pub fits : dictionary_len code ≤ length code
  pub placed : list_all (is_placed order code) (numbers code) ≡ true

-- the words of the procedures of a code whose tables are in place
pub record HasWords (order : Order) (code : List ℕ) (words : List ℕ) : Type 0 where
  pub tables : HasTables order code
  pub all : words ≡ procedure_words order code
