-- How a file is read by itself: in the order that its kind words show, and where these are all 0 in
-- the order in which it has a code.
use Rattle.std.specs.Prelude.{ℕ, ◌&&◌, not, if◌then◌else◌, List, Bool, false, Result, Ok, Err}
use Rattle.std.specs.List.{list_any}
use Rattle.std.specs.Option.{option_map_or}
use Rattle.std.specs.Result.{is_ok, result_ok}
use Rattle.ps_words.specs.declared.order.Order.{Order}
use Rattle.ps_words.specs.declared.order.Order.TheVariants.{Little, Big}
use Rattle.ps_words.specs.declared.fault.Reason.{Reason}
use Rattle.ps_words.specs.declared.fault.Reason.TheVariants as reason
use Rattle.ps_codefile.specs.Dictionary.{OpenedFile, code_of, entry_at, is_filled, is_nameless, opened_alone, opened_beside, slots}

-- the entry of a slot has a name, and its code is whole in the file
abbrev pub is_whole : Order → List ℕ → ℕ → Bool
is_whole order file slot = is_filled (entry_at order file slot)
    && not (is_nameless (entry_at order file slot).name)
    && is_ok (code_of file (entry_at order file slot))

-- some entry has a name, and its code is whole in the file
unfoldable pub has_code : Order → List ℕ → Bool
has_code order file = list_any (is_whole order file) slots

-- a file that can be read in this order has a code
abbrev pub has_code_beside : Order → List ℕ → Bool
has_code_beside order file = option_map_or (λ f. has_code f.order f.file)
    (result_ok (opened_beside order file)) false

-- the order of a file whose kind words are all 0: that in which it has a code
abbrev pub order_by_codes : List ℕ → Order
order_by_codes file = if not (has_code_beside Little file) && has_code_beside Big file then Big
    else Little

-- a file that has no kind but 0 is read in the order of its codes
abbrev pub opened_after : List ℕ → Result OpenedFile Reason → Result OpenedFile Reason
opened_after file (Ok f) = Ok f
opened_after file (Err reason.NoHost) = opened_beside (order_by_codes file) file
opened_after file (Err why) = Err why

-- a code file read by itself, or why it cannot be read
unfoldable pub opened : List ℕ → Result OpenedFile Reason
opened file = opened_after file (opened_alone file)
