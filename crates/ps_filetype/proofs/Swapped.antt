-- A file of which the bytes of some code that is to be linked are not exchanged in pairs is none whose
-- bytes are.
use Rattle.std.proofs.Common.{◌≡◌, ◌∙◌, ℕ, Bool, true, false, List, [], ◌∷◌, refl, sym, arith}
use Rattle.std.specs.Prelude.{◌||◌, not}
use Rattle.std.specs.List.{list_all, list_any}
use Rattle.ps_words.specs.declared.order.Order.{Order}
use Rattle.ps_codefile.specs.Dictionary.{code_of, entry_at, slots}
use Rattle.ps_filetype.specs.CodeTypes.{is_linkable, is_swapped_code, is_swapped_in, is_swapped_link, is_swapped_slot}

-- where not each item of a kind is as it ought to be, there is one of that kind
some_of_kind : {A : Type 0} (is ought : A → Bool) (xs : List A)
    → list_all (λ x. not (is x) || ought x) xs ≡ false → list_any is xs ≡ true
some_of_kind is ought [] e = cc
some_of_kind is ought (x ∷ xs) e = grind (arith, some_of_kind is ought xs)

pub none_swapped : (order : Order) (file : List ℕ) (all : Bool)
    → all ≡ list_all (is_swapped_slot order file) slots → all ≡ false
    → all ≡ (is_swapped_in order file || is_swapped_link order file)
unfolding is_swapped_in is_swapped_link
none_swapped order file all is none =
    let not_all = sym is ∙ none in
    let some = some_of_kind (is_linkable order file)
    (λ slot. is_swapped_code order (code_of file (entry_at order file slot))) slots not_all in
    none ∙ rw (not_all, some) refl
