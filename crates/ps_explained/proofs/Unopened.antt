-- A code file that cannot be opened by itself has no kind but 0.
use Rattle.std.proofs.Common.{◌≡◌, Bool, Err, List, true, ℕ, refl}
use Rattle.std.specs.Prelude.{◌&&◌, not}
use Rattle.std.proofs.lemmas.Bool.{and_parts}
use Rattle.ps_words.specs.declared.fault.Reason.{Reason}
use Rattle.ps_words.specs.declared.fault.Reason.TheVariants.{NoHost}
use Rattle.ps_codefile.specs.Dictionary.{opened_alone}
use Rattle.ps_codefile.specs.Opened.{opened, opened_after}
use Rattle.ps_filetype.specs.CodeTypes.{is_code_type, is_for_something, is_later, is_one_byte, is_swapped_file}

third : (a b c d : Bool) → (a && b && c && d) ≡ true → c ≡ true
third a b c d h = (and_parts (a && b) c (and_parts (a && b && c) d h).0).1

for_something : (file : List ℕ) → is_code_type file ≡ true → is_for_something (opened file) ≡ true
unfolding is_code_type
for_something file code = third (not (is_one_byte file)) (not (is_later file))
    (is_for_something (opened file)) (not (is_swapped_file (opened file))) code

by_reason : (file : List ℕ) (why : Reason)
    → is_for_something (opened_after file (Err why)) ≡ true → why ≡ NoHost
by_reason file NoHost h = refl
by_reason file other h = cc

pub none_but_zero : (file : List ℕ) (why : Reason) → opened_alone file ≡ Err why
    → is_code_type file ≡ true → opened_alone file ≡ Err NoHost
unfolding opened
none_but_zero file why e code =
    rw (by_reason file why (rw e at (for_something file code))) at e
