-- What follows of a link, by the steps that it takes.
use Rattle.std.proofs.Common.{◌≢◌, ◌⊎◌, [], Err, List, Ok, Option, Result, append-nil, arith, inl, inr, ℕ}
use Rattle.std.specs.Prelude.{OnErr, OnOk}
use Rattle.std.specs.Io.KnownBytes.{Appends}
use Rattle.ps_writing.proofs.Prefixes.{prefix_from}
use Rattle.ps_writing.specs.Prefixes.{AppendsPrefix}
use Rattle.ps_output_files.specs.declared.linking.Place.{Place}
use Rattle.ps_output_files.specs.declared.linking.Place.TheVariants as place

-- what was written whole or in part is a prefix
pub written : {T E : Type 0} (r : Result T E) (old new : Option (List ℕ)) (text : List ℕ)
    → OnOk r (Appends old new text) → OnErr r (AppendsPrefix old new text)
    → AppendsPrefix old new text
written (Ok x) old new text all prefix = prefix_from old new text [] text (append-nil text) all
written (Err e) old new text all prefix = prefix

-- standard error is as it was, or a summary is printed there
pub same_or_told : {Same : Type 0} (At : Place → Type 0) (where_to : Place) → At where_to
    → (where_to ≢ place.Error → Same) → Same ⊎ At place.Error
same_or_told At place.Nowhere at silent = inl (silent (grind arith))
same_or_told At place.Output at silent = inl (silent (grind arith))
same_or_told At place.Error at silent = inr at
