use Rattle.std.proofs.Common.{◌≡◌, ◌||◌, Bool, true, false, if◌then◌else◌, refl, arith}
use Rattle.ps_codefile.proofs.Tables.{any_from}
use Rattle.ps_codefile.proofs.procedures.Procs.mark_reserved.Goals as goal

-- what is marked by the second test or the first is marked by one of them
if_or : {X : Type 0} (a b : Bool) (x y : X)
    → (if b then x else (if a then x else y)) ≡ (if a || b then x else y)
if_or true true x y = refl
if_or true false x y = refl
if_or false true x y = refl
if_or false false x y = refl

pub loop-p-preserved : goal.loop-p-preserved
loop-p-preserved g c = grind (arith, if_or, any_from)
