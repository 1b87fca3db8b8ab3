-- What follows of a file that was not written whole.
use Rattle.std.proofs.Common.{List, Option, Some, inl, inr, subst, sym, take, ℕ}
use Rattle.ps_output_files.proofs.Logs.{grows_then, whole_part}
use Rattle.ps_output_files.specs.Log.{AddsPart, Grows, Log, TakesPart, took}
use Rattle.ps_output_files.specs.Unwritten.{FailsAt, FailsAtMap, FailsBeside, FailsToWrite}
use Rattle.ps_output_files.specs.World.{World}

-- OUT took all of its file, and that of the map was not written whole
pub fails_at_map : (P : List ℕ → Type 0) (before between after : World)
    (out map file text : List ℕ) → P text → Grows before.log between.log (took out file)
    → FailsBeside between after map out text → FailsAtMap before after out map file P
fails_at_map P before between after out map file text is wrote (inl none) = (
  text,
  is,
  inl (subst (λ (l : Log). Grows before.log l (took out file)) (sym none.1) wrote, none.0),
)
fails_at_map P before between after out map file text is wrote (inr part) = (
  text,
  is,
  inr (
    part.0,
    grows_then before.log between.log after.log (took out file) (took map (take part.0 text)) wrote
        part.1,
  ),
)

at_map_weaker : {P Q : List ℕ → Type 0} (before after : World) (out map file : List ℕ)
    → ((text : List ℕ) → P text → Q text) → FailsAtMap before after out map file P
    → FailsAtMap before after out map file Q
at_map_weaker before after out map file more fails = (fails.0, more fails.0 fails.1, fails.2)

-- a link that did not write all of a map that is one kind of text did not of one of a wider kind
pub fails_weaker : {P Q : List ℕ → Type 0} (before after : World) (out : List ℕ)
    (map : Option (List ℕ)) (file path : List ℕ) → ((text : List ℕ) → P text → Q text)
    → FailsToWrite before after out map file P path → FailsToWrite before after out map file Q path
fails_weaker before after out map file path more (inl fails) = inl fails
fails_weaker before after out map file path more (inr fails) =
    inr (fails.0, at_map_weaker before after out path file more fails.1)

-- what was written is a part of what is to be
takes_part : (before after : World) (path bytes : List ℕ) → FailsAt before after path bytes
    → TakesPart before.log after.log path bytes
takes_part before after path bytes (inl none) = inl none.1
takes_part before after path bytes (inr part) = inr part

map_part : (P : List ℕ → Type 0) (before after : World) (out path file : List ℕ)
    → FailsAtMap before after out path file P
    → AddsPart out (Some path) file P before.log after.log
map_part P before after out path file (text, is, inl none) =
    inl (whole_part before.log after.log out file none.0)
map_part P before after out path file (text, is, inr part) = inr (text, part.0, is, part.1)

pub fails_part : (P : List ℕ → Type 0) (before after : World) (out : List ℕ)
    (map : Option (List ℕ)) (file path : List ℕ)
    → FailsToWrite before after out map file P path
    → AddsPart out map file P before.log after.log
fails_part P before after out map file path (inl fails) =
    inl (takes_part before after out file fails.1)
fails_part P before after out map file path (inr fails) =
    rw fails.0 (map_part P before after out path file fails.1)
