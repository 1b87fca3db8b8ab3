-- Text that is added to a writer, a piece at a time.
use Rattle.std.specs.Prelude.{◌≡◌, ℕ, List, ◌++◌, Option, Some, None, ⊤}
use Rattle.std.specs.Io.KnownBytes.{Appends}
use Rattle.ps_writing.specs.Prefixes.{AppendsPrefix}
use Rattle.ps_writing.specs.declared.write_fault.WriteFault.{WriteFault}

-- The text was added between old and new. `added` says of a writer as it was at first, of a text
-- and of a writer that it is that writer once the text was added.
pub record Adds {S : Type 0} (added : S → List ℕ → S → Type 0) (old : S) (text : List ℕ)
    (new : S) : Type 0 where
  pub after : (first : S) (before : List ℕ) → added first before old
      → added first (before ++ text) new

-- What a known writer had at first and has now, of a text that was added in front of it: all that
-- was not gathered, or a prefix of it from when a write failed.
abbrev pub IsSent : Option (List ℕ) → List ℕ → Option (List ℕ) → List ℕ
    → Option WriteFault → Type 0
IsSent first text now gathered None = (sent : List ℕ) × Appends first now sent
    × (sent ++ gathered ≡ text)
IsSent first text now gathered (Some fault) = AppendsPrefix first now text

-- The text was added to what was kept at first, unless memory was refused.
abbrev pub IsKept : {E : Type 0} → List ℕ → List ℕ → List ℕ → Option E → Type 0
IsKept first text now None = now ≡ first ++ text
IsKept first text now (Some error) = ⊤
