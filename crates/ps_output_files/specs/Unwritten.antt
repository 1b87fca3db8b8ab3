-- Why a file that a link is to write was not written whole, by what is known of the files before the
-- link and after it. That a write or a closing failed is no clause of the kit.
use Rattle.std.specs.Prelude.{◌≡◌, ◌⊎◌, ◌++◌, ℕ, List, Option, Some, true, take}
use Rattle.ps_output_files.specs.Log.{Grows, took}
use Rattle.ps_output_files.specs.World.{World}

-- no file could be created at the path, and none was; or one was created there, took a prefix of these
-- bytes, and was closed: a write of the others failed, or the closing
abbrev pub FailsAt : World → World → List ℕ → List ℕ → Type 0
FailsAt before after path bytes = (after.uncreated path × (after.log ≡ before.log))
    ⊎ ((n : ℕ) × Grows before.log after.log (took path (take n bytes)))

-- so of the file of a map; or its path was found to lead to OUT, and no file was created
abbrev pub FailsBeside : World → World → List ℕ → List ℕ → List ℕ → Type 0
FailsBeside before after path out bytes =
    ((after.uncreated path ⊎ after.one_file path out true) × (after.log ≡ before.log))
    ⊎ ((n : ℕ) × Grows before.log after.log (took path (take n bytes)))

-- so of the file of a map, whose text this holds of, once OUT took this file
abbrev pub FailsAtMap : World → World → List ℕ → List ℕ → List ℕ → (List ℕ → Type 0) → Type 0
FailsAtMap before after out map file IsMap = (text : List ℕ) × IsMap text × (
    (Grows before.log after.log (took out file)
    × (after.uncreated map ⊎ after.one_file map out true))
    ⊎ ((n : ℕ) × Grows before.log after.log (took out file ++ took map (take n text))))

-- the file at this path was not written whole: OUT, or that of the map once OUT took this file
abbrev pub FailsToWrite : World → World → List ℕ → Option (List ℕ) → List ℕ → (List ℕ → Type 0)
    → List ℕ → Type 0
FailsToWrite before after out map file IsMap path =
    ((path ≡ out) × FailsAt before after out file)
    ⊎ ((map ≡ Some path) × FailsAtMap before after out path file IsMap)
