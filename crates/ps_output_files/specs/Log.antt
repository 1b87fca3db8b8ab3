-- The log of the files that are created: at which paths, in which order, and what each of them takes.
-- This project's own.
use Rattle.std.specs.Prelude.{◌≡◌, ◌⊎◌, ◌++◌, ◌∷◌, [], ℕ, List, Option, None, Some, ⊤, take}

-- the file at a path was created or emptied; or one that was created there was closed, and had taken
-- these bytes
pub data Event : Type 0 where
  Created : (path : List ℕ) → Event
  Closed : (path bytes : List ℕ) → Event

-- what is known of a log
abbrev pub Log : Type 0
Log = Option (List Event)

-- a log that is known grows by these events
abbrev pub Grows : Log → Log → List Event → Type 0
Grows None new events = ⊤
Grows (Some before) new events = new ≡ Some (before ++ events)

-- a file was created at the path, as a log has it that is known; what the file takes is known then
-- too, and is nothing yet
abbrev pub IsCreated : Log → Log → List ℕ → Option (List ℕ) → Type 0
IsCreated None new path contents = ⊤
IsCreated (Some before) new path contents =
    (new ≡ Some (before ++ Created path ∷ [])) × (contents ≡ Some [])

-- a file that was created at the path was closed, as a log has it that is known, with what it had taken
abbrev pub IsClosed : Log → Log → List ℕ → Option (List ℕ) → Type 0
IsClosed None new path contents = ⊤
IsClosed (Some before) new path contents = (bytes : List ℕ) × (contents ≡ Some bytes)
    × (new ≡ Some (before ++ Closed path bytes ∷ []))

-- a file was created at the path, and was closed once it had taken these bytes and no others
abbrev pub took : List ℕ → List ℕ → List Event
took path bytes = Created path ∷ Closed path bytes ∷ []

-- nothing was created; or a file was created at the path, took a prefix of these bytes, and was closed
abbrev pub TakesPart : Log → Log → List ℕ → List ℕ → Type 0
TakesPart old new path bytes = (new ≡ old) ⊎ ((n : ℕ) × Grows old new (took path (take n bytes)))

-- the file of a map, if there is one, took this text, and nothing else was created
abbrev pub TakesMap : Log → Log → Option (List ℕ) → List ℕ → Type 0
TakesMap old new None text = new ≡ old
TakesMap old new (Some map) text = Grows old new (took map text)

-- OUT took this file, and then the file of the map, if there is one, a text of which this holds
abbrev pub AddsAll : List ℕ → Option (List ℕ) → List ℕ → (List ℕ → Type 0) → Log → Log → Type 0
AddsAll out None file IsMap old new = Grows old new (took out file)
AddsAll out (Some map) file IsMap old new =
    (text : List ℕ) × IsMap text × Grows old new (took out file ++ took map text)

-- OUT took this file, and the file of the map a prefix of a text of which this holds
abbrev pub AddsPartOfMap : List ℕ → Option (List ℕ) → List ℕ → (List ℕ → Type 0) → Log → Log
    → Type 0
AddsPartOfMap out None file IsMap old new = ⊥
AddsPartOfMap out (Some map) file IsMap old new = (text : List ℕ) × (n : ℕ) × IsMap text
    × Grows old new (took out file ++ took map (take n text))

-- nothing was created; or OUT took a prefix of this file, and no other was created; or OUT took all of
-- it, and the file of the map a prefix of its text
abbrev pub AddsPart : List ℕ → Option (List ℕ) → List ℕ → (List ℕ → Type 0) → Log → Log → Type 0
AddsPart out map file IsMap old new = TakesPart old new out file
    ⊎ AddsPartOfMap out map file IsMap old new
