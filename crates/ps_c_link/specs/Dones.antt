-- What a link that was done leaves in the caller's room.
use Rattle.std.specs.Prelude.{◌≡◌, ◌≤◌, ℕ, List, length}
use Rattle.ps_linkfile.specs.LinkedFile.{LinkedFile, summary_of}
use Rattle.ps_c_link.specs.Rooms.{RoomBeginsWith}
use Rattle.ps_c_link.specs.declared.linking.TheConstants.{LINKED_MAX}
use Rattle.ps_c_link.specs.declared.outcome.Done.{Done}
use Rattle.ps_c_link.specs.declared.outcome.Done.TheVariants.{Linked}

-- the room begins with the linked file, which has LINKED_MAX bytes at most
abbrev pub IsLinked : List ℕ → List (List ℕ) → List ℕ → List ℕ → Done → Type 0
IsLinked host libs old new done = (file : List ℕ)
    × (LinkedFile host libs file × (length file ≤ LINKED_MAX) × (RoomBeginsWith file old new
    × (done ≡ Linked (summary_of host libs) (length file))))
