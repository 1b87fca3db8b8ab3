-- What is put of files, as text, and why it is not.
use Rattle.std.specs.Prelude.{◌≡◌, ℕ, ◌+◌, ◌≤◌, ◌⊎◌, ⊤, All, Bool, true, false, IsUtf8, List, [], ◌∷◌, Option, Some, None, length, sum}
use Rattle.ps_linkfile.specs.declared.unmade.Unmade.TheVariants.{Refused, Memory}
use Rattle.ps_writing.specs.declared.rows.Form.{Form}
use Rattle.ps_texts.specs.Kinds.{needs_names}
use Rattle.ps_texts.specs.Texts.{IsTextOf}
use Rattle.ps_texts.specs.Unmade.{CanLackMemory, IsRefusedFor}
use Rattle.ps_texts.specs.declared.kinds.ReportText.{ReportText}
use Rattle.ps_texts.specs.declared.kinds.TextKind.{TextKind}
use Rattle.ps_texts.specs.declared.kinds.TextKind.TheVariants as kind
use Rattle.ps_c_link.specs.Libraries.{split}
use Rattle.ps_c_link.specs.Rooms.{RoomBeginsWith}
use Rattle.ps_c_link.specs.WhyUnmade.{IsAbove, WhyWrong}
use Rattle.ps_c_link.specs.declared.libraries.TheConstants.{LIBRARIES_IN_PLACE}
use Rattle.ps_c_link.specs.declared.outcome.Done.{Done}
use Rattle.ps_c_link.specs.declared.outcome.Done.TheVariants as done
use Rattle.ps_c_link.specs.declared.outcome.NotDone.{NotDone}
use Rattle.ps_c_link.specs.declared.outcome.NotDone.TheVariants as not_done
use Rattle.ps_c_link.specs.declared.outcome.TooSmall.{TooSmall}
use Rattle.ps_c_link.specs.declared.outcome.Unput.{Unput}
use Rattle.ps_c_link.specs.declared.outcome.Unput.TheVariants as unput
use Rattle.ps_c_texts.specs.Checks.{IsToldReport}
use Rattle.ps_c_texts.specs.Kinds.{report_text}

-- the text is of the host's file alone, and no library is looked at
abbrev pub is_of_host : TextKind → Bool
is_of_host (kind.OfLink what form) = false
is_of_host (kind.OfHost what) = true
is_of_host kind.Wanted = false
is_of_host (kind.Named what) = false

-- so many libraries are listed without a request for memory: there is a place for each on the
-- stack, or none is looked at
abbrev pub HavePlaces : TextKind → ℕ → Type 0
HavePlaces k count = (is_of_host k ≡ true) ⊎ (count ≤ LIBRARIES_IN_PLACE)

-- what the files are called in a text that has no names of them
abbrev pub no_paths : List (List ℕ)
no_paths = [] ∷ []

-- this is a text of a host and these libraries, of which a report and a list have the names
abbrev pub IsMade : TextKind → List (List ℕ) → List ℕ → List (List ℕ) → List ℕ
    → Type 0
IsMade k names host libs text = (status : ℕ) × IsTextOf k false names host libs status text

-- what is told of a text that was put: its length, and of one that is made of a report what that says
abbrev pub IsTold : Option (ReportText × Form) → List (List ℕ) → List ℕ → List (List ℕ)
    → List ℕ → Done → Type 0
IsTold None names host libs text d = d ≡ done.Text (length text)
IsTold (Some (what, form)) names host libs text d = IsToldReport what form names host libs text d

-- memory may be refused while the text is made, and once it is made, for its bytes
abbrev pub MayLackMemory : TextKind → List (List ℕ) → List ℕ → List (List ℕ) → Type 0
MayLackMemory k names host libs =
    CanLackMemory k host libs ⊎ ((text : List ℕ) × IsMade k names host libs text)

-- why these bytes are not put in this room
abbrev pub WhyBytesUnput : List ℕ → List ℕ → Unput → Type 0
WhyBytesUnput bytes room (unput.Unmade (Refused r)) = ⊥
WhyBytesUnput bytes room (unput.Unmade Memory) = ⊤
WhyBytesUnput bytes room (unput.TooSmall t) = IsAbove bytes room t

-- the room begins with the text, and what is told of it is right
unfoldable pub IsPut : TextKind → List (List ℕ) → List ℕ → List (List ℕ) → List ℕ
    → List ℕ → Done → Type 0
IsPut k names host libs old new d = (text : List ℕ) × IsMade k names host libs text
    × RoomBeginsWith text old new × IsTold (report_text k) names host libs text d

-- the text has so many bytes, and there is less room
abbrev pub IsLong : TextKind → List ℕ → List (List ℕ) → List ℕ → List (List ℕ)
    → TooSmall → Type 0
IsLong k room names host libs t = (text : List ℕ) × IsMade k names host libs text
    × IsAbove text room t

-- why a text is not put in this room: the files are refused, memory is, or the text is long
abbrev pub WhyUnputBy : Unput → TextKind → List ℕ → List (List ℕ) → List ℕ
    → List (List ℕ) → Type 0
WhyUnputBy (unput.Unmade (Refused r)) k room names host libs = IsRefusedFor k host libs r
WhyUnputBy (unput.Unmade Memory) k room names host libs = MayLackMemory k names host libs
WhyUnputBy (unput.TooSmall t) k room names host libs = IsLong k room names host libs t

unfoldable pub WhyUnput : TextKind → List ℕ → List (List ℕ) → List ℕ → List (List ℕ)
    → Unput → Type 0
WhyUnput k room names host libs why = WhyUnputBy why k room names host libs

-- the lengths of the names are right, where it has names of files: one for the host and one for
-- each of so many libraries
abbrev pub HasNameLengths : Bool → ℕ → List ℕ → List ℕ → Type 0
HasNameLengths true count names name_lengths =
    (length name_lengths ≡ 1 + count) × (sum name_lengths ≡ length names)
HasNameLengths false count names name_lengths = ⊤

-- where a text needs names, they are UTF-8
abbrev pub HasNames : Bool → List ℕ → List ℕ → Type 0
HasNames true names name_lengths = All IsUtf8 (split names name_lengths)
HasNames false names name_lengths = ⊤

-- the lengths of a call for it are right: those of the libraries, and those of the names
abbrev pub HasRightLengths : Bool → List ℕ → List ℕ → List ℕ → List ℕ → Type 0
HasRightLengths named libs lengths names name_lengths = (sum lengths ≡ length libs)
    × HasNameLengths named (length lengths) names name_lengths

-- a call for it is right
abbrev pub HasInputs : Bool → List ℕ → List ℕ → List ℕ → List ℕ → Type 0
HasInputs named libs lengths names name_lengths =
    HasRightLengths named libs lengths names name_lengths × HasNames named names name_lengths

-- Why a call for it leaves the room as it was: by what is asked for, the inputs are wrong, or the
-- text is not put. Memory is requested only where the call is right, and before the files are read
-- only for libraries that are looked at and have no place on the stack, or for names.
abbrev pub WhyUnprintedBy : Bool → TextKind → List ℕ → List ℕ → List ℕ → List ℕ → List ℕ
    → List ℕ → NotDone → Type 0
WhyUnprintedBy named k room host libs lengths names name_lengths (not_done.Wrong why) =
    WhyWrong (HasRightLengths named libs lengths names name_lengths)
    (HasNames named names name_lengths) why
WhyUnprintedBy named k room host libs lengths names name_lengths
    (not_done.Unput (unput.Unmade Memory)) =
    HasInputs named libs lengths names name_lengths
    × (HavePlaces k (length lengths)
    → MayLackMemory k (split names name_lengths) host (split libs lengths))
WhyUnprintedBy named k room host libs lengths names name_lengths
    (not_done.Unput (unput.Unmade (Refused r))) =
    HasInputs named libs lengths names name_lengths
    × IsRefusedFor k host (split libs lengths) r
WhyUnprintedBy named k room host libs lengths names name_lengths
    (not_done.Unput (unput.TooSmall t)) =
    HasInputs named libs lengths names name_lengths
    × IsLong k room (split names name_lengths) host (split libs lengths) t

unfoldable pub WhyUnprinted : TextKind → List ℕ → List ℕ → List ℕ → List ℕ → List ℕ
    → List ℕ → NotDone → Type 0
WhyUnprinted k room host libs lengths names name_lengths why =
    WhyUnprintedBy (needs_names k) k room host libs lengths names name_lengths why

-- a call for it was right, and the room begins with it
unfoldable pub IsPrinted : TextKind → List ℕ → List ℕ → List ℕ → List ℕ → List ℕ
    → List ℕ → List ℕ → Done → Type 0
IsPrinted k host libs lengths names name_lengths old new d =
    HasInputs (needs_names k) libs lengths names name_lengths
    × IsPut k (split names name_lengths) host (split libs lengths) old new d
