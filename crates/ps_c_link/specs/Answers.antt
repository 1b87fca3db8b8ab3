-- What an answer says of a call, and which fault it has.
use Rattle.std.specs.Prelude.{◌≡◌, ℕ, ◌<◌, ◌==◌, ◌^◌, ◌⊎◌, if◌then◌else◌, All, List, [], ◌∷◌, ◌++◌, Option, Some, None, IfSome, length, min, nat_lt, option_map, unwrap_or}
use Rattle.ps_words.specs.FaultText.{number_of, kind_of, reason_of, fault_text}
use Rattle.ps_words.specs.declared.fault.Reason.{Reason}
use Rattle.ps_words.specs.declared.fault.Fault.{Fault}
use Rattle.ps_linkfile.specs.declared.summary.Summary.{Summary}
use Rattle.ps_c_link.specs.declared.answer.Answer.{Answer}
use Rattle.ps_c_link.specs.declared.answer.TheConstants.{DONE, REFUSED, MISUSE, NO_MEMORY, TOO_SMALL, WRONG_NAMES, NO_NUMBER, NO_INDEX, MAX_BYTE, MAX_KIND}

-- what stands for a name where there is none
abbrev pub no_name : List ℕ
no_name = 0 ∷ 0 ∷ 0 ∷ 0 ∷ 0 ∷ 0 ∷ 0 ∷ 0 ∷ []

-- a name and a closing 0
abbrev pub closed_name : Option (List ℕ) → List ℕ
closed_name name = unwrap_or name no_name ++ 0 ∷ []

-- a count as a number of 32 bits: one that is higher is told as the highest
abbrev pub capped : ℕ → ℕ
capped count = min count NO_NUMBER

-- a status, and nothing else
abbrev pub bare : ℕ → Answer
bare status = record {
  status = status;
  fault = 0;
  file = NO_INDEX;
  rec = NO_INDEX;
  reference = NO_INDEX;
  slot = NO_NUMBER;
  kind = NO_NUMBER;
  name = 0 ∷ no_name;
  segments = 0;
  private_words = 0;
  blocks = 0;
  warnings = 0;
  size = 0;
  reserved = 0 ∷ 0 ∷ 0 ∷ 0 ∷ 0 ∷ 0 ∷ 0 ∷ 0 ∷ [];
}

-- a linked file has this summary, and the result so many bytes
abbrev pub linked_answer : Summary → ℕ → Answer
linked_answer s size = record (bare DONE) {
  segments = s.segments;
  private_words = s.private_words;
  blocks = s.blocks;
  size = size;
}

-- the same of any summary: with its counts as numbers of 32 bits
abbrev pub capped_answer : Summary → ℕ → Answer
capped_answer s size =
    record (linked_answer s size) { segments = capped s.segments; blocks = capped s.blocks }

-- a text of so many bytes was written
abbrev pub text_answer : ℕ → Answer
text_answer size = record (bare DONE) { size = size }

-- the result has so many bytes, and there was less room
abbrev pub small_answer : ℕ → Answer
small_answer size = record (bare TOO_SMALL) { size = size }

-- the files are refused for this fault, which is about what has this name
abbrev pub refusal : Fault → Option (List ℕ) → Answer
refusal f name = record (bare REFUSED) {
  fault = number_of f.reason;
  file = f.file;
  rec = unwrap_or f.rec NO_INDEX;
  reference = unwrap_or f.reference NO_INDEX;
  slot = unwrap_or f.slot NO_NUMBER;
  kind = unwrap_or (kind_of f.reason) NO_NUMBER;
  name = closed_name name;
}

-- a part that is there where its field has not what stands for none
abbrev pub part : ℕ → ℕ → Option ℕ
part none value = if value == none then None else Some value

-- a slot that is there, which is a byte
abbrev pub slot_part : ℕ → Option ℕ
slot_part value = if value == NO_NUMBER then None else Some (min value MAX_BYTE)

-- the fault of this reason that an answer has
abbrev pub fault_with : Answer → Reason → Fault
fault_with a why = record {
  reason = why;
  file = a.file;
  slot = slot_part a.slot;
  rec = part NO_INDEX a.rec;
  reference = part NO_INDEX a.reference;
}

-- the fault that an answer has, where its number is that of one
abbrev pub fault_told : Answer → Option Fault
fault_told a = if nat_lt MAX_BYTE a.fault then None
    else option_map (fault_with a) (reason_of a.fault (min a.kind MAX_KIND))

-- a part that is there where that of a fault is
abbrev pub part_like : Option ℕ → ℕ → Option ℕ
part_like None value = None
part_like (Some part) value = Some value

-- the fault that an answer has, where it has the parts that this one has
abbrev pub fault_like : Fault → Answer → Option Fault
fault_like f a = option_map (λ why. record {
  reason = why;
  file = a.file;
  slot = part_like f.slot a.slot;
  rec = part_like f.rec a.rec;
  reference = part_like f.reference a.reference;
}) (reason_of a.fault a.kind)

-- no index of a fault is what stands for none
abbrev pub HasIndexes : Fault → Type 0
HasIndexes f = IfSome f.rec (λ rec. rec < NO_INDEX) × IfSome f.reference (λ i. i < NO_INDEX)

-- the other parts of a fault are in the ranges of their types, 16 bits of a kind and 8 of a slot,
-- and no index is what stands for none
abbrev pub IsTellable : Fault → Type 0
IsTellable f = IfSome (kind_of f.reason) (λ kind. kind < 65536)
    × IfSome f.slot (λ slot. slot < 256) × HasIndexes f

-- each of these files is shorter than half of all that 64 bits address, as what is in memory is
abbrev pub AreInMemory : List ℕ → List (List ℕ) → Type 0
AreInMemory host libs = (length host < 2 ^ 63) × All (λ lib. length lib < 2 ^ 63) libs

-- the statuses of a link
abbrev pub IsStatus : ℕ → Type 0
IsStatus n = (n ≡ DONE) ⊎ (n ≡ REFUSED) ⊎ (n ≡ MISUSE) ⊎ (n ≡ NO_MEMORY) ⊎ (n ≡ TOO_SMALL)

-- the statuses of a text
abbrev pub IsTextStatus : ℕ → Type 0
IsTextStatus n = (n ≡ DONE) ⊎ (n ≡ REFUSED) ⊎ (n ≡ MISUSE) ⊎ (n ≡ NO_MEMORY)
    ⊎ (n ≡ TOO_SMALL) ⊎ (n ≡ WRONG_NAMES)

-- the text of a fault, with a closing 0
abbrev pub closed_text : Fault → List ℕ
closed_text f = fault_text f ++ 0 ∷ []
