-- Private variables: where each is allotted, after the host's own data and after all privates
-- before it, and the first that cannot be.
-- Source: the end mark's base offset is that of the published II.0 Linker source; the order of
-- allotment is this project's profile.
use Rattle.std.specs.Prelude.{map, ℕ, ◌+◌, if◌then◌else◌, List, [], ◌∷◌, ◌++◌, nat_eq, nat_lt, Option, Some, None, bytes_eq}
use Rattle.std.specs.List.{list_any}
use Rattle.std.specs.Option.{option_eq, option_map, option_or}
use Rattle.ps_linkinfo.specs.Records.{reading}
use Rattle.ps_reading.specs.Searches.{fault_if}
use Rattle.ps_reading.specs.Sources.{Segment}
use Rattle.ps_resolve.specs.declared.linkage.Linkage.{Linkage}
use Rattle.ps_reading.specs.declared.locations.SegmentAt.{SegmentAt}
use Rattle.ps_words.specs.declared.fault.Reason.{Reason}
use Rattle.ps_words.specs.declared.fault.Reason.TheVariants as reason
use Rattle.ps_words.specs.declared.fault.Fault.{Fault}
use Rattle.ps_words.specs.FaultPlaces.{in_record}
use Rattle.ps_linkinfo.specs.declared.record.Body.{Body}
use Rattle.ps_linkinfo.specs.declared.record.Body.TheVariants.{PrivRef}
use Rattle.ps_linkinfo.specs.declared.record.LinkRecord.{LinkRecord as Record}
use Rattle.ps_resolve.specs.declared.allotment.Private.{Private}
use Rattle.ps_resolve.specs.declared.allotment.TheConstants.{MAX_NEXT_FREE}

-- how many words a private of a record takes, where its kind requests one
abbrev pub words_in : Body → Option ℕ
words_in (PrivRef words refs) = Some words
words_in other = None

-- The privates of the records, the first of which has number `rec`, from the offset `next` on.
abbrev pub allotted_privates : ℕ → ℕ → ℕ → List Record → List Private
allotted_privates slot rec next [] = []
allotted_privates slot rec next (r ∷ rs) =
    elim (words_in r.body) [
      | None ↦ allotted_privates slot (rec + 1) next rs
      | Some words ↦ record {
        slot = slot;
        rec = rec;
        name = r.name;
        offset = next;
        words = words;
      } ∷ allotted_privates slot (rec + 1) (next + words) rs
    ]

-- the words of all of them
abbrev pub private_words : List Record → ℕ
private_words [] = 0
private_words (r ∷ rs) = elim (words_in r.body)
    [ None ↦ private_words rs | Some words ↦ words + private_words rs ]

-- the first that has the name of one before it, of the names `seen` or of the records, or that ends
-- past MAX_NEXT_FREE
abbrev pub private_fault : ℕ → ℕ → List (List ℕ) → List Record
    → Option (ℕ × Reason)
private_fault rec next seen [] = None
private_fault rec next seen (r ∷ rs) =
    elim (words_in r.body) [
      | None ↦ private_fault (rec + 1) next seen rs
      | Some words ↦
          if list_any (bytes_eq r.name) seen then Some (rec, reason.DoubledPrivate)
          else (if nat_lt MAX_NEXT_FREE (next + words) then Some (rec, reason.NoRoom)
          else private_fault (rec + 1) (next + words) (seen ++ r.name ∷ []) rs)
    ]

-- the first fault of privates in the records of a segment, with its file and its slot
abbrev pub unallotted_fault : ℕ → ℕ → ℕ → List Record → Option Fault
unallotted_fault file slot next rs = option_map (λ f. in_record file slot f.0 f.1)
    (private_fault 0 next [] rs)

-- why a private is not allotted, where `duplicate` is the first record of its segment that has the
-- name of an earlier one
abbrev pub unfit_reason : Option ℕ → Private → Option Reason
unfit_reason duplicate p =
    option_or (fault_if (option_eq nat_eq duplicate (Some p.rec)) reason.DoubledPrivate)
    (fault_if (nat_lt MAX_NEXT_FREE (p.offset + p.words)) reason.NoRoom)

-- the fault of a private, in a segment with this file and this slot
abbrev pub unfit_fault : ℕ → ℕ → Option ℕ → Private → Option Fault
unfit_fault file slot duplicate p = option_map (λ why. in_record file slot p.rec why)
    (unfit_reason duplicate p)

-- an owner of privates is the place of a segment, and its records
abbrev pub Owner : Type 0
Owner = SegmentAt × List Record

-- the owner that a linkage stands for
abbrev pub owner_of_linkage : Linkage → Owner
owner_of_linkage s = (record { file = s.file; slot = s.slot }, (reading s.order s.bytes.now).0)

-- a segment as an owner of privates
abbrev pub owner_of : Segment → Owner
owner_of s = (record { file = s.file; slot = s.slot }, s.records)

-- the privates of all segments, by slot and then by record, from the offset `next` on
abbrev pub all_allotted : ℕ → List Owner → List Private
all_allotted next [] = []
all_allotted next ((place, rs) ∷ ss) = allotted_privates place.slot 0 next rs
    ++ all_allotted (next + private_words rs) ss

-- the words of the privates of these segments
abbrev pub all_words : List Owner → ℕ
all_words [] = 0
all_words ((place, rs) ∷ ss) = private_words rs + all_words ss

-- the first fault of the privates
abbrev pub first_private_fault : ℕ → List Owner → Option Fault
first_private_fault next [] = None
first_private_fault next ((place, rs) ∷ ss) =
    option_or (unallotted_fault place.file place.slot next rs)
    (first_private_fault (next + private_words rs) ss)

-- what an allotment holds: the privates, the words of all of them, and the offset after the last
pub record Allotted : Type 0 where
  pub privates : List Private
  pub words : ℕ
  pub next_free : ℕ

-- the allotment of these segments from a base offset on
abbrev pub allotment_of : ℕ → List Owner → Allotted
allotment_of next ss = record {
  privates = all_allotted next ss;
  words = all_words ss;
  next_free = next + all_words ss;
}

-- the words of all privates of the segments
abbrev pub total_words : List Segment → ℕ
total_words segs = all_words (map owner_of segs)
