-- The builders of definitions and of allotments, said plainly: where each refuses, and how the
-- privates of an allotment are.
-- Source: the link records PUBLDEF, CONSTDEF and PRIVREF are those of the published II.0 Linker
-- source; that a name is defined once, and the order of the privates, are this project's profile.
use Rattle.std.specs.Prelude.{◌≡◌, ℕ, ◌+◌, ◌<◌, ◌≤◌, List, [], ◌∷◌, ◌++◌, slice_get, take, map, sum_by, Bool, true, Option, Some, None, option_map}
use Rattle.std.specs.Int.{w64, from_be_bytes}
use Rattle.std.specs.List.{enumerate_from, filter, filter_map, flat_map}
use Rattle.ps_linkinfo.specs.declared.record.Body.{Body}
use Rattle.ps_linkinfo.specs.declared.record.LinkRecord.{LinkRecord as Record}
use Rattle.ps_resolve.specs.First.{Before}
use Rattle.ps_resolve.specs.Privates.{Owner, words_in}
use Rattle.ps_reading.specs.Standing.Phrases.{SomeItem}
use Rattle.ps_resolve.specs.Standing.Definitions.{HasEarlierNamesake}
use Rattle.ps_linkinfo.specs.RecordCounts.{is_definition, is_private_reference}
use Rattle.ps_resolve.specs.References.{words_taken, words_taken_by}
use Rattle.ps_resolve.specs.declared.allotment.Private.{Private}
use Rattle.ps_reading.specs.declared.locations.SegmentAt.{SegmentAt}
use Rattle.ps_resolve.specs.declared.linkage.Stop.{Stop}
use Rattle.ps_resolve.specs.declared.linkage.Stop.TheVariants.{Refused, Memory}
use Rattle.ps_words.specs.FaultPlaces.{in_record}
use Rattle.ps_words.specs.declared.fault.Fault.{Fault}
use Rattle.ps_words.specs.declared.fault.Reason.{Reason}
use Rattle.ps_words.specs.declared.fault.Reason.TheVariants as reason
use Rattle.ps_resolve.specs.declared.allotment.TheConstants.{MAX_NEXT_FREE}

-- 1. definitions
-- no record of this kind has the name of an earlier record of this kind
abbrev pub HaveNoNamesakes : (Body → Bool) → List Record → Type 0
HaveNoNamesakes test rs = (rec : ℕ) (r : Record) → slice_get rs rec ≡ Some r
    → HasEarlierNamesake test rs rec r → ⊥

-- record `rec` is the first record of this kind that has the name of an earlier record of this kind
pub record IsFirstNamesake (test : Body → Bool) (rs : List Record) (rec : ℕ) : Type 0 where
  pub item : Record
  pub there : slice_get rs rec ≡ Some item
  pub again : HasEarlierNamesake test rs rec item
  pub first : (lesser : ℕ) (r : Record) → lesser < rec → slice_get rs lesser ≡ Some r
      → HasEarlierNamesake test rs lesser r → ⊥

-- the first record of this kind that has the name of an earlier record of this kind, or that there
-- is none
abbrev pub FindsNamesake : (Body → Bool) → List Record → Option ℕ → Type 0
FindsNamesake test rs None = HaveNoNamesakes test rs
FindsNamesake test rs (Some rec) = IsFirstNamesake test rs rec

-- Why the definitions of a segment are not built: its first record that defines the name of an
-- earlier definition is refused; or memory ran out, and a record defines a name.
abbrev pub StopsDefinitions : ℕ → ℕ → List Record → Stop → Type 0
StopsDefinitions file slot rs (Refused fault) =
    (rec : ℕ) × IsFirstNamesake is_definition rs rec
    × (fault ≡ in_record file slot rec reason.DoubledDefinition)
StopsDefinitions file slot rs Memory = SomeItem rs (λ rec r. is_definition r.body ≡ true)

-- the names of the records that request privates, each as a number
abbrev pub private_numbers : List Record → List ℕ
private_numbers rs = map (λ r. from_be_bytes w64 r.name)
    (filter (λ r. is_private_reference r.body) rs)

-- 2. privates, of segments in the order of their slots, each its place and its records
-- the offset at record `rec` of segment k, whose records are these: the base offset, and the words
-- of all privates of the segments before it and of the records before it in its own
abbrev pub offset_at : ℕ → List Owner → ℕ → List Record → ℕ → ℕ
offset_at base ss k rs rec = base + words_taken_by
    (flat_map (λ (s : Owner). s.1) (take k ss) ++ take rec rs)

-- in no segment has a private the name of an earlier private of that segment
abbrev pub HaveDistinctPrivates : List Owner → Type 0
HaveDistinctPrivates ss = (k : ℕ) (place : SegmentAt) (rs : List Record)
    → slice_get ss k ≡ Some (place, rs) → HaveNoNamesakes is_private_reference rs

-- every private ends at MAX_NEXT_FREE at most
abbrev pub HaveRoom : ℕ → List Owner → Type 0
HaveRoom base ss =
    (k rec : ℕ) (place : SegmentAt) (rs : List Record) (r : Record)
    → slice_get ss k ≡ Some (place, rs) → slice_get rs rec ≡ Some r
    → is_private_reference r.body ≡ true
    → offset_at base ss k rs rec + words_taken r.body ≤ MAX_NEXT_FREE

-- why the private of a record is refused: an earlier private of its segment has its name, or else
-- it ends past MAX_NEXT_FREE
abbrev pub IsUnfit : ℕ → List Owner → ℕ → List Record → ℕ → Record → Reason
    → Type 0
IsUnfit base ss k rs rec r reason.DoubledPrivate = HasEarlierNamesake is_private_reference rs rec r
IsUnfit base ss k rs rec r reason.NoRoom =
    (HasEarlierNamesake is_private_reference rs rec r → ⊥)
    × (is_private_reference r.body ≡ true)
    × (MAX_NEXT_FREE < offset_at base ss k rs rec + words_taken r.body)
IsUnfit base ss k rs rec r other = ⊥

-- the fault is that of the first private that is refused: by segment, and then by record
pub record IsFirstUnfit (base : ℕ) (ss : List Owner) (fault : Fault) : Type 0 where
  pub segment : ℕ
  pub rec : ℕ
  pub place : SegmentAt
  pub records : List Record
  pub item : Record
  pub why : Reason
  pub of : slice_get ss segment ≡ Some (place, records)
  pub there : slice_get records rec ≡ Some item
  pub unfit : IsUnfit base ss segment records rec item why
  pub told : fault ≡ in_record place.file place.slot rec why
  pub first : (k n : ℕ) (q : SegmentAt) (rs : List Record) (r : Record) (other : Reason)
      → slice_get ss k ≡ Some (q, rs) → slice_get rs n ≡ Some r
      → IsUnfit base ss k rs n r other
      → Before (k ∷ n ∷ []) (segment ∷ rec ∷ []) → ⊥

-- Why the privates of segments are not allotted: the first that is unfit is refused; or memory ran
-- out, and a record requests a private.
abbrev pub StopsPrivates : ℕ → List Owner → Stop → Type 0
StopsPrivates base ss (Refused fault) = IsFirstUnfit base ss fault
StopsPrivates base ss Memory = SomeItem ss
    (λ k s. SomeItem s.1 (λ rec r. is_private_reference r.body ≡ true))

-- 3. what is allotted
-- a private before it has an offset: its slot, its record, its name and its words
pub record RequestedPrivate : Type 0 where
  pub slot : ℕ
  pub rec : ℕ
  pub name : List ℕ
  pub words : ℕ

-- what a record of a segment, with its index, requests: a PRIVREF record for a private
abbrev pub requested_in : SegmentAt → ℕ × Record → Option RequestedPrivate
requested_in place r = option_map
    (λ words. record { slot = place.slot; rec = r.0; name = r.1.name; words = words })
    (words_in r.1.body)

-- what all records of the segments request, by segment and then by record
abbrev pub all_requested : List Owner → List RequestedPrivate
all_requested ss = flat_map (λ (s : Owner). filter_map (requested_in s.0) (enumerate_from 0 s.1))
    ss

-- a private without its offset
abbrev pub requested_of : Private → RequestedPrivate
requested_of p = record { slot = p.slot; rec = p.rec; name = p.name; words = p.words }

-- the privates are by slot and, of one slot, by record
abbrev pub AreByRecord : List Private → Type 0
AreByRecord ps = (i j : ℕ) (p q : Private) → i < j → slice_get ps i ≡ Some p
    → slice_get ps j ≡ Some q → Before (p.slot ∷ p.rec ∷ []) (q.slot ∷ q.rec ∷ [])

-- the words of all of them
abbrev pub words_of_all : List Private → ℕ
words_of_all ps = sum_by (λ p. p.words) ps
