-- What is known of the segments of a link, once the files were read without a fault.
pub use Rattle.ps_reading.specs.KnownSegments.{AscendFrom, HasOneHost}
use Rattle.std.specs.Prelude.{◌≡◌, ℕ, ◌+◌, ◌≤◌, List, length, map, true, Some, All, is_some}
use Rattle.ps_words.specs.declared.order.Order.{Order}
use Rattle.ps_words.specs.declared.edit.Edit.{Edit}
use Rattle.ps_codefile.specs.Places.{IsWhole}
use Rattle.ps_codefile.specs.Procedures.{procedures, table_of}
use Rattle.ps_codefile.specs.Roles.{is_host}
use Rattle.ps_reading.specs.Sources.{Segment, host_of}
use Rattle.ps_resolve.specs.Edits.{IsOfTable}
use Rattle.ps_resolve.specs.Privates.{owner_of, private_words, all_words}
use Rattle.ps_resolve.specs.References.{Known, HaveTargets}
use Rattle.ps_reading.specs.KnownSegments.{IsSound, IsLike, AreAlike}
use Rattle.ps_resolve.specs.declared.host_segment.HostSegment.{HostSegment}
use Rattle.ps_words.specs.declared.words.TheConstants.{MAX_WORD}
use Rattle.ps_codefile.specs.declared.dictionary_layout.TheConstants.{SLOT_COUNT}

-- a host's own segment: its records, and the place of the attribute table of its outer block, which
-- lies in its code before the procedure dictionary
pub record IsHost (order : Order) (h : HostSegment) : Type 0 where
  pub records : h.records.now ≡ h.segment.now.records
  pub procedure : 1 ≤ procedures h.segment.now.code
  pub table : table_of order h.segment.now.code 1 ≡ Some h.outer_block
  pub whole : IsWhole h.segment.now.code h.outer_block

-- The segments of a link, as they were read: each sound, one of them the host's, by slot ascending,
-- those that share link information alike.
pub record AreWhole (order : Order) (ss : List Segment) : Type 0 where
  pub sound : All (IsSound order) ss
  pub has_host : is_some (host_of ss) ≡ true
  pub one_host : HasOneHost ss
  pub ascending : AscendFrom 0 (map (λ s. s.slot) ss)
  pub alike : AreAlike ss
  pub most : length ss ≤ SLOT_COUNT

-- The segments of a link, by slot: each sound, one of them the host's, those that share link
-- information alike.
pub record AreSegments (order : Order) (host_segment : HostSegment) (ss : List Segment) : Type 0
  where
    pub sound : All (IsSound order) ss
    pub found : host_of ss ≡ Some host_segment.segment.now
    pub own : IsHost order host_segment
    pub one_host : HasOneHost ss
    pub ascending : AscendFrom 0 (map (λ s. s.slot) ss)
    pub alike : AreAlike ss
    pub most : length ss ≤ SLOT_COUNT

-- the byte order of the files, the host's own segment, and all segments by slot
pub record ReadSegments : Type 0 where
  pub order : Order
  pub own : HostSegment
  pub items : List Segment

-- Segments whose privates were allotted from `base` on, and that what stores the host's data size,
-- `size`, suits.
pub record AreLinkable (order : Order) (size : Edit) (base : ℕ) (ss : List Segment) : Type 0
  where
    pub sound : All (IsSound order) ss
    pub room : base + all_words (map owner_of ss) ≤ MAX_WORD
    pub table : All (λ s. is_host s.role ≡ true → IsOfTable order s.code size) ss
    pub alike : AreAlike ss

-- such a segment after earlier ones, of whose names it is known what they stand for, with the
-- offset of the first of its privates
pub record IsNext (order : Order) (known : Known) (size : Edit) (earlier : List Segment)
    (s : Segment) (free : ℕ) : Type 0 where
  pub sound : IsSound order s
  pub room : free + private_words s.records ≤ MAX_WORD
  pub table : is_host s.role ≡ true → IsOfTable order s.code size
  pub alike : All (IsLike s) earlier
  pub named : All (λ q. HaveTargets known q.records) earlier
