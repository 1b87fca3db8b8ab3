-- The linked file: block 0 has its segment dictionary, and the blocks after it have the code of
-- each segment, by slot, each padded with zeros to its last block's end.
-- Source: UCSD Pascal II.0 manual, code file format; the layout is this project's profile.
use Rattle.std.specs.Prelude.{◌≡◌, ℕ, ◌+◌, ◌*◌, ◌<◌, ◌≤◌, ◌==◌, List, [], ◌∷◌, ◌++◌, length, map, replicate, slice_index, slice_range, nat_lt, All, sum_by}
use Rattle.std.specs.List.{range_with_len, filter, find, flat_map}
use Rattle.std.specs.Option.{option_map_or}
use Rattle.ps_words.specs.Words.{word_bytes, blocks}
use Rattle.ps_words.specs.declared.order.Order.{Order}
use Rattle.ps_words.specs.declared.edit.Edit.{Edit}
use Rattle.ps_codefile.specs.Dictionary.{slots, block_len, names_start, kinds_start, tail_start}
use Rattle.ps_resolve.specs.Added.{segments, slot_names}
use Rattle.ps_resolve.specs.LinkedBytes.{IsLinkedByte, all_private_words, segments_of}
use Rattle.ps_resolve.specs.Standing.{NoneStands}
use Rattle.ps_resolve.specs.Sources.{Segment, order_of}
use Rattle.ps_resolve.specs.Linking.{edited_segments}
use Rattle.ps_patch.specs.Patched.{patched_or_zero}
use Rattle.ps_linkfile.specs.declared.summary.Summary.{Summary}
use Rattle.ps_codefile.specs.declared.dictionary_layout.TheConstants.{SLOTS}

-- how many blocks the codes take
abbrev pub all_blocks : List Segment → ℕ
all_blocks segs = sum_by (λ s. blocks (length s.code)) segs

-- the first block of a slot's code: after the dictionary and the codes of all slots before it
abbrev pub block_of : List Segment → ℕ → ℕ
block_of segs slot = 1 + all_blocks (filter (λ s. nat_lt s.slot slot) segs)

-- what the dictionary says of a slot: the first block and the size of its code, and two zero words
-- where it has none
abbrev pub pair_of : Order → List Segment → ℕ → List ℕ
pair_of order segs slot =
    option_map_or
    (λ s. word_bytes order (block_of segs slot) ++ word_bytes order (length s.code))
    (find (λ s. s.slot == slot) segs) (0 ∷ 0 ∷ 0 ∷ 0 ∷ [])

-- The file is the linked file of the host and the libraries, in which no fault applies: each byte
-- of each code is the linked byte there.
pub record LinkedFile (host : List ℕ) (libs : List (List ℕ)) (file : List ℕ) : Type 0 where
  pub accepted : NoneStands host libs
  pub size : length file ≡ block_len * (1 + all_blocks (segments_of host libs))
  pub pairs : (slot : ℕ) → slot < SLOTS
      → slice_range file (4 * slot) (4 * slot + 4)
      ≡ pair_of (order_of host) (segments_of host libs) slot
  pub names : slice_range file names_start kinds_start
      ≡ flat_map (λ name. name) (slot_names host (segments (order_of host) host libs))
  pub kinds_and_texts : (p : ℕ) → kinds_start ≤ p → p < tail_start
      → slice_index file p ≡ 0
  pub tail : slice_range file tail_start block_len ≡ slice_range host tail_start block_len
  pub codes : All (λ s. (p : ℕ) → p < length s.code
      → IsLinkedByte (order_of host) (segments_of host libs) s p
      (slice_index file (block_len * block_of (segments_of host libs) s.slot + p)))
      (segments_of host libs)
  pub padding : All (λ s. (p : ℕ) → length s.code ≤ p
      → p < block_len * blocks (length s.code)
      → slice_index file (block_len * block_of (segments_of host libs) s.slot + p) ≡ 0)
      (segments_of host libs)

-- the segments of a link, by slot, each with its edits
abbrev pub linked_segments : List ℕ → List (List ℕ) → List (Segment × List Edit)
linked_segments host libs = edited_segments (order_of host) (segments (order_of host) host libs)

-- the pairs of all slots
unfoldable pub all_pairs : Order → List Segment → List ℕ
all_pairs order segs = flat_map (pair_of order segs) slots

-- the segment dictionary, with these names of the slots and the tail of the host's
unfoldable pub dictionary : Order → List (List ℕ) → List ℕ → List Segment → List ℕ
dictionary order names host segs =
    all_pairs order segs ++ (flat_map (λ name. name) names
    ++ (replicate 64 0 ++ slice_range host tail_start block_len))

-- a code with its edits, and zeros to its last block's end
abbrev pub padded_code : Order → List ℕ → List Edit → List ℕ
padded_code order code edits = map (patched_or_zero order code edits)
    (range_with_len 0 (block_len * blocks (length code)))

-- the code of a segment after its edits, padded to whole blocks
abbrev pub padded_segment : Order → Segment × List Edit → List ℕ
padded_segment order (s, edits) = padded_code order s.code edits

-- the one list that is the linked file where no fault applies
abbrev pub linked_file : List ℕ → List (List ℕ) → List ℕ
linked_file host libs = dictionary (order_of host)
    (slot_names host (segments (order_of host) host libs)) host (segments_of host libs)
    ++ flat_map (padded_segment (order_of host)) (linked_segments host libs)

-- the summary of a link: its segments, the words of all privates, and its blocks, the dictionary's
-- counted
abbrev pub summary_of : List ℕ → List (List ℕ) → Summary
summary_of host libs = record {
  segments = length (segments_of host libs);
  private_words = all_private_words (segments_of host libs);
  blocks = 1 + all_blocks (segments_of host libs);
}
