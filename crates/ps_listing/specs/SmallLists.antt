-- A small code file whose segments have different lengths, and what its list says of them. The
-- texts are worked out from the file by hand.
-- Source: this project's examples.
use Rattle.std.specs.Prelude.{ℕ, ◌==◌, if◌then◌else◌, List, [], ◌∷◌, ◌++◌, replicate, None, Some, Ok, Err, codes}
use Rattle.std.specs.List.{flat_map}
use Rattle.ps_words.specs.FaultPlaces.{in_slot}
use Rattle.ps_words.specs.Words.{word_bytes}
use Rattle.ps_words.specs.declared.fault.Reason.TheVariants as reason
use Rattle.ps_words.specs.declared.order.Order.TheVariants.{Little}
use Rattle.ps_codefile.specs.Dictionary.{slots}
use Rattle.ps_codefile.specs.declared.entry.Entry.{Entry}
use Rattle.ps_codefile.specs.declared.entry.Role.TheVariants as role
use Rattle.ps_listing.specs.declared.lone.LoneUnit.{LoneUnit}
use Rattle.ps_listing.specs.declared.segments.ListedSegment.{ListedSegment}

-- the names of its segments, and of none
abbrev pub main : List ℕ
main = codes "MAIN    "

abbrev pub aux : List ℕ
aux = codes "AUX     "

abbrev pub tools : List ℕ
tools = codes "TOOLS   "

abbrev pub util : List ℕ
util = codes "UTIL    "

abbrev pub blank : List ℕ
blank = codes "        "

-- 1. the file: MAIN in slot 0 and AUX in slot 2 are linked, TOOLS in slot 5 is a segment procedure,
-- and UTIL in slot 7 is wanted
abbrev pub entry_of : ℕ → ℕ → List ℕ → ℕ → Entry
entry_of block len name kind =
    record { address = block; length = len; name = name; kind = kind; text = 0 }

abbrev pub small_entry : ℕ → Entry
small_entry slot = if slot == 0 then entry_of 1 18 main 0
    else (if slot == 2 then entry_of 1 24 aux 0
    else (if slot == 5 then entry_of 1 40 tools 2
    else (if slot == 7 then entry_of 0 0 util 3 else entry_of 0 0 blank 0)))

-- its dictionary, and the bytes of AUX, with which it ends
abbrev pub small_file : List ℕ
small_file =
    flat_map (λ k. word_bytes Little (small_entry k).address
    ++ word_bytes Little (small_entry k).length) slots
    ++ flat_map (λ k. (small_entry k).name) slots
    ++ flat_map (λ k. word_bytes Little (small_entry k).kind) slots ++ replicate 312 0

-- 2. its segments, by slot: a wanted unit has no length
abbrev pub small_segments : List ListedSegment
small_segments = record {
  slot = 0;
  name = main;
  kind = 0;
  role = Some role.Plain;
  length = Some 18;
  found = Ok [];
}
    ∷ record {
      slot = 2;
      name = aux;
      kind = 0;
      role = Some role.Plain;
      length = Some 24;
      found = Ok [];
    }
    ∷ record {
      slot = 5;
      name = tools;
      kind = 2;
      role = None;
      length = Some 40;
      found = Err (in_slot 0 5 reason.SegmentProcedure);
    }
    ∷ record {
      slot = 7;
      name = util;
      kind = 3;
      role = Some role.Wanted;
      length = None;
      found = Ok [];
    }
    ∷ []

-- 3. its list: a line of the file, and those of its segments
abbrev pub file_text : List ℕ
file_text = codes "a.code: little-endian, 536 bytes, mixed\n"

abbrev pub segments_text : List ℕ
segments_text =
    codes "a.code: slot 00 MAIN     linked, 18 bytes\n"
    ++ codes "a.code: slot 02 AUX      linked, 24 bytes\n"
    ++ codes "a.code: slot 05 TOOLS    kind 2, 40 bytes, refused 7 SegmentProcedure\n"
    ++ codes "a.code: slot 07 UTIL     wanted\n"

-- 4. units by themselves: the second is refused at a reference, and the third as a whole
abbrev pub small_units : List LoneUnit
small_units = record { slot = 2; name = util; fault = None }
    ∷ record {
      slot = 11;
      name = aux;
      fault = Some (record {
        reason = reason.Overlap;
        file = 0;
        slot = Some 11;
        rec = Some 1;
        reference = Some 4;
      });
    }
    ∷ record { slot = 12; name = tools; fault = Some (in_slot 0 12 reason.Truncated) }
    ∷ []

abbrev pub units_text : List ℕ
units_text =
    codes "a.code: slot 02 UTIL     by itself, no fault\n"
    ++ codes "a.code: slot 11 AUX      by itself, refused 33 Overlap record 1 reference 4\n"
    ++ codes "a.code: slot 12 TOOLS    by itself, refused 16 Truncated\n"
