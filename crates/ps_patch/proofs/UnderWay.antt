-- A patcher moves on by a block.
use Rattle.std.proofs.Common.{◌≡◌, ℕ, ◌+◌, ◌-◌, ◌≤◌, List, [], ◌∷◌, length, drop, get_or, sym, ◌∙◌, refl, arith, All, Bool, true, false}
use Rattle.std.specs.Prelude.{find, min, nat_lt}
use Rattle.std.proofs.Math.ListN.{get_or-eq_default}
use Rattle.std.proofs.lemmas.Bool.{ltb-false, ltb-true}
use Rattle.std.proofs.lemmas.List.Elements.{All-drop}
use Rattle.ps_words.specs.Edits.{IsInside, covers, patched_byte}
use Rattle.ps_words.specs.declared.edit.Edit.{Edit}
use Rattle.ps_patch.specs.Patched.{patched_from, patched_or_zero}
use Rattle.ps_patch.specs.Patcher.{EndsBehind, IsUnderWay, Patching}
use Rattle.ps_patch.proofs.Finds.{find_past}

ends_behind_less : (es : List Edit) (less place : ℕ) → less ≤ place → EndsBehind place es
    → EndsBehind less es
ends_behind_less [] less place le h = tt
ends_behind_less (e ∷ es) less place le h = omega (arith, h)

-- the edits before `to` cover nothing after the block, and the one at `to` ends after it
pub block_over : (t : Patching) (next to count : ℕ) → IsUnderWay t next
    → count ≡ min 512 (length t.code - t.position) → to ≤ length t.edits
    → ((p : ℕ) → t.position + 512 ≤ p
    → find (covers p) (drop next t.edits) ≡ find (covers p) (drop to t.edits))
    → EndsBehind (t.position + 512) (drop to t.edits)
    → IsUnderWay (record t { position = t.position + count }) to
block_over t next to count way is within before over =
    record {
      are_edits = way.are_edits;
      position_within = omega (arith, way.position_within);
      next_within = within;
      before = λ p le. at p le (nat_lt p (t.position + 512)) refl;
      over = ends_behind_less (drop to t.edits) (t.position + count) (t.position + 512)
          (omega arith) over;
    }
  where
    at : (p : ℕ) → t.position + count ≤ p → (b : Bool) → nat_lt p (t.position + 512) ≡ b
        → find (covers p) t.edits ≡ find (covers p) (drop to t.edits)
    at p le false off = let behind = ltb-false p (t.position + 512) off in
        way.before p (omega arith) ∙ before p behind
    at p le true on =
        let lt = ltb-true p (t.position + 512) on in
        let past : length t.code ≤ p = omega (arith, way.position_within) in
        let inside = way.are_edits.inside in
        find_past (length t.code) t.edits p inside past
        ∙ sym (find_past (length t.code) (drop to t.edits) p
        (All-drop (IsInside (length t.code)) to t.edits inside) past)

-- past the code's end all that its edits leave is 0
patched_past : (t : Patching) (p : ℕ) → All (IsInside (length t.code)) t.edits
    → patched_byte t.order t.code t.edits p ≡ patched_or_zero t.order t.code t.edits p
patched_past t p inside = grind (arith, ltb-false, find_past, get_or-eq_default)

-- a place of the block that the edits from `next` on are stored in
pub block_patched : (t : Patching) (next k copied new : ℕ) → IsUnderWay t next
    → copied ≡ get_or t.code (t.position + k) 0
    → new ≡ patched_from t.order (drop next t.edits) (t.position + k) copied
    → new ≡ patched_or_zero t.order t.code t.edits (t.position + k)
block_patched t next k copied new way same is = grind (arith, patched_past)
