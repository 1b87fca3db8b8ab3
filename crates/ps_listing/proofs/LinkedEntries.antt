-- The kind of an entry whose segment is to be linked.
use Rattle.ps_listing.proofs.Vocabulary.{◌≡◌, ◌==◌, ◌||◌, if◌then◌else◌, Bool, true, false, refl, Ok, Err, Result, nat_le, Reason, kind_needs_linking, role_of, needs_linking, Role}
use Rattle.ps_words.specs.declared.fault.Reason.TheVariants as reason
use Rattle.ps_codefile.specs.declared.entry.Entry.{Entry}
use Rattle.ps_codefile.specs.declared.entry.Role.TheVariants as role

same_role : (x r : Role) → ◌≡◌ {A = Result Role Reason} (Ok x) (Ok r) → needs_linking x ≡ false
    → needs_linking r ≡ false
same_role x r h n = let is : x ≡ r = cc in rw is at n

-- one of neither kind is not to be linked
not_linked : (empty k0 k2 k4 low : Bool) (r : Role)
    → ◌≡◌ {A = Result Role Reason} (if empty then Ok role.Empty
    else (if k0 then Ok role.Plain
    else (if k2 then Err reason.SegmentProcedure
    else (if k4 then Err reason.NativeSegment
    else (if low then Err reason.Intrinsic else Err reason.UnknownKind))))) (Ok r)
    → needs_linking r ≡ false
not_linked true k0 k2 k4 low r h = same_role role.Empty r h refl
not_linked false true k2 k4 low r h = same_role role.Plain r h refl
not_linked false false true k4 low r h = cc
not_linked false false false true low r h = cc
not_linked false false false false true r h = cc
not_linked false false false false false r h = cc

-- the entry of a segment that is to be linked is of kind 1 or 3
pub linked_kind : (e : Entry) (r : Role) → role_of e ≡ Ok r → needs_linking r ≡ true
    → kind_needs_linking e.kind ≡ true
linked_kind e r h l = by (e.kind == 1) (e.kind == 3) refl refl
  where
    by : (k1 k3 : Bool) → (e.kind == 1) ≡ k1 → (e.kind == 3) ≡ k3 → (k1 || k3) ≡ true
    by true k3 p q = refl
    by false true p q = refl
    by false false p q = let no = not_linked (e.length == 0) (e.kind == 0) (e.kind == 2)
        (e.kind == 4) (nat_le e.kind 7) r (rw (p, q) at h) in cc
