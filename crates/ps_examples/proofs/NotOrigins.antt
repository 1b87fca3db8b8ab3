-- Where segments of the small files do not come from, computed.
use Rattle.ps_examples.proofs.Vocabulary.{◌≡◌, ℕ, zero, suc, ◌<◌, List, [], ◌∷◌, Option, Some, None, Result, Ok, Err, true, false, refl, sym, ap, subst, ◌∙◌, inl, inr, arith, ◌⊎◌, slice_get, host, library, host_without_7, put_at, blank_name, util, aux, count, state, nobody, is_unit_reference, count_reference, state_reference, end_mark, demo_segment, util_segment, using_segment, aux_segment, self_segment, nobody_segment, count_segment, past_segment, Record, Segment, HasOne, RequestsName, IsAddedUnit, IsUnitOf, IsReadFrom, Reason, false≢true, Little}
use Rattle.std.specs.List.{AllByRecursion}
use Rattle.ps_words.specs.declared.fault.Reason.TheVariants as reason
use Rattle.ps_codefile.specs.declared.entry.Role.{Role}
use Rattle.ps_codefile.specs.declared.entry.Role.TheVariants as role

pub same : {A : Type 0} (a b : A) → ◌≡◌ {A = Option A} (Some a) (Some b) → a ≡ b
same a b e = cc

pub heads : (a b : ℕ) (xs ys : List ℕ) → ◌≡◌ {A = List ℕ} (a ∷ xs) (b ∷ ys) → a ≡ b
heads a b xs ys e = cc

pub util_aux : util ≡ aux → ⊥
util_aux e = let h : 85 ≡ 65 = heads _ _ _ _ e in omega (arith, h)

-- no item passes
none_passes : {A : Type 0} (P : A → Type 0) (xs : List A)
    → AllByRecursion (λ x. P x → ⊥) xs → (k : ℕ) (x : A) → slice_get xs k ≡ Some x
    → P x → ⊥
none_passes P [] all k x e p = cc
none_passes P (y ∷ ys) all zero x e p = all.0 (subst P (sym (same y x e)) p)
none_passes P (y ∷ ys) all (suc k) x e p = none_passes P ys all.1 k x e p

-- slot 7 has no segment where DEMO is the only one
pub a_slot_without_one : HasOne (demo_segment ∷ []) 7 → ⊥
a_slot_without_one t = go t.0 t.1 t.2 t.3.0
  where
    go : (k : ℕ) (s : Segment) → slice_get (demo_segment ∷ []) k ≡ Some s → s.slot ≡ 7
        → ⊥
    go zero s e at = let h : 1 ≡ 7 = ap (λ (x : Segment). x.slot) (same demo_segment s e) ∙ at
        in omega (arith, h)
    go (suc k) s e at = cc

-- the host's slot 7 is not empty
pub filled : ◌≡◌ {A = Result Role Reason} (Ok role.Wanted) (Ok role.Empty) → ⊥
filled e = cc

pub role_is : (a b : Role) → ◌≡◌ {A = Result Role Reason} (Ok a) (Ok b) → a ≡ b
role_is a b e = cc

-- no unit is added in slot 9 where slot 8 is empty and left
pub not_past_an_empty_slot : IsAddedUnit Little host
    (demo_segment ∷ using_segment ∷ past_segment ∷ []) past_segment → ⊥
not_past_an_empty_slot u = let t = u.next 8 (omega arith) (omega arith) refl in go t.0 t.1 t.2 t.3
  where
    go : (k : ℕ) (s : Segment) → slice_get
        (demo_segment ∷ using_segment ∷ past_segment ∷ []) k ≡ Some s → s.slot ≡ 8
        → ⊥
    go zero s e at = let h : 1 ≡ 8 = ap (λ (x : Segment). x.slot) (same demo_segment s e) ∙ at
        in omega (arith, h)
    go (suc zero) s e at = let h : 7 ≡ 8 =
        ap (λ (x : Segment). x.slot) (same using_segment s e) ∙ at in omega (arith, h)
    go (suc (suc zero)) s e at = let h : 9 ≡ 8 =
        ap (λ (x : Segment). x.slot) (same past_segment s e) ∙ at in omega (arith, h)
    go (suc (suc (suc k))) s e at = cc

-- no unit is added in slot 8 where slot 7 is empty and left
pub not_past_slot_7 : IsAddedUnit Little host_without_7
    ((record using_segment { slot = 9 }) ∷ aux_segment ∷ []) aux_segment → ⊥
not_past_slot_7 u = let t = u.next 7 (omega arith) (omega arith) refl in
    none_passes (λ (q : Segment). q.slot ≡ 7)
    ((record using_segment { slot = 9 }) ∷ aux_segment ∷ [])
    (of 9 (omega arith), (of 8 (omega arith), tt)) t.0 t.1 t.2 t.3
  where
    of : (n : ℕ) → 7 < n → n ≡ 7 → ⊥
    of n lt e = omega (arith, lt, e)

-- no record of the segment has the name
no_name : (s : Segment) (name : List ℕ)
    → AllByRecursion (λ (r : Record). r.name ≡ name → ⊥) s.records → RequestsName s name
    → ⊥
no_name s name all t = none_passes (λ (r : Record). r.name ≡ name) s.records all t.0 t.1 t.2
    t.3.1

count_aux : count ≡ aux → ⊥
count_aux e = let h : 67 ≡ 65 = heads _ _ _ _ e in omega (arith, h)

state_aux : state ≡ aux → ⊥
state_aux e = let h : 83 ≡ 65 = heads _ _ _ _ e in omega (arith, h)

blank_aux : blank_name ≡ aux → ⊥
blank_aux e = let h : 32 ≡ 65 = heads _ _ _ _ e in omega (arith, h)

-- no unit is added where its own UNITREF record is the only one of its name
pub not_requested_by_itself_alone : IsAddedUnit Little host
    (util_segment ∷ self_segment ∷ []) self_segment → ⊥
not_requested_by_itself_alone u = let t = u.requested in go t.0 t.1 t.2 t.3.0 t.3.1
  where
    go : (k : ℕ) (q : Segment) → slice_get (util_segment ∷ self_segment ∷ []) k ≡ Some q
        → (q.added ≡ false) ⊎ (q.slot < 8) → RequestsName q aux → ⊥
    go zero q e b t = no_name util_segment aux (count_aux, (state_aux, (blank_aux, tt)))
        (subst (λ (x : Segment). RequestsName x aux) (sym (same util_segment q e)) t)
    go (suc zero) q e (inl h) t = let s = same self_segment q e in
        false≢true (sym (ap (λ (x : Segment). x.added) s ∙ h))
    go (suc zero) q e (inr h) t = let s : 8 ≡ q.slot =
        ap (λ (x : Segment). x.slot) (same self_segment q e) in omega (arith, s, h)
    go (suc (suc k)) q e b t = cc

aux_nobody : aux ≡ nobody → ⊥
aux_nobody e = let h : 65 ≡ 78 = heads _ _ _ _ e in omega (arith, h)

count_nobody : count ≡ nobody → ⊥
count_nobody e = let h : 67 ≡ 78 = heads _ _ _ _ e in omega (arith, h)

state_nobody : state ≡ nobody → ⊥
state_nobody e = let h : 83 ≡ 78 = heads _ _ _ _ e in omega (arith, h)

blank_nobody : blank_name ≡ nobody → ⊥
blank_nobody e = let h : 32 ≡ 78 = heads _ _ _ _ e in omega (arith, h)

-- no unit is added where UNITREF records request one of another name only
pub not_requested_by_another_name : IsAddedUnit Little host
    (using_segment ∷ nobody_segment ∷ []) nobody_segment → ⊥
not_requested_by_another_name u = let t = u.requested in
    none_passes (λ (q : Segment). RequestsName q nobody) (using_segment ∷ nobody_segment ∷ [])
    (of_using, (of_itself, tt)) t.0 t.1 t.2 t.3.1
  where
    of_using : RequestsName using_segment nobody → ⊥
    of_using t = no_name using_segment nobody (aux_nobody, (blank_nobody, tt)) t

    of_itself : RequestsName nobody_segment nobody → ⊥
    of_itself t = no_name nobody_segment nobody (count_nobody, (state_nobody, (blank_nobody, tt))) t

-- no unit is added for a PUBLREF record of its name
pub not_requested_by_a_publ_ref : IsAddedUnit Little host
    (util_segment ∷ count_segment ∷ []) count_segment → ⊥
not_requested_by_a_publ_ref u = let t = u.requested in go t.0 t.1 t.2 t.3.1
  where
    of_util : RequestsName util_segment count → ⊥
    of_util t = at t.0 t.1 t.2 t.3.0 t.3.1
      where
        at : (k : ℕ) (r : Record) → slice_get util_segment.records k ≡ Some r
            → is_unit_reference r.body ≡ true → r.name ≡ count → ⊥
        at zero r e b n =
            false≢true (ap (λ (x : Record). is_unit_reference x.body) (same count_reference r e)
            ∙ b)
        at (suc zero) r e b n = false≢true
            (ap (λ (x : Record). is_unit_reference x.body) (same state_reference r e) ∙ b)
        at (suc (suc zero)) r e b n = false≢true
            (ap (λ (x : Record). is_unit_reference x.body) (same end_mark r e) ∙ b)
        at (suc (suc (suc k))) r e b n = cc

    go : (k : ℕ) (q : Segment) → slice_get (util_segment ∷ count_segment ∷ []) k ≡ Some q
        → RequestsName q count → ⊥
    go zero q e t = of_util (subst (λ (x : Segment). RequestsName x count)
        (sym (same util_segment q e)) t)
    go (suc zero) q e t = let a = subst (λ (x : Segment). RequestsName x count)
        (sym (same count_segment q e)) t in let h = a.2 in cc
    go (suc (suc k)) q e t = cc

-- no unit is in a second library where there is only one
pub not_in_a_file_that_is_not_there : IsUnitOf Little host (put_at 80 aux library ∷ []) util 2 2
    → ⊥
not_in_a_file_that_is_not_there u = nothing_there u.library u.file
  where
    nothing_there : (f : List ℕ) → ◌≡◌ {A = Option (List ℕ)} None (Some f) → ⊥
    nothing_there f e = cc

-- the code of an entry is refused
pub refused : (code : List ℕ) → ◌≡◌ {A = Result (List ℕ) Reason} (Err reason.BadLength)
    (Ok code) → ⊥
refused code e = cc

pub unaddressed : (code : List ℕ) → ◌≡◌ {A = Result (List ℕ) Reason}
    (Err reason.BadAddress) (Ok code) → ⊥
unaddressed code e = cc

pub not_without_its_records : IsReadFrom Little host (library ∷ [])
    (record util_segment { records = [] }) → ⊥
not_without_its_records r = (r.records refl).ends
