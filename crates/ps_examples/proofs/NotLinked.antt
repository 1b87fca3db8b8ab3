-- What is not said of linked bytes on the small files, computed.
use Rattle.ps_examples.proofs.Vocabulary.{subst, ◌≡◌, ℕ, zero, suc, List, [], ◌∷◌, Some, false, true, sym, ap, ◌∙◌, arith, slice_get, false≢true, blank_name, util, aux, tools, count, state, demo_segment, util_segment, using_segment, aux_segment, tools_segment, pair, three, with_plain, with_constant, with_unused, UnitRef, PublDef, ConstDef, Eof, Record}
use Rattle.ps_examples.proofs.NotOrigins.{heads, same, util_aux}
use Rattle.ps_resolve.specs.Added.{added_segments, empty_slots, segments}
use Rattle.ps_resolve.specs.LinkedBytes.{IsHostRecord, Becomes, IsSlotOf, IsPublic, IsBase}
use Rattle.ps_linkinfo.specs.declared.record.Body.{Body}
use Rattle.ps_codefile.specs.Roles.{is_host, is_unit}
use Rattle.ps_resolve.specs.Sources.{Segment, own_segments}

-- a record of a host that comes first, before segments that are no hosts
pub of_first : (h : Segment) (rest : List Segment)
    → ((k : ℕ) (s : Segment) → slice_get rest k ≡ Some s → is_host s.role ≡ true
    → ⊥) → (rec : ℕ) (r : Record) → IsHostRecord (h ∷ rest) rec r
    → slice_get h.records rec ≡ Some r
of_first h rest none rec r (zero, s, e, p) =
    subst (λ (x : Segment). slice_get x.records rec ≡ Some r) (sym (same h s e)) p.1
of_first h rest none rec r (suc k, s, e, p) = absurd (none k s e p.0)

pub no_host : (k : ℕ) (s : Segment) → slice_get (util_segment ∷ []) k ≡ Some s
    → is_host s.role ≡ true → ⊥
no_host zero s e is = let h = ap (λ (x : Segment). is_host x.role) (same util_segment s e) ∙ is
    in cc
no_host (suc k) s e is = cc

-- names
no_unit : false ≡ true → ⊥
no_unit e = false≢true e

pub util_tools : util ≡ tools → ⊥
util_tools e = let h : 85 ≡ 84 = heads _ _ _ _ e in omega (arith, h)

pub count_state : count ≡ state → ⊥
count_state e = let h : 67 ≡ 83 = heads _ _ _ _ e in omega (arith, h)

abbrev Named : List Segment → List ℕ → Type 0
Named segs name = (k : ℕ) (q : Segment) → slice_get segs k ≡ Some q
    → is_unit q.role ≡ true → q.name ≡ name → ⊥

-- where neither of two segments is a unit of the name, and none of the rest is, none of all is one
none_named : (a b : Segment) (rest : List Segment) (name : List ℕ)
    → (is_unit a.role ≡ true → a.name ≡ name → ⊥)
    → (is_unit b.role ≡ true → b.name ≡ name → ⊥) → Named rest name
    → Named (a ∷ b ∷ rest) name
none_named a b rest name f g h zero q e u n = let s = same a q e in
    f (ap (λ (x : Segment). is_unit x.role) s ∙ u) (ap (λ (x : Segment). x.name) s ∙ n)
none_named a b rest name f g h (suc zero) q e u n = let s = same b q e in
    g (ap (λ (x : Segment). is_unit x.role) s ∙ u) (ap (λ (x : Segment). x.name) s ∙ n)
none_named a b rest name f g h (suc (suc k)) q e u n = h k q e u n

-- slot 8 of the plain segment TOOLS is not the slot of a unit of that name
pub a_plain_segment_is_no_unit : IsSlotOf with_plain tools 8 → ⊥
unfolding own_segments added_segments empty_slots segments
a_plain_segment_is_no_unit t = none_named demo_segment util_segment (tools_segment ∷ []) tools
    (λ u n. false≢true u) (λ u n. util_tools n) last t.0 t.1 t.2 t.3.0 t.3.1
  where
    last : Named (tools_segment ∷ []) tools
    last zero q e u n = let s = same tools_segment q e in
        no_unit (ap (λ (x : Segment). is_unit x.role) s ∙ u)
    last (suc k) q e u n = cc

-- slot 7, which UTIL has, is not the slot of a unit AUX
pub not_the_unit_of_another_name : IsSlotOf pair aux 7 → ⊥
unfolding own_segments added_segments empty_slots segments
not_the_unit_of_another_name t = none_named demo_segment util_segment [] aux
    (λ u n. false≢true u) (λ u n. util_aux n) none t.0 t.1 t.2 t.3.0 t.3.1
  where
    none : Named [] aux
    none k q e u n = cc

-- slot 1, which the host's segment has, is not the slot of the unit UTIL
pub not_another_slot : IsSlotOf pair util 1 → ⊥
unfolding own_segments added_segments empty_slots segments
not_another_slot t = go t.0 t.1 t.2 t.3.0 t.3.2
  where
    go : (k : ℕ) (q : Segment) → slice_get (demo_segment ∷ util_segment ∷ []) k ≡ Some q
        → is_unit q.role ≡ true → q.slot ≡ 1 → ⊥
    go zero q e u at = no_unit (ap (λ (x : Segment). is_unit x.role) (same demo_segment q e) ∙ u)
    go (suc zero) q e u at = let h : 7 ≡ 1 =
        ap (λ (x : Segment). x.slot) (same util_segment q e) ∙ at in omega (arith, h)
    go (suc (suc k)) q e u at = cc

-- values
pub not_public : (next value : ℕ) → ◌≡◌ {A = Body} (Eof next) (PublDef value) → ⊥
not_public next value e = cc

constant_is : (a b : ℕ) → ◌≡◌ {A = Body} (ConstDef a) (PublDef b) → ⊥
constant_is a b e = cc

-- where the first of two records is no PUBLDEF of this name and value and the second none of this
-- value, neither is one
pub body_is : (k : ℕ) (a b d : Record) → slice_get (a ∷ b ∷ []) k ≡ Some d
    → (name : List ℕ) (value : ℕ) → d.name ≡ name → d.body ≡ PublDef value
    → (a.name ≡ name → a.body ≡ PublDef value → ⊥)
    → (b.body ≡ PublDef value → ⊥) → ⊥
body_is zero a b d e name value n is f g = let s = same a d e in
    f (ap (λ (x : Record). x.name) s ∙ n) (ap (λ (x : Record). x.body) s ∙ is)
body_is (suc zero) a b d e name value n is f g = let s = same b d e in
    g (ap (λ (x : Record). x.body) s ∙ is)
body_is (suc (suc k)) a b d e name value n is f g = cc

-- a PUBLDEF record of a unit gives its name no value
pub a_unit_defines_nothing : IsPublic with_unused state 9 → ⊥
a_unit_defines_nothing t = body_is t.0 (record { name = count; body = PublDef 3 })
    (record { name = blank_name; body = Eof 8 }) t.1
    (of_first demo_segment (unused ∷ []) none t.0 t.1 t.2) state 9 t.3.0 t.3.1
    (λ n e. count_state n) (λ e. not_public 8 9 e)
  where
    unused : Segment
    unused = record util_segment { records = record { name = state; body = PublDef 9 } ∷ [] }

    none : (k : ℕ) (s : Segment) → slice_get (unused ∷ []) k ≡ Some s
        → is_host s.role ≡ true → ⊥
    none zero s e is = let h = ap (λ (x : Segment). is_host x.role) (same unused s e) ∙ is in cc
    none (suc k) s e is = cc

-- a CONSTDEF record of the host gives its name no public value
pub a_constant_is_not_public : IsPublic with_constant count 3 → ⊥
a_constant_is_not_public t =
    go t.0 t.1 (of_first (record demo_segment
    { records = record { name = count; body = ConstDef 3 } ∷ [] }) []
    (λ k s e is. nothing k s e) t.0 t.1 t.2) t.3.1
  where
    nothing : (k : ℕ) (s : Segment) → slice_get [] k ≡ Some s → ⊥
    nothing k s e = cc

    go : (k : ℕ) (d : Record) → slice_get (record { name = count; body = ConstDef 3 } ∷ []) k
        ≡ Some d → d.body ≡ PublDef 3 → ⊥
    go zero d e is = constant_is 3 3 (ap (λ (x : Record). x.body)
        (same (record { name = count; body = ConstDef 3 }) d e) ∙ is)
    go (suc k) d e is = cc

-- base offsets
other_base : (a b : ℕ) → ◌≡◌ {A = Body} (Eof a) (Eof b) → a ≡ b
other_base a b e = cc

definition_is : (a b : ℕ) → ◌≡◌ {A = Body} (PublDef a) (Eof b) → ⊥
definition_is a b e = cc

-- the base offset of the pair is 8
pub base_of_pair : (base : ℕ) → IsBase pair base → 8 ≡ base
unfolding own_segments added_segments empty_slots segments
base_of_pair base t = go t.0 t.1 (of_first demo_segment (util_segment ∷ []) no_host t.0 t.1 t.2)
    t.3
  where
    go : (k : ℕ) (r : Record) → slice_get demo_segment.records k ≡ Some r
        → r.body ≡ Eof base → 8 ≡ base
    go zero r e is = absurd (definition_is 3 base
        (ap (λ (x : Record). x.body) (same (record { name = count; body = PublDef 3 }) r e)
        ∙ is))
    go (suc zero) r e is = other_base 8 base
        (ap (λ (x : Record). x.body) (same (record { name = blank_name; body = Eof 8 }) r e)
        ∙ is)
    go (suc (suc k)) r e is = absurd (cc)

-- operands
pub not_the_slot_of_another_unit : Becomes three using_segment 0 aux (UnitRef (2 ∷ [])) 2
    (7 ∷ []) → ⊥
unfolding own_segments added_segments empty_slots segments
not_the_slot_of_another_unit t = go t.0 (heads _ _ _ _ t.2) t.1.0 t.1.1 t.1.2 t.1.3.0 t.1.3.1
    t.1.3.2
  where
    go : (slot : ℕ) → 7 ≡ slot → (k : ℕ) (q : Segment)
        → slice_get (demo_segment ∷ using_segment ∷ aux_segment ∷ []) k ≡ Some q
        → is_unit q.role ≡ true → q.name ≡ aux → q.slot ≡ slot → ⊥
    go slot h zero q e u n at =
        no_unit (ap (λ (x : Segment). is_unit x.role) (same demo_segment q e) ∙ u)
    go slot h (suc zero) q e u n at = util_aux
        (ap (λ (x : Segment). x.name) (same using_segment q e) ∙ n)
    go slot h (suc (suc zero)) q e u n at = let a : 8 ≡ slot =
        ap (λ (x : Segment). x.slot) (same aux_segment q e) ∙ at in omega (arith, a, h)
    go slot h (suc (suc (suc k))) q e u n at = cc
