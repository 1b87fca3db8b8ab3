-- Where no fault applies, the host has one segment of its own, no two of its definitions have a
-- name in common, and one base offset.
use Rattle.ps_resolve.specs.Standing.Definitions.{HasEarlierNamesake}
use Rattle.ps_laws.proofs.Looking.{is_there}
use Rattle.ps_laws.proofs.Vocabulary.{same_Some, cons_option, option_map_or, false≢true, next_of, Body, Record, segments_of, is_host, Segment, order_of, host_of, host_records, NoneStands, OfDefinitions, in_record, ◌≡◌, ℕ, zero, suc, ◌+◌, ◌<◌, List, [], ◌∷◌, length, Some, None, Bool, true, false, refl, sym, ap, ◌∙◌, is_some, arith, filter_map, slice_get, unwrap_or, is_definition, next_in, EndsOnce, is_end, is_eof, PublDef, Eof, reading_fault, IsHostRecord, IsPublic, IsBase, has_host}
use Rattle.ps_lists.proofs.Items.{find_in, find_passes, not_apart}
use Rattle.ps_laws.proofs.OfLink.{of_link}
use Rattle.ps_laws.proofs.OneName.{of_segments}
use Rattle.ps_laws.proofs.OnePlace.{host_linked}
use Rattle.ps_laws.proofs.SoundCodes.{ends_once}
use Rattle.ps_words.specs.declared.fault.Reason.TheVariants as reason

-- the EOFMARK of link information is its last record
last_at : (rs : List Record) → EndsOnce rs → (k : ℕ) (r : Record)
    → slice_get rs k ≡ Some r → is_eof r ≡ true → k + 1 ≡ length rs
last_at [] h k r e is = absurd h
last_at (q ∷ []) h zero r e is = refl
last_at (q ∷ []) h (suc k) r e is = absurd (cc)
last_at (q ∷ p ∷ rs) h zero r e is = grind (arith, false≢true, same_Some)
last_at (q ∷ p ∷ rs) h (suc k) r e is = grind (arith, last_at (p ∷ rs) h.1 k r e is)

-- the last record gives the base offset
base_in : (rs : List Record) → EndsOnce rs
    → (k : ℕ) × (r : Record) × (slice_get rs k ≡ Some r) × (r.body ≡ Eof (next_of rs))
base_in [] h = absurd h
base_in (r ∷ []) h = (0, r, refl, at r.body h)
  where
    at : (b : Body) → is_end b ≡ true
        → b ≡ Eof (unwrap_or (slice_get (cons_option (next_in b) []) 0) 0)
    at b h = grind arith
base_in (r ∷ q ∷ rs) h = let t = base_in (q ∷ rs) h.1 in
    (suc t.0, t.1, t.2, t.3 ∙ ap (λ n. Eof n) (sym (at r.body h.0)))
  where
    at : (b : Body) → is_end b ≡ false → unwrap_or (slice_get (cons_option (next_in b)
        (filter_map (λ (p : Record). next_in p.body) (q ∷ rs))) 0) 0 ≡ next_of (q ∷ rs)
    at b h = grind arith

module _ (host : List ℕ) (libs : List (List ℕ)) (none : NoneStands host libs)
    (read : reading_fault host libs ≡ None) where
  -- there is one at most
  found : (k : ℕ) (s : Segment) → slice_get (segments_of host libs) k ≡ Some s
      → is_host s.role ≡ true → host_of (segments_of host libs) ≡ Some s
  found k s e is = (of_link host libs read s (of_segments _ host libs k s e)).one_host is

  -- there is one
  pub host_there : (k : ℕ) × (s : Segment) × (slice_get (segments_of host libs) k ≡ Some s)
      × (is_host s.role ≡ true)
  host_there =
      let s = is_there _ (λ e. false≢true (sym (ap is_some e) ∙ has_host host libs read)) in
      let test : Segment → Bool = λ q. is_host q.role in
      let i = find_in test _ s.0 s.1 in
      (i.0, s.0, i.1, find_passes test (segments_of host libs) s.0 s.1)

  its_records : (s : Segment) → host_of (segments_of host libs) ≡ Some s
      → host_records (segments_of host libs) ≡ s.records
  its_records s e = ap (λ o. option_map_or (λ (q : Segment). q.records) o []) e

  ends : (k : ℕ) (s : Segment) → slice_get (segments_of host libs) k ≡ Some s
      → is_host s.role ≡ true → EndsOnce s.records
  ends k s e is =
      let file = (of_link host libs read s (of_segments (order_of host) host libs k s e)).file in
      ends_once (order_of host) host libs s file (host_linked s.role is)

  -- the base offset of its end mark
  pub base_there : IsBase (segments_of host libs) (next_of (host_records (segments_of host libs)))
  base_there = grind (arith, host_there, base_in, ends, its_records, found)

  -- a record of the host, by its number
  of_one_host : (rec other : ℕ) (r q : Record) (t : IsHostRecord (segments_of host libs) rec r)
      (u : IsHostRecord (segments_of host libs) other q) → slice_get t.1.records other ≡ Some q
  of_one_host rec other r q t u = grind (arith, found)

  one_record : (rec other : ℕ) (r q : Record) → IsHostRecord (segments_of host libs) rec r
      → IsHostRecord (segments_of host libs) other q → rec ≡ other → r ≡ q
  one_record rec other r q t u e = let at = of_one_host rec other r q t u in let b = t.3.1 in cc

  pub one_base : (a b : ℕ) → IsBase (segments_of host libs) a
      → IsBase (segments_of host libs) b → a ≡ b
  one_base a b t u =
      let once = ends t.2.0 t.2.1 t.2.2 t.2.3.0 in
      let x = last_at t.2.1.records once t.0 t.1 t.2.3.1 (ap is_end t.3) in
      let y =
      last_at t.2.1.records once u.0 u.1 (of_one_host t.0 u.0 t.1 u.1 t.2 u.2) (ap is_end u.3) in
      let both : ◌≡◌ {A = Body} (Eof a) (Eof b) = sym t.3 ∙ (ap (λ (r : Record). r.body)
      (one_record t.0 u.0 t.1 u.1 t.2 u.2 (omega (arith, x, y))) ∙ u.3) in
      cc

  -- two definitions of the host
  again : (s : Segment) → host_of (segments_of host libs) ≡ Some s
      → (k l : ℕ) (d e : Record) (v w : ℕ) → slice_get s.records k ≡ Some d
      → slice_get s.records l ≡ Some e → d.name ≡ e.name → d.body ≡ PublDef v
      → e.body ≡ PublDef w → k < l → ⊥
  again s is k l d e v w x y same p q lt =
      let twice : HasEarlierNamesake is_definition s.records l e =
      (ap is_definition q, (k, lt, (d, x, (ap is_definition p, same)))) in
      none OfDefinitions (in_record 0 s.slot l reason.DoubledDefinition)
      (record { stands = (s, is, (l, e, y, (refl, twice))) })

  pub one_public : (name : List ℕ) (a b : ℕ) → IsPublic (segments_of host libs) name a
      → IsPublic (segments_of host libs) name b → a ≡ b
  one_public name a b t u =
      let is = found t.2.0 t.2.1 t.2.2 t.2.3.0 in
      let there = of_one_host t.0 u.0 t.1 u.1 t.2 u.2 in
      let at = not_apart t.0 u.0
      (again t.2.1 is t.0 u.0 t.1 u.1 a b t.2.3.1 there (t.3.0 ∙ sym u.3.0) t.3.1 u.3.1)
      (again t.2.1 is u.0 t.0 u.1 t.1 b a there t.2.3.1 (u.3.0 ∙ sym t.3.0) u.3.1 t.3.1) in
      let both : ◌≡◌ {A = Body} (PublDef a) (PublDef b) = sym t.3.1
      ∙ ap (λ (d : Record). d.body) (one_record t.0 u.0 t.1 u.1 t.2 u.2 at) ∙ u.3.1 in
      cc
