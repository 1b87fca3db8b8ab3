-- Files that are read like the samples, and libraries that have no name in common.
use Rattle.ps_examples.proofs.Vocabulary.{◌≡◌, ℕ, zero, suc, ◌<◌, List, [], ◌∷◌, map, Bool, true, false, refl, sym, ap, subst, ◌∙◌, arith, ◌==◌, ◌&&◌, not, slice_get, All, ◌≢◌, entry_at, is_filled, host, library, put_at, aux, demo_segment, util_segment, Segment, library_file, HasEntry, Little, SLOTS, ◌||◌, cases_lt, inl, inr}
use Rattle.std.specs.List.{range_with_len}
use Rattle.std.proofs.lemmas.Bool.Decides.{Decides-eqb}
use Rattle.std.proofs.lemmas.List.Elements.{All-cons, All-nil}
use Rattle.ps_examples.specs.ReadAlike.{library_elsewhere}
use Rattle.ps_rebuild_laws.proofs.StoredLines.{made_at}
use Rattle.ps_rebuild_laws.specs.Alike.{IsReadAlike, AreReadAlike, AreFilesAlike, HasSameCode, HasSameRecords}
use Rattle.ps_rebuild_laws.specs.Used.{AreUsedAlike, IsLookedForIn}
use Rattle.ps_examples.proofs.NotOrigins.{same, util_aux}

-- a test that no number below n passes
abbrev any_below : ℕ → (ℕ → Bool) → Bool
any_below zero test = false
any_below (suc n) test = test n || any_below n test

-- where no number below n passes a test, each of them fails it
fails : (n : ℕ) (test : ℕ → Bool) → any_below n test ≡ false → (i : ℕ) → i < n
    → test i ≡ false
fails zero test none i h = absurd (omega (arith, h))
fails (suc n) test none i h = elim (cases_lt i n) [
  | inl l ↦ fails n test (later (test n) none) i l
  | inr l ↦ (let e : n ≡ i = omega (arith, h, l) in
      subst (λ (k : ℕ). test k ≡ false) e (here (test n) none))
]
  where
    later : (b : Bool) → (b || any_below n test) ≡ false → any_below n test ≡ false
    later true e = absurd (cc)
    later false e = e

    here : (b : Bool) → (b || any_below n test) ≡ false → b ≡ false
    here true e = absurd (cc)
    here false e = refl

-- functions that give the same list give the same at each place
same_at : {A : Type 0} (f g : ℕ → A) → map f (range_with_len 0 SLOTS)
    ≡ map g (range_with_len 0 SLOTS) → (i : ℕ) → i < SLOTS → f i ≡ g i
same_at f g e i h =
    let x = sym (made_at f SLOTS i h) ∙ (ap (λ xs. slice_get xs i) e ∙ made_at g SLOTS i h) in
    cc

lone : (a b : Bool) → (a && not b) ≡ false → a ≡ true → b ≡ true
lone a b h e = grind arith

-- the only filled entry
only_filled : (file : List ℕ) → any_below SLOTS
    (λ k. is_filled (entry_at Little file k) && not (k == 2)) ≡ false → (i : ℕ) → i < SLOTS
    → is_filled (entry_at Little file i) ≡ true → i ≡ 2
only_filled file all i h filled = (Decides-eqb i 2).0 (lone (is_filled (entry_at Little file i))
    (i == 2) (fails SLOTS (λ k. is_filled (entry_at Little file k) && not (k == 2)) all i h)
    filled)

-- the library is read like the one whose unit is elsewhere
pub library_alike : IsReadAlike Little library library_elsewhere
library_alike = record {
  opened = refl;
  filled = same_at (λ k. is_filled (entry_at Little library k))
      (λ k. is_filled (entry_at Little library_elsewhere k)) refl;
  names = λ i h f. same_at (λ k. (entry_at Little library k).name)
      (λ k. (entry_at Little library_elsewhere k).name) refl i h;
  kinds = λ i h f. same_at (λ k. (entry_at Little library k).kind)
      (λ k. (entry_at Little library_elsewhere k).kind) refl i h;
  units = λ i h f k. subst (λ n. HasSameCode Little library library_elsewhere n
      × HasSameRecords Little library library_elsewhere n)
      (sym (only_filled library refl i h f)) (refl, refl);
}

-- a host is read like itself, where the libraries are read alike
pub host_alike : (libs others : List (List ℕ)) → AreReadAlike Little libs others
    → AreFilesAlike host host libs others
host_alike libs others like = record {
  heads = record { order = refl; names = λ slot h. refl; tail = refl };
  opened = refl;
  roles = λ slot h. refl;
  codes = λ slot h r e o. refl;
  records = λ slot h r e o n. refl;
  libraries = like;
}

abbrev pub of_aux : List ℕ
of_aux = put_at 80 aux library

-- the one filled entry of a file has the name
one_name : (file : List ℕ) → any_below SLOTS
    (λ k. is_filled (entry_at Little file k) && not (k == 2)) ≡ false → (name : List ℕ)
    → HasEntry Little name file → (entry_at Little file 2).name ≡ name
one_name file all name t =
    ap (λ k. (entry_at Little file k).name) (sym (only_filled file all t.0 t.1 t.2.0)) ∙ t.2.1

-- the library and one of AUX have no name in common
pub util_or_aux : (name : List ℕ) → HasEntry Little name library → HasEntry Little name of_aux
    → ⊥
util_or_aux name p q = util_aux (one_name library refl name p ∙ sym (one_name of_aux refl name q))

-- no segment of these is of file 1
pub not_of_file_1 : All (λ (s : Segment). s.file ≢ library_file 0)
    (demo_segment ∷ (record util_segment { file = 2 }) ∷ [])
not_of_file_1 = All-cons (λ (s : Segment). s.file ≢ library_file 0) demo_segment
    ((record util_segment { file = 2 }) ∷ []) (λ e. let h : 0 ≡ 1 = e in omega (arith, h))
    (All-cons (λ (s : Segment). s.file ≢ library_file 0) (record util_segment { file = 2 }) []
    (λ e. let h : 2 ≡ 1 = e in omega (arith, h))
    (All-nil (λ (s : Segment). s.file ≢ library_file 0)))

-- the library with another code of its unit
abbrev pub of_other_code : List ℕ
of_other_code = put_at 518 (0 ∷ 0 ∷ []) library

-- no unit is taken from file 2
not_in_file_2 : (name : List ℕ) → IsLookedForIn (demo_segment ∷ util_segment ∷ []) 2 name → ⊥
not_in_file_2 name (zero, s, e, p) =
    let role = ap (λ (x : Segment). x.role) (same demo_segment s e) ∙ p.0 in cc
not_in_file_2 name (suc zero, s, e, p) =
    let file : 1 ≡ s.file = ap (λ (x : Segment). x.file) (same util_segment s e) in
    let low = p.2 in omega (arith, file, low)
not_in_file_2 name (suc (suc k), s, e, p) = cc

-- the second library may have another code of the unit that the first gives
pub used_alike : AreUsedAlike Little (demo_segment ∷ util_segment ∷ []) 1 (library ∷ library ∷ [])
    (library ∷ of_other_code ∷ [])
used_alike = (
  record {
    opened = refl;
    entries = λ name looked. record {
      named = λ i h. refl;
      kinds = λ i h e. refl;
      units = λ i h e k. (refl, refl);
    };
  },
  (record { opened = refl; entries = λ name looked. absurd (not_in_file_2 name looked) }, tt),
)
