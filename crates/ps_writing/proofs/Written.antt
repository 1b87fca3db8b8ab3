-- Text that is added piece by piece: what was added so far, and what is left of all.
use Rattle.std.proofs.Common.{◌≡◌, ℕ, ◌+◌, ◌-◌, ◌<◌, ◌≤◌, List, [], ◌∷◌, ◌++◌, length, drop, append_assoc, append-nil, sym, subst, ◌∙◌, ap, arith}
use Rattle.ps_writing.proofs.Vocabulary.{flat_map, range_with_len, drop_all}
use Rattle.ps_writing.specs.Adding.{Adds}

infixl 30 ◌⨾◌
module _ {S : Type 0} {added : S → List ℕ → S → Type 0} where
  -- nothing, one text after another, and a text that is another one by its bytes
  pub adds_none : {a : S} → Adds added a [] a
  adds_none {a = a} = record { after = λ first before h. rw (← (append-nil before)) at h }

  pub ◌⨾◌ : {a b c : S} {xs ys : List ℕ} → Adds added a xs b → Adds added b ys c
      → Adds added a (xs ++ ys) c
  ◌⨾◌ {c = c} {xs = xs} {ys = ys} h k = record {
    after =
        λ first before e. subst (λ (bs : List ℕ). added first bs c) (append_assoc before xs ys)
        (k.after first (before ++ xs) (h.after first before e));
  }

  pub adds_is : {a b : S} {xs ys : List ℕ}
      → xs ≡ ys → Adds added a xs b → Adds added a ys b
  adds_is {a = a} {b = b} e h = rw e at h

  -- what was added to a writer that is as it was at first
  pub adds_first : {a b : S} {xs : List ℕ} → Adds added a xs b → added a [] a → added a xs b
  adds_first {a = a} h e = h.after a [] e

-- a part of the text was added, and the rest is still to be
pub record Written {S : Type 0} (added : S → List ℕ → S → Type 0) (f : S)
    (all rest : List ℕ) (g : S) : Type 0 where
  pub done : List ℕ
  pub split : done ++ rest ≡ all
  pub wrote : Adds added f done g

module _ {S : Type 0} {added : S → List ℕ → S → Type 0} {f : S} {all rest : List ℕ} where
  pub none_yet : rest ≡ all → Written added f all rest f
  none_yet e = record { done = []; split = e; wrote = adds_none }

  -- where the text that is left begins with a part and this part is added, what is after it is left
  pub some_more : {g h : S} {here left : List ℕ} → left ≡ here ++ rest
      → Written added f all left g → Adds added g here h → Written added f all rest h
  some_more {here = here} e w more = record {
    done = w.done ++ here;
    split = append_assoc w.done here rest
        ∙ (ap (λ bs. w.done ++ bs) (sym e) ∙ w.split);
    wrote = w.wrote ⨾ more;
  }

  -- where nothing is left, all was added
  pub all_written : {g : S} → rest ≡ [] → Written added f all rest g → Adds added f all g
  all_written e w = grind (arith, adds_is, append-nil)

  -- a writer that takes no more has taken what is left as well
  pub all_stopped : {g : S} → Written added f all rest g → Adds added g rest g
      → Adds added f all g
  all_stopped w stays = adds_is w.split (w.wrote ⨾ stays)

module _ (line_of : ℕ → List ℕ) (i n : ℕ) where
  -- the lines of the slots from i on
  pub slots_left : i < n → flat_map line_of (range_with_len i (n - i))
      ≡ line_of i ++ flat_map line_of (range_with_len (i + 1) (n - (i + 1)))
  slots_left lt = grind arith

  pub slots_over : n ≤ i → flat_map line_of (range_with_len i (n - i)) ≡ []
  slots_over le = grind arith

module _ {X : Type 0} (line_of : X → List ℕ) (xs : List X) (i : ℕ) where
  -- the lines of the items from i on
  pub items_left : (x : X) → drop i xs ≡ x ∷ drop (i + 1) xs
      → flat_map line_of (drop i xs) ≡ line_of x ++ flat_map line_of (drop (i + 1) xs)
  items_left x h = ap (λ ys. flat_map line_of ys) h

  pub items_over : length xs ≤ i → flat_map line_of (drop i xs) ≡ []
  items_over le = ap (λ ys. flat_map line_of ys) (drop_all i xs le)
