-- What is known of names by what is known of their parts.
use Rattle.std.proofs.Common.{◌≡◌, ◌<◌, ◌≤◌, ◌+◌, ◌++◌, ℕ, List, [], ◌∷◌, Bor, Result, Ok, Err, ◌∙◌, ap, arith, get_or, length, refl, subst, sym, suc, take, drop}
use Rattle.std.specs.Prelude.{◌↔◌, All, IsUtf8, IfOk, Vec}
use Rattle.std.proofs.lemmas.List.{drop_all, drop_more, get_or-map, length-map, map-append, take_all, take_more}
use Rattle.std.proofs.lemmas.List.Elements.{All-cons, All-get_or, All-head, All-map, All-nil, All-tail}
use Rattle.ps_resolve.specs.Sources.{contents}
use Rattle.ps_c_link.specs.Libraries.{split}

-- there is a part for each length
length-split : (bytes ns : List ℕ) → length (split bytes ns) ≡ length ns
length-split bytes [] = refl
length-split bytes (n ∷ ns) = ap (λ (k : ℕ). suc k) (length-split (drop n bytes) ns)

-- there is a name for each length
as_many : (names lengths : List ℕ) (parts : List (Bor (List ℕ)))
    → contents parts ≡ split names lengths → length parts ≡ length lengths
as_many names lengths parts e = sym (length-map parts (λ (part : Bor (List ℕ)). part.now))
    ∙ (ap (λ (texts : List (List ℕ)). length texts) e ∙ length-split names lengths)

-- the texts of one name more
pub one_more : (names texts more : List (Bor (List ℕ))) (i : ℕ) (d text : Bor (List ℕ))
    → i < length names → contents texts ≡ contents (take i names)
    → text.now ≡ (get_or names i d).now → more ≡ texts ++ text ∷ []
    → contents more ≡ contents (take (i + 1) names)
one_more names texts more i d text lt so_far same pushed =
    let one : List (Bor (List ℕ)) = get_or names i d ∷ [] in
    ap contents pushed ∙ (map-append (λ name. name.now) texts (text ∷ [])
    ∙ (rw (so_far, same) (sym (ap contents (take_more names i d lt)
    ∙ map-append (λ name. name.now) (take i names) one))))

-- a part that is no text
pub no_text : (names : List (Bor (List ℕ))) (i : ℕ) (d : Bor (List ℕ)) → i < length names
    → (IsUtf8 (get_or names i d).now → ⊥) → All IsUtf8 (contents names) → ⊥
no_text names i d lt none all =
    let mapped : get_or (contents names) i [] ≡ (get_or names i d).now =
    get_or-map (λ (name : Bor (List ℕ)). name.now) names i d [] lt in
    let within : i < length (contents names) =
    omega (arith, lt, length-map names (λ (name : Bor (List ℕ)). name.now)) in
    none (subst IsUtf8 mapped (All-get_or IsUtf8 (contents names) i [] within all))

-- all parts are texts
pub all_texts : (names : List (Bor (List ℕ))) (i : ℕ) → length names ≤ i
    → All (λ name. IsUtf8 name.now) (take i names) → All IsUtf8 (contents names)
all_texts names i end all = All-map IsUtf8 (λ (name : Bor (List ℕ)). name.now) names
    (subst (λ (ns : List (Bor (List ℕ))). All (λ name. IsUtf8 name.now) ns)
    (take_all i names end) all)

-- there is a text for each length
pub many_texts : {A E : Type 0} (names lengths : List ℕ)
    (r : Result (Vec (Bor (List ℕ)) A) E)
    → IfOk r (λ texts. contents texts.items ≡ split names lengths)
    → IfOk r (λ texts. length texts.items ≡ length lengths)
many_texts names lengths (Ok texts) cut = as_many names lengths texts.items cut
many_texts names lengths (Err error) cut = tt

-- the names that are left are the first of them and those behind it
module _ (rest left : List ℕ) (n : ℕ) (more : List ℕ) (is : left ≡ n ∷ more) where
  utf8_left : IsUtf8 (take n rest)
      → All IsUtf8 (split (drop n rest) more) ↔ All IsUtf8 (split rest left)
  utf8_left first = (
    λ all. subst (λ (ns : List ℕ). All IsUtf8 (split rest ns)) (sym is)
        (All-cons IsUtf8 (take n rest) (split (drop n rest) more) first all),
    λ all. All-tail IsUtf8 (take n rest) (split (drop n rest) more)
        (subst (λ (ns : List ℕ). All IsUtf8 (split rest ns)) is all),
  )

  wrong_left : (IsUtf8 (take n rest) → ⊥) → All IsUtf8 (split rest left) → ⊥
  wrong_left wrong all = wrong (All-head IsUtf8 (take n rest) (split (drop n rest) more)
      (subst (λ (ns : List ℕ). All IsUtf8 (split rest ns)) is all))

-- where no length is left, no name is
none_left : (rest lengths : List ℕ) (i : ℕ) → length lengths ≤ i
    → All IsUtf8 (split rest (drop i lengths))
none_left rest lengths i end = rw (drop_all i lengths end) (All-nil IsUtf8)

-- of all names those that are left are looked at, from this length on
module _ (names rest lengths : List ℕ) (i : ℕ)
    (all : All IsUtf8 (split rest (drop i lengths)) ↔ All IsUtf8 (split names lengths)) where
  pub next_name : (behind : List ℕ) → i < length lengths
      → behind ≡ drop (get_or lengths i 0) rest → IsUtf8 (take (get_or lengths i 0) rest)
      → All IsUtf8 (split behind (drop (i + 1) lengths)) ↔ All IsUtf8 (split names lengths)
  next_name behind lt is first =
      let here = utf8_left rest (drop i lengths) (get_or lengths i 0) (drop (i + 1) lengths)
      (drop_more lengths i 0 lt) first in
      rw is (λ t. all.0 (here.0 t), λ t. here.1 (all.1 t))

  pub wrong_name : i < length lengths → (IsUtf8 (take (get_or lengths i 0) rest) → ⊥)
      → All IsUtf8 (split names lengths) → ⊥
  wrong_name lt wrong t = wrong_left rest (drop i lengths) (get_or lengths i 0)
      (drop (i + 1) lengths) (drop_more lengths i 0 lt) wrong (all.1 t)
