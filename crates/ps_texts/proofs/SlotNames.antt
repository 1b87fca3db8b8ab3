-- Names that are added one by one.
use Rattle.std.proofs.Common.{◌≡◌, ℕ, suc, ◌+◌, ◌-◌, ◌<◌, ◌≤◌, List, [], ◌∷◌, ◌++◌, drop, get_or, length, length-append, append_assoc, append-nil, Bool, true, false, true≢false, Option, Some, None, Result, Ok, Err, is_some, refl, sym, ◌∙◌, ap, arith, if◌then◌else◌}
use Rattle.std.specs.Prelude.{IfErr, option_to_list}
use Rattle.std.proofs.lemmas.List.{at_drop_more}
use Rattle.std.specs.List.{cons_option, filter_map, range_with_len}
use Rattle.ps_codefile.specs.declared.dictionary_layout.TheConstants.{SLOTS}
use Rattle.ps_texts.specs.UnitNames.{has_name, with_each, with_name}

-- what holds by itself holds of an error
pub of_error : {T E : Type 0} (r : Result T E) {P : Type 0} → P → IfErr r (λ _. P)
of_error (Ok x) p = tt
of_error (Err y) p = p

-- a list with one name more is no shorter
grown_by : (b : Bool) (names : List (List ℕ)) (name : List ℕ)
    → length names ≤ length (if b then names else names ++ name ∷ [])
grown_by true names name = omega arith
grown_by false names name = omega (arith, length-append names (name ∷ []))

grown : (names more : List (List ℕ)) → length names ≤ length (with_each names more)
grown names [] = omega arith
grown names (name ∷ more) = omega (
  arith,
  grown_by (has_name names name) names name,
  grown (with_name names name) more,
)

-- and not empty
some_by : (b : Bool) (m : List ℕ) (names : List (List ℕ)) (name : List ℕ)
    → 0 < length (if b then m ∷ names else (m ∷ names) ++ name ∷ [])
some_by true m names name = omega arith
some_by false m names name = omega arith

some_name : (names : List (List ℕ)) (name : List ℕ) → 0 < length (with_name names name)
some_name [] name = omega arith
some_name (m ∷ names) name = some_by (has_name (m ∷ names) name) m names name

-- where the first part has a name, the whole has
pub some_more : (names more : List (List ℕ)) → 0 < length names
    → 0 < length (with_each names more)
some_more names more some = omega (arith, some, grown names more)

-- a name that is found, or none, and the names after it
pub found_first : (old : List (List ℕ)) (o : Option (List ℕ)) (rest : List (List ℕ))
    → with_each old (cons_option o rest) ≡ with_each (with_each old (option_to_list o)) rest
found_first old None rest = refl
found_first old (Some name) rest = refl

-- where one is found, there is one
pub some_found : (old : List (List ℕ)) (o : Option (List ℕ)) (rest : List (List ℕ))
    → is_some o ≡ true → 0 < length (with_each old (cons_option o rest))
some_found old None rest some = absurd (true≢false (sym some))
some_found old (Some name) rest some =
    some_more (with_name old name) rest (some_name old name)

module _ (f : ℕ → Option (List ℕ)) (all old : List (List ℕ)) (i : ℕ) where
  -- what is found in one slot more, where each name is there once
  pub one_more : (new : List (List ℕ)) → i < SLOTS
      → new ≡ with_each old (option_to_list (f i))
      → all ≡ with_each old (filter_map f (range_with_len i (SLOTS - i)))
      → all ≡ with_each new (filter_map f (range_with_len (i + 1) (SLOTS - (i + 1))))
  one_more new lt is h =
      let left : SLOTS - i ≡ suc (SLOTS - (i + 1)) = omega arith in
      let rest : List (List ℕ) = filter_map f (range_with_len (i + 1) (SLOTS - (i + 1))) in
      h ∙ ap (λ (k : ℕ). with_each old (filter_map f (range_with_len i k))) left
      ∙ found_first old (f i) rest ∙ ap (λ (xs : List (List ℕ)). with_each xs rest) (sym is)

  pub one_found : i < SLOTS → is_some (f i) ≡ true
      → all ≡ with_each old (filter_map f (range_with_len i (SLOTS - i))) → 0 < length all
  one_found lt some h =
      let left : SLOTS - i ≡ suc (SLOTS - (i + 1)) = omega arith in
      let rest : List (List ℕ) = filter_map f (range_with_len (i + 1) (SLOTS - (i + 1))) in
      omega (
        arith,
        some_found old (f i) rest some,
        ap length (h
            ∙ ap (λ (k : ℕ). with_each old (filter_map f (range_with_len i k))) left),
      )

  -- the same of a list of all that are found
  pub one_more_had : (o : Option (List ℕ)) → i < SLOTS → f i ≡ o
      → all ≡ old ++ filter_map f (range_with_len i (SLOTS - i))
      → all ≡ (old ++ option_to_list o)
      ++ filter_map f (range_with_len (i + 1) (SLOTS - (i + 1)))
  one_more_had o lt is h =
      let left : SLOTS - i ≡ suc (SLOTS - (i + 1)) = omega arith in
      h ∙ ap (λ (k : ℕ). old ++ filter_map f (range_with_len i k)) left
      ∙ ap (λ (p : Option (List ℕ)). old ++ cons_option p rest) is ∙ at o
    where
      rest : List (List ℕ)
      rest = filter_map f (range_with_len (i + 1) (SLOTS - (i + 1)))

      at : (o : Option (List ℕ))
          → old ++ cons_option o rest ≡ (old ++ option_to_list o) ++ rest
      at None = ap (λ (xs : List (List ℕ)). xs ++ rest) (sym (append-nil old))
      at (Some name) = sym (append_assoc old (name ∷ []) rest)

  pub none_more_had : i < SLOTS → f i ≡ None
      → all ≡ old ++ filter_map f (range_with_len i (SLOTS - i))
      → all ≡ old ++ filter_map f (range_with_len (i + 1) (SLOTS - (i + 1)))
  none_more_had lt is h = one_more_had None lt is h
      ∙ ap (λ (xs : List (List ℕ)). xs
      ++ filter_map f (range_with_len (i + 1) (SLOTS - (i + 1))))
      (append-nil old)

  pub some_had : (name : List ℕ) → i < SLOTS → f i ≡ Some name
      → all ≡ old ++ filter_map f (range_with_len i (SLOTS - i)) → 0 < length all
  some_had name lt is h =
      let rest = filter_map f (range_with_len (i + 1) (SLOTS - (i + 1))) in
      omega (
        arith,
        ap length (one_more_had (Some name) lt is h),
        length-append (old ++ name ∷ []) rest,
        length-append old (name ∷ []),
      )

-- each name once, of the items of a list
module _ {A : Type 0} (f : A → Option (List ℕ)) (xs : List A) (i : ℕ) (all old : List (List ℕ)) where
  pub item_found : (d : A) → i < length xs → is_some (f (get_or xs i d)) ≡ true
      → all ≡ with_each old (filter_map f (drop i xs)) → 0 < length all
  item_found d lt some h =
      let rest : List (List ℕ) = filter_map f (drop (i + 1) xs) in
      omega (
        arith,
        some_found old (f (get_or xs i d)) rest some,
        ap length (h ∙ at_drop_more (λ (ys : List A). with_each old (filter_map f ys)) xs i d lt),
      )
