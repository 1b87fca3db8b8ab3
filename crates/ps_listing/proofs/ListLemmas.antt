-- Lists and results alone: what std lacks.
use Rattle.ps_listing.proofs.Vocabulary.{◌≡◌, ℕ, suc, ◌+◌, ◌-◌, ◌<◌, List, ◌++◌, true, Option, Some, None, append_assoc, append-nil, length, length-append, ap, arith, is_some, Result, Ok, Err, IfErr, option_to_list, filter_map, range_with_len}

-- what holds by itself holds of an error
pub of_error : {T E : Type 0} (r : Result T E) {P : Type 0} → P → IfErr r (λ _. P)
of_error (Ok x) p = tt
of_error (Err y) p = p

-- what is found at the numbers up to n: that of those below i, and then of the others
module _ {X : Type 0} (f : ℕ → Option X) (all old : List X) (n i : ℕ) where
  -- what is found at one number more
  pub one_more : (o : Option X) → i < n → f i ≡ o
      → all ≡ old ++ filter_map f (range_with_len i (n - i))
      → all ≡ (old ++ option_to_list o)
      ++ filter_map f (range_with_len (i + 1) (n - (i + 1)))
  one_more None lt is h = let left : n - i ≡ suc (n - (i + 1)) = omega arith in
      rw append-nil (rw (left, is) at h)
  one_more (Some x) lt is h = let left : n - i ≡ suc (n - (i + 1)) = omega arith in
      rw append_assoc (rw (left, is) at h)

  pub none_more : i < n → f i ≡ None → all ≡ old ++ filter_map f (range_with_len i (n - i))
      → all ≡ old ++ filter_map f (range_with_len (i + 1) (n - (i + 1)))
  none_more lt is h = rw append-nil at (one_more None lt is h)

  -- where one is found, there is one
  pub some_found : (o : Option X) → i < n → f i ≡ o → is_some o ≡ true
      → all ≡ old ++ filter_map f (range_with_len i (n - i)) → 0 < length all
  some_found None lt is some h = cc
  some_found (Some x) lt is some h =
      let long = simp length-append at (ap length (one_more (Some x) lt is h)) in omega arith

  -- after the last number
  pub no_more : n - i ≡ 0 → all ≡ old ++ filter_map f (range_with_len i (n - i)) → all ≡ old
  no_more left h = rw (left, append-nil) at h
