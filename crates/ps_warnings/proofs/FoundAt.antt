-- What was found at a place is in the list of it, and is all of it.
use Rattle.std.proofs.Common.{◌≡◌, ℕ, ◌<◌, ◌≤◌, zero, Bool, true, false, List, [], ◌∷◌, Option, Some, None, refl, arith}
use Rattle.std.specs.Prelude.{if◌then◌else◌}
use Rattle.ps_lists.proofs.Items.{Ascends, In}
use Rattle.ps_warnings.specs.Found.{Stated, found_at, found_in_record, is_about_link}
use Rattle.ps_warnings.specs.WarnedFiles.{IsAt}
use Rattle.ps_warnings.specs.declared.finding.Finding.{Finding}

abbrev pub made : List ℕ → Option (List ℕ) → Option ℕ → Finding → Stated
made path segment rec f = record { path = path; segment = segment; rec = rec; finding = f }

module _ (path : List ℕ) (segment : Option (List ℕ)) (rec : Option ℕ) where
  pub at_made : (f : Finding) → IsAt (made path segment rec f) path segment rec
  at_made f = record { path = refl; segment = refl; rec = refl }

  in_stated : (f : Finding) (b : Bool) → b ≡ true
      → In (made path segment rec f) (if b then made path segment rec f ∷ [] else [])
  in_stated f b h = rw h (zero, refl)

  pub in_found_at : (o : Option Finding) (f : Finding) → o ≡ Some f → is_about_link f ≡ true
      → In (made path segment rec f) (found_at path segment rec o)
  in_found_at o f e h = rw e (in_stated f (is_about_link f) h)

module _ (path : List ℕ) (segment : Option (List ℕ)) where
  pub in_in_record : (o : Option (ℕ × Finding)) (i : ℕ) (f : Finding) → o ≡ Some (i, f)
      → is_about_link f ≡ true
      → In (made path segment (Some i) f) (found_in_record path segment o)
  in_in_record o i f e h = rw e (in_stated path segment (Some i) f (is_about_link f) h)

-- what was found has this number, which is one of these
module _ (R : ℕ → Stated → Type 0) (a n b : ℕ) (low : a ≤ n) (high : n < b) (path : List ℕ)
    (segment : Option (List ℕ)) where
  stated_has : (rec : Option ℕ) (f : Finding) (t : Bool) → R n (made path segment rec f)
      → Ascends R a b (if t then made path segment rec f ∷ [] else [])
  stated_has rec f true r = (n, low, r, omega (arith, high))
  stated_has rec f false r = omega (arith, low, high)

  pub found_has : (rec : Option ℕ) (o : Option Finding)
      → ((f : Finding) → o ≡ Some f → R n (made path segment rec f))
      → Ascends R a b (found_at path segment rec o)
  found_has rec None r = omega (arith, low, high)
  found_has rec (Some f) r = stated_has rec f (is_about_link f) (r f refl)

  pub record_has : (o : Option (ℕ × Finding))
      → ((i : ℕ) (f : Finding) → o ≡ Some (i, f) → R n (made path segment (Some i) f))
      → Ascends R a b (found_in_record path segment o)
  record_has None r = omega (arith, low, high)
  record_has (Some p) r = stated_has (Some p.0) p.1 (is_about_link p.1) (r p.0 p.1 refl)
