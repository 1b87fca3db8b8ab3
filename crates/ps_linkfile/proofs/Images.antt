-- Lists that are a function of their places.
use Rattle.ps_linkfile.proofs.Vocabulary.{length-map-range_with_len, get_or-map-range_with_len, range_with_len, ◌≡◌, ℕ, zero, suc, ◌+◌, ◌<◌, List, ◌∷◌, ◌++◌, length, map, get_or, refl, sym, ◌∙◌, ap, arith, ext_get_or}

-- what is f of its place, from a on
pub image_is : (f : ℕ → ℕ) (a n : ℕ) (xs : List ℕ) → length xs ≡ n
    → ((k : ℕ) → k < n → get_or xs k 0 ≡ f (a + k)) → xs ≡ map f (range_with_len a n)
image_is f a n xs len h = ext_get_or 0 xs (map f (range_with_len a n))
    (len ∙ sym (length-map-range_with_len f a n)) (λ i lt. let within : i < n =
    omega arith in h i within ∙ sym (get_or-map-range_with_len f a n i (a + i) 0 within refl))

-- m places from a on, and n more
pub image_split : (f : ℕ → ℕ) (a m n k b : ℕ) → k ≡ m + n → b ≡ a + m
    → map f (range_with_len a k) ≡ map f (range_with_len a m) ++ map f (range_with_len b n)
image_split f a zero n k b e g = grind arith
image_split f a (suc m) n k b e g =
    let x : k ≡ suc (m + n) = omega arith in
    rw x (ap (λ (us : List ℕ). f a ∷ us)
    (image_split f (a + 1) m n (m + n) b refl (omega arith)))
