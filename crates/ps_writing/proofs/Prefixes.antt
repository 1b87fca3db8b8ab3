-- Prefixes of what is to be written.
use Rattle.ps_writing.proofs.Vocabulary.{Appends, AppendsPrefix, ◌≡◌, ℕ, ◌+◌, ◌-◌, List, [], ◌++◌, length, take, drop, Option, Some, None, Result, Ok, Err, OnErr, sym, ap, append_assoc, arith, length-drop, append-nil, take_all, take-append-drop}
use Rattle.std.proofs.Math.Seq.{take-append_seam, take-add}

-- what stays as it was grew by nothing
pub appends_none : (o : Option (List ℕ)) → Appends o o []
appends_none None = tt
appends_none (Some xs) = sym (append-nil xs)

-- two additions after one another
pub appends_twice : (a b c : Option (List ℕ)) (xs ys : List ℕ) → Appends a b xs
    → Appends b c ys → Appends a c (xs ++ ys)
appends_twice None b c xs ys h k = tt
appends_twice (Some xa) None c xs ys h k = absurd h
appends_twice (Some xa) (Some xb) None xs ys h k = absurd k
appends_twice (Some xa) (Some xb) (Some xc) xs ys h k = grind (arith, append_assoc)

-- a prefix and then a prefix of the rest
pub appends_more : (a b c : Option (List ℕ)) (i n : ℕ) (bs : List ℕ)
    → Appends a b (take i bs) → Appends b c (take n (take (length bs - i) (drop i bs)))
    → Appends a c (take (i + n) bs)
appends_more a b c i n bs h k = grind (arith, take_all, length-drop, take-add, appends_twice)

-- a prefix, with what is left
pub prefix_from : (a c : Option (List ℕ)) (prefix rest bs : List ℕ) → prefix ++ rest ≡ bs
    → Appends a c prefix → AppendsPrefix a c bs
prefix_from a c prefix rest bs e h = (length prefix, rw (← e, take-append_seam) h)

-- some bytes, and then a prefix of more, of which still more may follow
pub prefix_more : (a b c : Option (List ℕ)) (xs ys zs bs : List ℕ) → xs ++ (ys ++ zs) ≡ bs
    → Appends a b xs → AppendsPrefix b c ys → AppendsPrefix a c bs
prefix_more a b c xs ys zs bs e h k = prefix_from a c (xs ++ take k.0 ys) (drop k.0 ys ++ zs) bs
    (rw (
      append_assoc xs (take k.0 ys) (drop k.0 ys ++ zs),
      ← append_assoc (take k.0 ys) (drop k.0 ys) zs,
      take-append-drop,
    ) e) (appends_twice a b c xs (take k.0 ys) h k.1)

-- a prefix, of which more may follow
pub prefix_then : (a c : Option (List ℕ)) (ys zs : List ℕ) → AppendsPrefix a c ys
    → AppendsPrefix a c (ys ++ zs)
prefix_then a c ys zs k =
    prefix_from a c (take k.0 ys) (drop k.0 ys ++ zs) (ys ++ zs)
    (rw (← append_assoc (take k.0 ys) (drop k.0 ys) zs, take-append-drop)) k.1

-- some bytes, and then a prefix of the rest
pub prefix_last : (a b c : Option (List ℕ)) (xs ys : List ℕ) → Appends a b xs
    → AppendsPrefix b c ys → AppendsPrefix a c (xs ++ ys)
prefix_last a b c xs ys h k = prefix_more a b c xs ys [] (xs ++ ys)
    (ap (λ (us : List ℕ). xs ++ us) (append-nil ys)) h k

pub on_err_always : {T E P : Type 0} (r : Result T E) → P → OnErr r P
on_err_always (Ok x) p = tt
on_err_always (Err e) p = p
