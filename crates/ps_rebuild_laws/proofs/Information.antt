-- Link information is read up to its end mark.
use Rattle.ps_rebuild_laws.proofs.Vocabulary.{AreSpelled, Body, IsBody, List, None, OneSpelling, Order, Record, Spells, [], arith, drop, drop-append-le, get_or_append_left, length, length-append, map, range_with_len, reading, refl, refs_of, size_of, suc, sym, take-append-le, word_at, zero, ℕ, ◌*◌, ◌++◌, ◌+◌, ◌/◌, ◌<◌, ◌∙◌, ◌∷◌, ◌≡◌, ◌≤◌}
use Rattle.ps_linkinfo.proofs.ReferenceWords.{refs_len}

-- what is read of bytes is read of them with more after them
module _ (order : Order) (xs more : List ℕ) where
  word_more : (i : ℕ) → i + 1 < length xs → word_at order (xs ++ more) i
      ≡ word_at order xs i
  word_more i h = rw (
    get_or_append_left xs more 0 i (omega (arith, h)),
    get_or_append_left xs more 0 (i + 1) h,
  ) refl

  words_more : (a n : ℕ) → 16 + 2 * (a + n) ≤ length xs
      → map (λ i. word_at order (xs ++ more) (16 + 2 * i)) (range_with_len a n)
      ≡ map (λ i. word_at order xs (16 + 2 * i)) (range_with_len a n)
  words_more a zero h = refl
  words_more a (suc n) h = λ j. word_more (16 + 2 * a) (omega (arith, h)) j
      ∷ words_more (a + 1) n (omega (arith, h)) j

  body_more : (body : Body) → 16 + 16 * ((length (refs_of body) + 7) / 8) ≤ length xs
      → IsBody order xs body → IsBody order (xs ++ more) body
  body_more body h t =
      let kind = word_more 8 (omega (arith, h)) in let format = word_more 10 (omega (arith, h)) in
      let count = word_more 12 (omega (arith, h)) in let words = word_more 14 (omega (arith, h)) in
      let list = words_more 0 (length (refs_of body)) (omega (arith, h)) in
      grind (arith, kind, format, count, words, list, refs_len order xs)

spelled_more : (order : Order) (rs : List Record) (xs more : List ℕ) → AreSpelled order xs rs
    → AreSpelled order (xs ++ more) rs
spelled_more order [] xs more t = tt
spelled_more order (r ∷ rs) xs more (t, ts) =
    let w = t.whole in (
      record {
        whole = omega (arith, w, length-append xs more);
        name = t.name ∙ sym (take-append-le 8 xs more (omega (arith, w)));
        body = body_more order xs more r.body w t.body;
      },
      rw (drop-append-le (size_of r) xs more w)
          (spelled_more order rs (drop (size_of r) xs) more ts),
    )

-- what follows an end mark is not read
pub same_reading : OneSpelling → (order : Order) (read rest more : List ℕ) (rs : List Record)
    → Spells order read rs → reading order (read ++ rest) ≡ reading order (read ++ more)
same_reading law order read rest more rs t = by rest ∙ sym (by more)
  where
    by : (more : List ℕ) → reading order (read ++ more) ≡ (rs, None)
    by more = (law order (read ++ more) rs).0
        (record { spelled = spelled_more order rs read more t.spelled; ends = t.ends })
