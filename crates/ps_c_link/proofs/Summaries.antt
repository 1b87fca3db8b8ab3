-- What a linked file has, in numbers, is told as it is.
use Rattle.std.proofs.Common.{◌≡◌, ◌≤◌, ◌∙◌, ◌+◌, ◌*◌, ℕ, List, [], ◌∷◌, Option, Some, None, ap, arith, length}
use Rattle.std.specs.List.{cons_option, filter_map}
use Rattle.ps_codefile.specs.Dictionary.{slots}
use Rattle.ps_resolve.specs.Added.{segment_at, segments}
use Rattle.ps_resolve.specs.LinkedBytes.{segments_of}
use Rattle.ps_resolve.specs.Sources.{order_of}
use Rattle.ps_linkfile.specs.LinkedFile.{LinkedFile, all_blocks, summary_of}
use Rattle.ps_c_link.specs.Answers.{capped, capped_answer, linked_answer}
use Rattle.ps_c_link.specs.declared.answer.Answer.{Answer}
use Rattle.ps_c_link.specs.declared.answer.TheConstants.{NO_NUMBER}
use Rattle.ps_c_link.specs.declared.linking.TheConstants.{LINKED_MAX}

-- what some items give is no more than they are
few_given : {X Y : Type 0} (f : X → Option Y) (xs : List X)
    → length (filter_map f xs) ≤ length xs
few_given f [] = omega arith
few_given {X} {Y} f (x ∷ xs) = by (f x) (few_given f xs)
  where
    by : (o : Option Y) → length (filter_map f xs) ≤ length xs
        → length (cons_option o (filter_map f xs)) ≤ length (x ∷ xs)
    by None h = omega (arith, h)
    by (Some y) h = omega (arith, h)

-- a link has a segment for each slot at most
few_segments : (host : List ℕ) (libs : List (List ℕ)) → length (segments_of host libs) ≤ 16
unfolding segments
few_segments host libs = few_given (segment_at (order_of host) host libs) slots

few_slots : (n : ℕ) → n ≤ 16 → n ≤ NO_NUMBER
few_slots n le = omega (arith, le)

few_blocks : (n bytes : ℕ) → bytes ≡ 512 * (1 + n) → bytes ≤ 524800 → 1 + n ≤ NO_NUMBER
few_blocks n bytes e most = omega (arith, e, most)

-- a count that is not above the highest number of 32 bits is told as it is
exactly : (count : ℕ) → count ≤ NO_NUMBER → capped count ≡ count
exactly count le = grind (arith, le)

pub is_exact : (host : List ℕ) (libs : List (List ℕ)) (file : List ℕ) → LinkedFile host libs file
    → length file ≤ LINKED_MAX → (size : ℕ)
    → capped_answer (summary_of host libs) size ≡ linked_answer (summary_of host libs) size
is_exact host libs file linked most size =
    let s = summary_of host libs in
    let with_counts : ℕ → ℕ → Answer =
    λ segments blocks. record (linked_answer s size) { segments = segments; blocks = blocks } in
    ap (λ (n : ℕ). with_counts n (capped s.blocks))
    (exactly s.segments (few_slots (length (segments_of host libs)) (few_segments host libs)))
    ∙ ap (λ (n : ℕ). with_counts s.segments n) (exactly s.blocks
    (few_blocks (all_blocks (segments_of host libs)) (length file) linked.size most))
