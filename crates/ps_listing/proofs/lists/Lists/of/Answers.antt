use Rattle.std.proofs.Common.{◌≡◌, ◌≤◌, ◌<◌, ◌⊎◌, ◌∷◌, ◌++◌, [], ℕ, List, Bor, append-nil, inl, inr, drop, length, ap, rules, arith}
use Rattle.std.specs.Prelude.{min}
use Rattle.ps_resolve.specs.Sources.{contents}
use Rattle.ps_listing.specs.FileLists.{Listed}
use Rattle.ps_listing.proofs.FilesListed.{listed_more_at, none_listed, one_ends}
use Rattle.ps_listing.proofs.lists.Lists.of.Goals as goal

pub loop-index-preserved : goal.loop-index-preserved
loop-index-preserved g c =
    let paths : List (Bor (List ℕ)) = c.args.paths.now in
    let libs : List (Bor (List ℕ)) = c.args.libs.now in
    let i : ℕ = c.loop-index.index in
    let all_paths = c.args.host_path.now ∷ contents paths in
    let all_files = c.args.host.now ∷ contents libs in
    let in_paths : i < length paths = omega (arith, c.loop-index-test.true, c.min-count.ensures) in
    let in_libs : i < length libs = omega (arith, c.loop-index-test.true, c.min-count.ensures) in
    let none : Bor (List ℕ) = record { ref_ptr = (0, 0); now = [] } in
    let one : Listed = c.in_ok-of-2.field-0 in
    let before : List Listed = c.loop-index.files.items in
    let more = listed_more_at c.args.how all_paths all_files paths libs i none one before
    c.in_ok-of-2.ensures.how c.in_ok-of-2.ensures.path c.in_ok-of-2.ensures.file
    c.in_ok-of-2.ensures.phrase in_paths in_libs
    c.loop-index.invariant in
    let items : c.push-in-loop-index.new.self.items ≡ before ++ one ∷ [] = search rules in
    rw items more

pub returns-clause-files : goal.returns-clause-files
returns-clause-files g c =
    let paths : List (Bor (List ℕ)) = c.args.paths.now in
    let libs : List (Bor (List ℕ)) = c.args.libs.now in
    let i : ℕ = c.loop-index.index in
    let short : min (length paths) (length libs) ≤ i =
    omega (arith, c.loop-index-test.false, c.min-count.ensures) in
    let ended : (drop i paths ≡ []) ⊎ (drop i libs ≡ []) = one_ends paths libs i short in
    let none = none_listed c.args.how (contents (drop i paths)) (contents (drop i libs))
    (of_texts ended) in
    rw append-nil at (c.loop-index.invariant.rest [] none)
  where
    of_texts : {ps fs : List (Bor (List ℕ))} → (ps ≡ []) ⊎ (fs ≡ [])
        → (contents ps ≡ []) ⊎ (contents fs ≡ [])
    of_texts (inl e) = inl (ap contents e)
    of_texts (inr e) = inr (ap contents e)
