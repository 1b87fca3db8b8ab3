use Rattle.std.proofs.Common.{◌≡◌, ◌+◌, ◌<◌, List, [], ◌∷◌, ◌++◌, Bor, ap, arith, get_or, length, map, take, ℕ}
use Rattle.std.proofs.lemmas.List.{map-append, map_more}
use Rattle.std.proofs.lemmas.List.Elements.{AllZip-push}
use Rattle.std.proofs.lemmas.Result.{err_from_is_err_and}
use Rattle.ps_command.proofs.Failed.{of_library}
use Rattle.ps_command.specs.Failures.{IsUnreadable}
use Rattle.ps_command.proofs.files.read_inputs.Goals as goal

-- what a read past the end would give
no_path : Bor (List ℕ)
no_path = record { ref_ptr = (0, 0); now = [] }

pub loop-path-preserved : goal.loop-path-preserved
unfolding no_path
loop-path-preserved g c =
    let i = c.loop-path.path-index in
    let paths : List (Bor (List ℕ)) = c.args.inputs.now.libraries.items in
    let whole : c.deref-path-items.result.now ≡ paths = c.deref-path-items.ensures.value in
    let lt : i < length paths =
    omega (arith, ap (λ (ps : List (Bor (List ℕ))). length ps) whole, c.loop-path-test.true)
    in
    let more : map (λ path. path.now) (take (i + 1) paths)
    ≡ map (λ path. path.now) (take i paths) ++ (get_or paths i no_path).now ∷ [] =
    map_more _ paths i no_path lt in
    let pushed : map (λ library. library.items) c.push.new.self.items
    ≡ map (λ library. library.items) c.loop-path.libraries.items
    ++ c.in_ok-read_at.field-0.items ∷ [] =
    rw c.in_ok-push.ensures.items (map-append _ c.loop-path.libraries.items
    (c.in_ok-read_at.field-0 ∷ [])) in
    rw (more, pushed) (AllZip-push _ _ _ _ _ c.loop-path.invariant
    (rw whole at c.in_ok-read_at.ensures.whole))

pub returns-in_err-read_at-clause-unread : goal.returns-in_err-read_at-clause-unread
unfolding no_path
returns-in_err-read_at-clause-unread g c =
    let told = err_from_is_err_and c.from_residual-in_err-read_at.result
    c.from_residual-in_err-read_at.ensures.1 in
    let i = c.loop-path.path-index in
    let paths : List (Bor (List ℕ)) = c.args.inputs.now.libraries.items in
    let whole : c.deref-path-items.result.now ≡ paths = c.deref-path-items.ensures.value in
    let lt : i < length paths =
    omega (arith, ap (λ (ps : List (Bor (List ℕ))). length ps) whole, c.loop-path-test.true)
    in
    let unread = rw whole at c.in_err-read_at.ensures.unread in
    rw told.1 (λ other. of_library (IsUnreadable (g.R.CodeFiles.world c.args.rt.now))
    c.args.inputs.now.host.now paths i no_path lt (unread (rw told.2 at other)))
