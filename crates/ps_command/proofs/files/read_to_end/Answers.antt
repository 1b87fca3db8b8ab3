use Rattle.std.proofs.Common.{arith, ◌≡◌, ◌++◌, rules, take, sym, ap, ◌∙◌, subst, append-nil}
use Rattle.std.proofs.lemmas.Grind.{common_steps}
use Rattle.std.specs.Io.KnownBytes.{Consumes}
use Rattle.std.proofs.KnownBytes.{Consumes-trans, Consumes-whole}
use Rattle.ps_command.proofs.files.read_to_end.Goals as goal

pub returns-then-n-eq0-clause-whole : goal.returns-then-n-eq0-clause-whole
returns-then-n-eq0-clause-whole g c =
    let all = c.read.all.items in
    let buf = c.read-in-read.new.buf in
    let read = c.in-Ok.ensures.bytes in
    let moved = Consumes-trans _ _ _ all (take c.in-Ok.n buf) c.read.invariant.1 read.0 in
    Consumes-whole _ _ (all ++ take c.in-Ok.n buf) (λ xs. all ≡ xs) moved
    (read.1 c.if-n-eq0.true (search rules))
    (sym (ap (λ m. all ++ take m buf) c.if-n-eq0.true ∙ append-nil all))

pub read-preserved : goal.read-preserved
read-preserved g c =
    let all = c.read.all.items in
    let taken = take c.in-Ok.n c.read-in-read.new.buf in
    let grown : c.extend_from_slice.new.self.items ≡ all ++ taken = search rules in (
      search rules,
      subst (Consumes _ _) (sym grown)
          (Consumes-trans _ _ _ all taken c.read.invariant.1 c.in-Ok.ensures.bytes.0),
      grind (arith, common_steps, grown),
    )
