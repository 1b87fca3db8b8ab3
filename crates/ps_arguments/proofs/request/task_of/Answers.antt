use Rattle.std.proofs.Common.{◌≡◌, Some, codes, inl, inr, refl, rules}
use Rattle.std.proofs.lemmas.Result.{IfErr-weaker}
use Rattle.clap.specs.Words.{found_of, rows_of, subcommand_rows_of}
use Rattle.ps_arguments.proofs.request.task_of.Goals as goal

pub returns-in-link-clause-wrong : goal.returns-in-link-clause-wrong
returns-in-link-clause-wrong g c =
    let named : subcommand_rows_of c.args.matches.now
    ≡ Some (codes "link", rows_of (found_of c.in-Some.found.now)) = search rules in
    rw named (IfErr-weaker c.link_of.result _ _ (λ e why. elim why [
      | inl memory ↦ inl memory
      | inr wrong ↦ inr (inl (refl, wrong))
    ])
    c.link_of.ensures.wrong)

pub returns-in-map-clause-wrong : goal.returns-in-map-clause-wrong
returns-in-map-clause-wrong g c =
    let named : subcommand_rows_of c.args.matches.now
    ≡ Some (codes "map", rows_of (found_of c.in-Some.found.now)) = search rules in
    rw named (IfErr-weaker c.map_of.result _ _ (λ e why. elim why [
      | inl memory ↦ inl memory
      | inr wrong ↦ inr (inr (inl (refl, wrong)))
    ])
    c.map_of.ensures.wrong)

pub returns-in-check-clause-wrong : goal.returns-in-check-clause-wrong
returns-in-check-clause-wrong g c =
    let named : subcommand_rows_of c.args.matches.now
    ≡ Some (codes "check", rows_of (found_of c.in-Some.found.now)) = search rules in
    rw named (IfErr-weaker c.check_of.result _ _ (λ e why. elim why [
      | inl memory ↦ inl memory
      | inr wrong ↦ inr (inr (inr (inr (inl (refl, wrong)))))
    ])
    c.check_of.ensures.wrong)

pub returns-in-show-clause-wrong : goal.returns-in-show-clause-wrong
returns-in-show-clause-wrong g c =
    let named : subcommand_rows_of c.args.matches.now
    ≡ Some (codes "show", rows_of (found_of c.in-Some.found.now)) = search rules in
    rw named (IfErr-weaker c.show_of.result _ _ (λ e wrong. inr (inr (inr (inl (refl, wrong)))))
    c.show_of.ensures.wrong)

pub returns-in-list-clause-wrong : goal.returns-in-list-clause-wrong
returns-in-list-clause-wrong g c =
    IfErr-weaker c.list_of.result _ _ (λ e memory. inl memory) c.list_of.ensures.memory
