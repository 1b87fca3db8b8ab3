use Rattle.ps_resolve.proofs.Vocabulary.{arith, ◌≡◌, ◌+◌, ◌++◌, ◌∙◌, [], ◌∷◌, List, ℕ, ap, sym, subst, bytes_eq, not-false, not-true, list_any, is_private_reference}
use Rattle.ps_resolve.proofs.EarlierNames.{Scans, scan_end, scan_found, scan_more, scan_on, scans}
use Rattle.ps_reading.proofs.NumberedRecords.{one, none}
use Rattle.ps_resolve.proofs.namesakes.first_again.Goals as goal
use Rattle.ps_resolve.proofs.namesakes.first_again.Goals.{else-is_private-via-then-is_private+in_ok-insert+else-not-branch, else-is_private-via-else-is_private}

pub loop-rec-init : goal.loop-rec-init
loop-rec-init g c =
    let all = c.args.records.now in
    grind (arith, scans is_private_reference all)

pub returns-then-not-branch-clause-found : goal.returns-then-not-branch-clause-found
returns-then-not-branch-clause-found g c =
    let step = one c.loop-rec.invariant c.in-Some.ensures.steps in
    scan_found _ _ _ _ _ _ step.2 (sym c.is_private.ensures ∙ c.if-is_private.true)
    (not-false _ (sym c.in_ok-insert.ensures.added ∙ c.if-not-branch.true))

pub loop-rec-preserved : goal.loop-rec-preserved
loop-rec-preserved g c =
    let all = c.args.records.now in
    let seen = c.loop-rec.names.keys in
    let rec = c.in-Some.rec in
    let r = c.in-Some.record in
    let step = one c.loop-rec.invariant c.in-Some.ensures.steps in
    elim c.else-is_private.branch [
      | else-is_private-via-then-is_private+in_ok-insert+else-not-branch w ↦
          let is = sym c.is_private.ensures ∙ w.if-is_private.true in
          let new = not-true (list_any (bytes_eq r.name) seen)
          (sym w.in_ok-insert.ensures.added ∙ w.if-not-branch.false) in
          let keys : c.else-is_private.names.keys ≡ seen ++ r.name ∷ [] = grind arith in (
            rec + 1,
            step.0,
            step.1,
            subst
                (λ (ks : List (List ℕ)). Scans is_private_reference all ks (rec + 1) step.0)
                (sym keys) (scan_more _ _ _ _ _ _ step.2 is new),
          )
      | else-is_private-via-else-is_private w ↦
          let no = sym c.is_private.ensures ∙ w.if-is_private.false in
          let keys : c.else-is_private.names.keys ≡ seen = ap (λ v. v.keys) w.names-is in (
            rec + 1,
            step.0,
            step.1,
            subst
                (λ (ks : List (List ℕ)). Scans is_private_reference all ks (rec + 1) step.0)
                (sym keys) (scan_on _ _ _ _ _ _ step.2 no),
          )
    ]

pub returns-clause-found : goal.returns-clause-found
returns-clause-found g c =
    let end = none c.loop-rec.invariant c.in-None.ensures.steps.0 in
    scan_end _ _ _ end.0 end.1
