-- Lines and items of findings, by the values of the findings.
use Rattle.std.proofs.Common.{◌≡◌, ◌+◌, ◌∷◌, [], ℕ, List, ap, map, refl}
use Rattle.std.proofs.lemmas.List.Folds.{flat_map-map}
use Rattle.std.specs.List.{enumerate_from, flat_map}
use Rattle.ps_writing.specs.Adding.{Adds}
use Rattle.ps_report.specs.ReportJson.{list_json}
use Rattle.ps_report.specs.Reported.{Said, said}
use Rattle.ps_report.specs.declared.finding.SaidFinding.{SaidFinding}

enumerated : {A : Type 0} (i : ℕ) (fs : List (SaidFinding A))
    → enumerate_from i (map said fs) ≡ map (λ p. (p.0, said p.1)) (enumerate_from i fs)
enumerated i [] = refl
enumerated i (f ∷ fs) = ap (λ (ps : List (ℕ × Said)). (i, said f) ∷ ps) (enumerated (i + 1) fs)

module _ {S : Type 0} {added : S → List ℕ → S → Type 0} {A : Type 0} {a b : S} where
  -- what is added of each finding is that of its value
  pub lines_said : (line : Said → List ℕ) (fs : List (SaidFinding A))
      → Adds added a (flat_map (λ f. line (said f)) fs) b
      → Adds added a (flat_map line (map said fs)) b
  lines_said line fs h = rw flat_map-map h

  -- and of each finding with its index
  pub rows_said : (item : ℕ × Said → List ℕ) (fs : List (SaidFinding A))
      → Adds added a (flat_map (λ p. item (p.0, said p.1)) (enumerate_from 0 fs)) b
      → Adds added a (flat_map item (enumerate_from 0 (map said fs))) b
  rows_said item fs h = rw (enumerated 0 fs, flat_map-map) h

pub same_list : {A : Type 0} {xs ys : List (SaidFinding A)} → xs ≡ ys
    → list_json (map said xs) ≡ list_json (map said ys)
same_list {A = A} e = ap (λ (fs : List (SaidFinding A)). list_json (map said fs)) e
