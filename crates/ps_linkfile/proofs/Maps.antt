-- The map of a plan is the map of its link.
use Rattle.std.proofs.Common.{arith, ◌≡◌, ℕ, List, ◌++◌, ap}
use Rattle.ps_linkfile.proofs.Vocabulary.{Planned, IsPlan}
use Rattle.ps_linkfile.specs.MapText.{map_of, map_in, json_end, map_json_in, map_json_of, members_in, members_of, plan_rows, rows_of}
use Rattle.ps_writing.specs.declared.rows.Form.{Form}
use Rattle.ps_writing.specs.declared.rows.Form.TheVariants.{Lines, Json}

-- the map that a plan of a link stands for is the map of the link
plan_map : (form : Form) (host : List ℕ) (libs : List (List ℕ)) (plan : Planned)
    → IsPlan host libs plan → plan_rows form plan ≡ rows_of form host libs
plan_map form host libs plan h = grind arith

module _ (host : List ℕ) (libs : List (List ℕ)) (plan : Planned) where
  pub plan_text : IsPlan host libs plan → map_in plan ≡ map_of host libs
  unfolding map_of
  plan_text h = plan_map Lines host libs plan h

  pub members_are : IsPlan host libs plan → members_in plan ≡ members_of host libs
  unfolding members_of
  members_are h = plan_map Json host libs plan h

  pub plan_json : IsPlan host libs plan → map_json_in plan ≡ map_json_of host libs
  plan_json h = ap (λ bs. bs ++ json_end) (members_are h)
