-- What is found by the name of an argument, from the rows of what clap found.
use Rattle.clap.proofs.WalkLemmas.{first_value-rows, raw_values-rows}

pub ruleset by_rows = (first_value-rows, raw_values-rows)
