-- What a link wrote, by the steps that it takes.
use Rattle.std.proofs.Common.{Err, IfErr, IfOk, IfSome, List, None, Ok, Option, Result, Some, false, refl, ℕ}
use Rattle.ps_linkfile.specs.LinkedFile.{LinkedFile}
use Rattle.ps_linkfile.specs.Writing.{file_in}
use Rattle.ps_resolve.specs.declared.linkage.Stop.{Stop}
use Rattle.ps_resolve.specs.declared.linkage.Stop.TheVariants as stop
use Rattle.ps_writing.specs.declared.rows.Form.{Form}
use Rattle.ps_output_files.proofs.Logs.{all_weaker}
use Rattle.ps_output_files.proofs.Unwritten.{fails_weaker}
use Rattle.ps_output_files.specs.Links.{AddsBefore, AddsBeforePrepared, AddsPrepared, IsMapIn, IsMapOf, IsMapText, MapIsApart, WritesLink, map_path, unlinked_of}
use Rattle.ps_output_files.specs.Log.{Grows, took}
use Rattle.ps_output_files.specs.Prepared.{map_bytes, plan_of}
use Rattle.ps_output_files.specs.World.{World}
use Rattle.ps_arguments.specs.declared.outputs.Outputs.{Outputs}
use Rattle.ps_output_files.specs.declared.prepared.Prepared.{Prepared}
use Rattle.ps_output_files.specs.declared.unlinked.Unlinked.{Unlinked}
use Rattle.ps_output_files.specs.declared.unlinked.Unlinked.TheVariants as unlinked

-- the file of the map was found to be apart, once OUT was written
pub found_apart : {S : Type 0} (world : S → World) (map : Option (List ℕ)) (out file : List ℕ)
    (before between : S) → Grows (world before).log (world between).log (took out file)
    → IfSome map (λ path. (world between).one_file path out false)
    → MapIsApart world map out file before
found_apart world None out file before between wrote found = tt
found_apart world (Some path) out file before between wrote found = (between, wrote, found)

-- where a link is not even prepared, nothing is created
pub before_prepared : (asked : Outputs) (host : List ℕ) (libs : List (List ℕ)) (world : World)
    (why : Stop) → AddsBefore asked host libs world world (unlinked_of why)
before_prepared asked host libs world (stop.Refused f) = refl
before_prepared asked host libs world stop.Memory = refl

module _ {A : Type 0} (asked : Outputs) (p : Prepared A) (host : List ℕ) (libs : List (List ℕ))
    (linked : LinkedFile host libs (file_in (plan_of p)))
    (maps : (form : Form) → IsMapText asked.options.content form host libs (map_bytes form p)) where
  map_of_files : (text : List ℕ) → IsMapIn asked.options.form p text → IsMapOf asked host libs text
  map_of_files text is = rw is (maps asked.options.form)

  -- what was prepared is what the files link to, and its map theirs
  pub writes_link : {S T E : Type 0} (world : S → World) (before after : S) (r : Result T E)
      → IfOk r (λ _. AddsPrepared asked p (world before) (world after))
      → IfOk r (λ _. MapIsApart world (map_path asked) asked.out.now (file_in (plan_of p)) before)
      → IfOk r (λ _. WritesLink world asked host libs before after)
  writes_link world before after (Ok x) adds apart = (
    file_in (plan_of p),
    linked,
    all_weaker asked.out.now (map_path asked) (file_in (plan_of p)) (world before).log
        (world after).log map_of_files adds,
    apart,
  )
  writes_link world before after (Err e) adds apart = tt

  pub adds_before : {T : Type 0} (old new : World) (r : Result T Unlinked)
      → IfErr r (AddsBeforePrepared asked p old new) → IfErr r (AddsBefore asked host libs old new)
  adds_before old new (Ok x) left = tt
  adds_before old new (Err (unlinked.Refused f)) left = absurd left
  adds_before old new (Err unlinked.Memory) left = left
  adds_before old new (Err (unlinked.Write path)) left = (
    file_in (plan_of p),
    linked,
    fails_weaker old new asked.out.now (map_path asked) (file_in (plan_of p)) path.now map_of_files
        left,
  )
  adds_before old new (Err unlinked.StandardOutput) left = (
    file_in (plan_of p),
    linked,
    all_weaker asked.out.now (map_path asked) (file_in (plan_of p)) old.log new.log map_of_files
        left,
  )
