-- What follows of a link that was asked for.
use Rattle.std.proofs.Common.{◌≡◌, ◌∷◌, Bool, List, None, Option, Some, arith, codes, false, inl, inr, map, refl, true, ℕ}
use Rattle.std.specs.Prelude.{option_map}
use Rattle.std.specs.List.{AllZip}
use Rattle.ps_arguments.specs.CommandLine.{Row, Text}
use Rattle.ps_arguments.specs.Outputs.{form_of, has_references, is_json, link_options, map_content}
use Rattle.ps_arguments.specs.Requests.{NamesLink, map_file}
use Rattle.ps_arguments.specs.declared.request.Link.{Link}
use Rattle.ps_linkfile.specs.LinkedFile.{summary_of}
use Rattle.ps_output_files.proofs.Logs.{all_weaker, part_weaker}
use Rattle.ps_output_files.proofs.Unwritten.{fails_weaker}
use Rattle.ps_output_files.specs.Links.{IsMapText, IsPlaceOf, MapIsApart}
use Rattle.ps_output_files.specs.Log.{AddsAll, AddsPart}
use Rattle.ps_output_files.specs.Places.{IsPlace, PrintsAt}
use Rattle.ps_output_files.specs.SummaryLine.{summary_text}
use Rattle.ps_output_files.specs.Unwritten.{FailsToWrite}
use Rattle.ps_output_files.specs.World.{Reads, World, unknown_world}
use Rattle.ps_output_files.specs.declared.linking.Place.{Place}
use Rattle.ps_output_files.specs.declared.linking.Place.TheVariants as place
use Rattle.ps_output_files.specs.declared.unlinked.Unlinked.{Unlinked}
use Rattle.ps_output_files.specs.declared.unlinked.Unlinked.TheVariants as unlinked
use Rattle.ps_writing.specs.Prefixes.{AppendsPrefix}
use Rattle.ps_resolve.specs.Standing.{NoneStands}
use Rattle.ps_texts.specs.Texts.{IsTextOf}
use Rattle.ps_words.specs.declared.fault.Fault.{Fault}
use Rattle.ps_command.specs.Failures.{FailsRead, FailsToLink}
use Rattle.ps_command.specs.Links.{FailsLink, IsLinked, LeavesPart, is_document}
use Rattle.ps_command.specs.Printed.{IsMapNamed, LinkLeavesPart, LinksOrRefuses, Prints, TellsOnError, map_kind}
use Rattle.ps_command.specs.Statuses.{ended_status}
use Rattle.ps_command.specs.declared.ended.Ended.{Ended}
use Rattle.ps_command.specs.declared.ended.Ended.TheVariants as ended

-- the map of a link is a text of its files, in each of its forms
as_text : (references json : Bool) (paths : List Text) (host : List ℕ) (libs : List (List ℕ))
    (text : List ℕ) → NoneStands host libs
    → IsMapText (map_content references) (form_of json) host libs text
    → IsTextOf (map_kind references json) false paths host libs 0 text
as_text false false paths host libs text none is = (none, refl, is)
as_text false true paths host libs text none is = (none, refl, is)
as_text true false paths host libs text none is = (none, refl, is)
as_text true true paths host libs text none is = (none, refl, is)

-- a document is asked for where the form is that of the flag
as_document : (json : Bool) → is_document (form_of json) ≡ json
as_document false = refl
as_document true = refl

-- so where `--json` is among the options
by_json : (rows : List Row) → is_document (link_options rows).form ≡ is_json rows
by_json rows = as_document (is_json rows)

-- what is refused is no fault of standard output
pub not_output : (f : Fault) (e : Unlinked) → e ≡ unlinked.Refused f
    → e ≡ unlinked.StandardOutput → ⊥
not_output f e is output = grind arith

-- with nothing known of its files, a link that wrote them did so at any time
apart_unknown : {S T : Type 0} (map : Option Text) (out : Text) (file : List ℕ) (s : S) (t : T)
    → MapIsApart {S = S} (λ _. unknown_world) map out file s
    → MapIsApart {S = T} (λ _. unknown_world) map out file t
apart_unknown None out file s t apart = tt
apart_unknown (Some map) out file s t apart = (t, tt, tt)

-- what is printed of unknown files is so at any time
pub prints_unknown : {S T : Type 0} (named : Option (Text × List Row)) (status : ℕ) (before after : S)
    (now : T) (Same : Type 0) (old new old_err new_err : Option (List ℕ))
    → Prints {S = S} (λ _. unknown_world) named status before after Same old new old_err new_err
    → Prints {S = T} (λ _. unknown_world) named status now now Same old new old_err new_err
prints_unknown named status before after now Same old new old_err new_err prints = (
  prints.0,
  prints.1,
  elim prints.2 [
    | inl link ↦ inl (
      link.0,
      link.1,
      elim link.2 [
        | inl done ↦ inl (
          done.0,
          (
            done.1.0,
            done.1.1,
            done.1.2,
            done.1.3,
            done.1.4,
            done.1.5,
            (
              done.1.6.0,
              done.1.6.1,
              done.1.6.2,
              done.1.6.3,
              done.1.6.4,
              done.1.6.5,
              done.1.6.6,
              done.1.6.7,
              apart_unknown (map_file prints.0) done.1.0 done.1.6.0 before now done.1.6.8,
            ),
            done.1.7,
            done.1.8,
          ),
        )
        | inr refused ↦ inr (refused.0, refused.1, refused.2, refused.3, refl)
      ],
    )
    | inr other ↦ inr other
  ],
)

module _ {S A : Type 0} (world : S → World) (before : S) (link : Link A) (rows : List Row)
    (names : NamesLink (world before).one_file link rows) where
  -- where the summary of the link that is asked for is printed
  pub placed : (where_to : Place) → IsPlaceOf (world before) link.outputs where_to
      → IsPlace (world before).leads (link_options rows) link.outputs.out.now
      (map_file rows) where_to
  placed where_to is =
      let found : IsPlace (world before).leads link.outputs.options link.outputs.out.now
      (option_map (λ path. path.now) link.outputs.map) where_to = is in
      rw (names.outputs.options, names.outputs.map_file) at found

  -- the text of its map is that which `map` prints
  mapped : (paths : List Text) (host : List ℕ) (libs : List (List ℕ)) → NoneStands host libs
      → (text : List ℕ)
      → IsMapText link.outputs.options.content link.outputs.options.form host libs text
      → IsMapNamed rows paths host libs text
  mapped paths host libs none text is =
      let named : IsMapText (map_content (has_references rows)) (form_of (is_json rows)) host libs
      text = rw names.outputs.options at is in
      as_text (has_references rows) (is_json rows) paths host libs text none named

  -- a link of files that were read ends as the link that is asked for
  pub links_or_refuses : (after : S) (host : List ℕ) (libs : List (List ℕ)) (e : Ended)
      (Same : Type 0) (old new old_err new_err : Option (List ℕ))
      → Reads (world before) link.inputs.host.now host
      → AllZip (Reads (world before)) (map (λ path. path.now) link.inputs.libraries.items) libs
      → IsLinked world link
      (link.inputs.host.now ∷ map (λ path. path.now) link.inputs.libraries.items) host libs e
      before after Same old new old_err new_err
      → LinksOrRefuses world rows link.inputs.host.now (ended_status e) before after Same old new
      old_err new_err
  links_or_refuses after host libs ended.Done Same old new old_err new_err read all linked =
      let paths = map (λ path. path.now) link.inputs.libraries.items in
      let wrote = linked.0 in
      let file = option_map (λ path. path.now) link.outputs.map in
      let adds : AddsAll link.outputs.out.now file wrote.0
      (IsMapNamed rows (link.inputs.host.now ∷ paths) host libs) (world before).log
      (world after).log = all_weaker link.outputs.out.now file wrote.0 (world before).log (world after).log
      (mapped (link.inputs.host.now ∷ paths) host libs wrote.1.accepted) wrote.2 in
      let apart : MapIsApart world file link.outputs.out.now wrote.0 before = wrote.3 in
      let told : PrintsAt linked.1.0 (summary_text link.outputs.options.form (summary_of host libs))
      old new old_err new_err = linked.1.2 in
      inl (
        refl,
        (
          link.outputs.out.now,
          paths,
          host,
          libs,
          linked.1.0,
          names.files,
          (
            wrote.0,
            read,
            all,
            wrote.1,
            names.no_library,
            names.no_host,
            names.apart,
            rw names.outputs.map_file at adds,
            rw names.outputs.map_file at apart,
          ),
          placed linked.1.0 linked.1.1,
          rw names.outputs.options at told,
        ),
      )
  links_or_refuses after host libs ended.Refused Same old new old_err new_err read all refused =
      let paths = map (λ path. path.now) link.inputs.libraries.items in
      let printed = rw (names.outputs.options, by_json rows) at refused.2 in
      inr (
        link.outputs.out.now,
        paths,
        names.files,
        (refl, host, libs, refused.0, read, all, refused.1, printed, refused.3),
        refused.4,
      )
  links_or_refuses after host libs ended.Unread Same old new old_err new_err read all none =
      absurd none

  -- a link of files that were read leaves a part of what the link that is asked for writes
  pub leaves_part : (after : S) (host : List ℕ) (libs : List (List ℕ))
      → Reads (world before) link.inputs.host.now host
      → AllZip (Reads (world before)) (map (λ path. path.now) link.inputs.libraries.items) libs
      → LeavesPart link host libs (world before).log (world after).log
      → LinkLeavesPart world rows link.inputs.host.now before after
  leaves_part after host libs read all part =
      let paths = map (λ path. path.now) link.inputs.libraries.items in
      let file = option_map (λ path. path.now) link.outputs.map in
      let adds : AddsPart link.outputs.out.now file part.0
      (IsMapNamed rows (link.inputs.host.now ∷ paths) host libs) (world before).log
      (world after).log = part_weaker link.outputs.out.now file part.0 (world before).log (world after).log
      (mapped (link.inputs.host.now ∷ paths) host libs part.1.accepted) part.2 in (
        link.outputs.out.now,
        paths,
        host,
        libs,
        part.0,
        names.files,
        read,
        all,
        part.1,
        rw names.outputs.map_file at adds,
      )

  -- a link of files that were read fails as the link that is asked for
  fails_read : (after : S) (host : List ℕ) (libs : List (List ℕ)) (old new : Option (List ℕ))
      → FailsLink world link
      (link.inputs.host.now ∷ map (λ path. path.now) link.inputs.libraries.items) host libs before
      after old new
      → FailsRead world rows link.inputs.host.now link.outputs.out.now
      (map (λ path. path.now) link.inputs.libraries.items) host libs before after old new
  fails_read after host libs old new (inl refused) =
      inl (
        refused.0,
        refused.1,
        rw (names.outputs.options, by_json rows) at refused.2,
        refused.3,
      )
  fails_read after host libs old new (inr wrote) =
      let paths = map (λ path. path.now) link.inputs.libraries.items in
      let file = option_map (λ path. path.now) link.outputs.map in
      let none = wrote.1.accepted in
      inr (
        wrote.0,
        wrote.1,
        elim wrote.2 [
          | inl part ↦
              let fails : FailsToWrite (world before) (world after) link.outputs.out.now file wrote.0
              (IsMapNamed rows (link.inputs.host.now ∷ paths) host libs) part.0 =
              fails_weaker (world before) (world after) link.outputs.out.now file wrote.0 part.0
              (mapped (link.inputs.host.now ∷ paths) host libs none) part.1 in
              inl (part.0, rw names.outputs.map_file at fails, part.2)
          | inr all ↦
              let adds : AddsAll link.outputs.out.now file wrote.0
              (IsMapNamed rows (link.inputs.host.now ∷ paths) host libs) (world before).log
              (world after).log = all_weaker link.outputs.out.now file wrote.0 (world before).log
              (world after).log (mapped (link.inputs.host.now ∷ paths) host libs none) all.0 in
              let some : AppendsPrefix old new
              (summary_text link.outputs.options.form (summary_of host libs)) = all.2 in
              inr (
                rw names.outputs.map_file at adds,
                placed place.Output all.1,
                rw names.outputs.options at some,
              )
        ],
      )

  pub fails_to_link : (after : S) (host : List ℕ) (libs : List (List ℕ)) (old new : Option (List ℕ))
      → Reads (world before) link.inputs.host.now host
      → AllZip (Reads (world before)) (map (λ path. path.now) link.inputs.libraries.items) libs
      → FailsLink world link
      (link.inputs.host.now ∷ map (λ path. path.now) link.inputs.libraries.items) host libs before
      after old new
      → FailsToLink world rows link.inputs.host.now before after old new
  fails_to_link after host libs old new read all failed = (
    link.outputs.out.now,
    map (λ path. path.now) link.inputs.libraries.items,
    names.files,
    inr (host, libs, read, all, fails_read after host libs old new failed),
  )

  -- its summary is printed on standard error
  pub tells : (named : Option (Text × List Row)) → named ≡ Some (codes "link", rows)
      → IsPlaceOf (world before) link.outputs place.Error → TellsOnError (world before) named
  tells named is where_to = (
    rows,
    link.outputs.out.now,
    map (λ path. path.now) link.inputs.libraries.items,
    is,
    names.files,
    placed place.Error where_to,
  )
