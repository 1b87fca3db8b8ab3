use Rattle.ps_resolve.proofs.Vocabulary.{arith, ◌≡◌, ℕ, ◌-◌, ◌++◌, ◌∷◌, ◌∙◌, List, Option, true, length, sym, ap, IsPermutation, option_to_list, All-permutation, IsPermutation-append_left, IsPermutation-trans, AreEdits, IsInside, Edit, Byte, Segment, data_size_edit, edits_of, PlaceState, same_Some, ProcedureTables, needs_linking, is_host, Known, records_edits}
use Rattle.ps_resolve.proofs.EditTables.{edits_apart}
use Rattle.ps_reading.proofs.FirstSlots.{none_mapped as map_none}
use Rattle.ps_resolve.proofs.SegmentEdits.{all_of, linked_links}
use Rattle.ps_resolve.proofs.ReservedEdits.{edits_inside, own_of_table}
use Rattle.ps_resolve.proofs.edits.segment_edits.Goals as goal

pub returns-in_ok-edits-in-Some : goal.returns-in_ok-edits-in-Some
returns-in_ok-edits-in-Some g c =
    let known : Known = c.args.link.now.names.now in
    let order = c.args.link.now.order in
    let v : Segment = c.args.segment.now in
    let code : List ℕ = v.code in
    let free : ℕ = c.args.free in
    let size : Edit = c.args.link.now.size in
    let own : Option Edit = data_size_edit (is_host v.role) size in
    let table = own_of_table order code (is_host v.role) size c.requires.table in
    let linked : needs_linking v.role ≡ true = (sym c.in-Some.ensures.linked) in
    let large = c.requires.sound.large linked in
    let sound = c.in_ok-table-in-Some.ensures.sound in
    let own_states : List PlaceState = c.in_ok-own-in-Some.own.states.items in
    let states : List PlaceState = c.in_ok-table-in-Some.table.states.items in
    let sorted : List Edit = c.in_ok-edits-in-Some.edits.items in
    let rest : List Edit = records_edits known code free v.records in
    let own_edits : List Edit = Byte v.slot (length code - 2) ∷ option_to_list own in
    let tables_is = c.procs-procedures.ensures
    ∙ same_Some _ _ (c.in-Some.ensures.tables ∙ c.requires.sound.kept linked) in
    let code_is : c.procs-procedures.result.code ≡ code =
    ap (λ (t : ProcedureTables). t.code) tables_is in
    let slot_is : c.slot.result ≡ v.slot = c.slot.ensures in
    let host_is : c.is_host-host.result ≡ is_host v.role =
    c.is_host-host.ensures ∙ ap is_host c.role.ensures in
    let own_listed : IsPermutation own_edits (edits_of own_states) =
    rw (slot_is, code_is, host_is) at c.in_ok-own-in-Some.ensures.edits in
    let listed : IsPermutation (all_of known v own free) (edits_of states) =
    IsPermutation-trans (all_of known v own free) (edits_of own_states ++ rest) (edits_of states)
    (IsPermutation-append_left rest own_edits (edits_of own_states) own_listed)
    c.in_ok-table-in-Some.ensures.edits in
    let same : IsPermutation (all_of known v own free) sorted = grind arith in
    let inside = edits_inside order known code v.records free v.slot own large table
    (map_none _ _ sound) in
    let apart = edits_apart 0 states c.in_ok-table-in-Some.ensures.table.spaced in
    let ready : AreEdits (length code) sorted =
    grind (
      arith,
      All-permutation (IsInside (length code)) (all_of known v own free) sorted same inside,
    ) in
    record {
      links = λ words e. linked_links order known v free linked size sorted same ready
          (λ edits listed p. c.edits_patch_alike_in_any_order.ensures order code edits listed p)
          words e;
      end = c.in_ok-table-in-Some.ensures.end;
      sound = sound;
      stop = tt;
    }
