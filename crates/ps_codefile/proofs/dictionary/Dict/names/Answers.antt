use Rattle.std.proofs.Common.{◌≡◌, ◌<◌, ◌≤◌, ◌∙◌, length, take, map, ℕ, sym, subst, arith}
use Rattle.std.specs.List.{range_with_len}
use Rattle.std.proofs.lemmas.List.{take_more_set, take_all}
use Rattle.std.proofs.lemmas.List.FromFn.{map-range_with_len_more}
use Rattle.std.proofs.lemmas.Grind.{common_steps}
use Rattle.ps_codefile.specs.Dictionary.{name_at}
use Rattle.ps_codefile.specs.declared.dictionary_layout.TheConstants.{SLOT_COUNT, SLOTS}
use Rattle.ps_codefile.proofs.dictionary.Dict.names.Goals as goal

pub loop-i-preserved : goal.loop-i-preserved
loop-i-preserved c =
    let i = c.loop-i.i in
    let lt : i < length c.loop-i.names = omega arith in
    let wrote = take_more_set c.loop-i.names i c.name_of.result lt in
    let more = map-range_with_len_more (name_at c.args.self.now.file) 0 i i (omega arith) in
    grind (arith, common_steps, wrote, more)

pub returns : goal.returns
returns c =
    let names = c.loop-i.names in
    let done : c.loop-i.i ≡ SLOTS = omega arith in
    let whole : length names ≤ SLOT_COUNT = omega arith in
    sym (take_all SLOTS names whole) ∙ subst
    (λ (n : ℕ). take n names ≡ map (name_at c.args.self.now.file) (range_with_len 0 n))
    done c.loop-i.invariant.1
