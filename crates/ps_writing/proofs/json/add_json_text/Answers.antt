use Rattle.std.proofs.Common.{◌∙◌, [], flat_map, sym, ap, map-id}
use Rattle.std.proofs.lemmas.List.{flat_map_more}
use Rattle.std.proofs.lemmas.Iterator.{YieldsList-from_chars}
use Rattle.std.proofs.lemmas.Iterator.Consumers.{YieldsList-end}
use Rattle.ps_writing.proofs.Written.{adds_is, ◌⨾◌}
use Rattle.ps_writing.specs.JsonStrings.{json_char, json_text}
use Rattle.ps_writing.proofs.json.add_json_text.Goals as goal

pub loop-c-preserved : goal.loop-c-preserved
loop-c-preserved g c = adds_is (flat_map_more json_char [] c.loop-c.yielded c.in-Some.c)
    (c.loop-c.invariant ⨾ c.add_json_char.ensures)

pub returns : goal.returns
unfolding json_text
returns g c =
    let end = YieldsList-end (YieldsList-from_chars c.args.string.now c.utf8.string cc)
    c.loop-c.yielded _ c.loop-c.yielded_by _ _ c.in-None.is c.next.ensures.steps in
    adds_is (ap (flat_map json_char) (sym (map-id c.loop-c.yielded) ∙ end.0)) c.loop-c.invariant
