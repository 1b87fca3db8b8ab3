use Rattle.std.proofs.Common.{◌+◌, ◌∙◌, ap, sym, arith}
use Rattle.std.proofs.lemmas.List.FromFn.{length-map-range_with_len, map-range_with_len_more}
use Rattle.ps_codefile.specs.Procedures.{ProcedureTables, content_of}
use Rattle.ps_codefile.proofs.procedures.ProcedureDictionary.procs.Goals as goal

pub push-requires : goal.push-requires
push-requires c = grind (arith, length-map-range_with_len)

pub loop-i-preserved : goal.loop-i-preserved
loop-i-preserved c =
    let code = c.args.self.now.code in
    let one = map-range_with_len_more (content_of c.args.self.now.order code) 1 c.loop-i.i
    (c.loop-i.i + 1) (omega arith) in
    let is = ap (λ (v : ProcedureTables). content_of v.order v.code (c.loop-i.i + 1))
    c.self.view_is in
    rw (c.push.ensures.items, c.loop-i.invariant, c.word_of.ensures ∙ is) (sym one)
