use Rattle.std.proofs.Common.{◌≡◌, map}
use Rattle.std.specs.List.{range_with_len}
use Rattle.ps_codefile.specs.Procedures.{content_of}
use Rattle.ps_codefile.proofs.procedures.ProcedureDictionary.procs.Given as goal

-- the words so far are those of the first procedures
abbrev pub invariant-loop-i : goal.invariant-loop-i
invariant-loop-i l = l.words.items ≡ map (content_of l.self.order l.self.code)
    (range_with_len 1 l.i)
