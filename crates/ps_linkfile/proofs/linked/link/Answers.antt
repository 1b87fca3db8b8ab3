use Rattle.std.proofs.Common.{refl}
use Rattle.ps_linkfile.specs.Outcomes.{LeavesUntouched}
use Rattle.ps_linkfile.specs.declared.error.LinkError.{LinkError}
use Rattle.ps_linkfile.specs.declared.error.LinkError.TheVariants.{Memory, Refused, Write}
use Rattle.ps_linkfile.proofs.linked.link.Goals as goal

-- a writer that nothing was written to
kept : {W : Type 0} (error : LinkError) (out : W) → LeavesUntouched error out out
kept (Refused fault) out = refl
kept Memory out = refl
kept (Write fault) out = tt

pub returns-in-Err-clause-untouched : goal.returns-in-Err-clause-untouched
returns-in-Err-clause-untouched g c = kept c.in-Err.error c.args.out.now
