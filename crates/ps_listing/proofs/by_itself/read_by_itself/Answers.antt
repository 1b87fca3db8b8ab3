use Rattle.ps_listing.proofs.Vocabulary.{arith, entry_at}
use Rattle.ps_resolve.proofs.ReadingCodes.{whole}
use Rattle.ps_listing.proofs.LinkedEntries.{linked_kind}
use Rattle.ps_listing.proofs.by_itself.read_by_itself.Goals as goal

pub read_linked-requires-clause-large : goal.read_linked-requires-clause-large
read_linked-requires-clause-large c linked =
    let dict = c.args.dict.now in
    let e = entry_at dict.order dict.file c.args.slot in
    let is = whole dict.file e c.in-Ok.code.now c.in-Ok.ensures in
    omega (arith, is.len, is.large (linked_kind e c.args.role c.requires.role linked))
