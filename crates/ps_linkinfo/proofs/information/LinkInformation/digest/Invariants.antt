use Rattle.ps_linkinfo.proofs.Vocabulary.{◌≡◌, digest_of}
use Rattle.ps_linkinfo.proofs.Digests.{with_left}
use Rattle.ps_linkinfo.proofs.information.LinkInformation.digest.Given as goal

-- with the names that are left it is the digest of all
abbrev pub invariant-loop-record : goal.invariant-loop-record
invariant-loop-record l = with_left l.digest l.record-iterator ≡ digest_of l.self
