use Rattle.std.proofs.Common.{arith}
use Rattle.std.proofs.lemmas.Grind.{drop-set_at}
use Rattle.ps_writing.proofs.ReferenceText.{digits_few}
use Rattle.ps_writing.proofs.pieces.write_reference.Goals as goal

pub write_digits-digits-requires : goal.write_digits-digits-requires
write_digits-digits-requires c = grind (arith, digits_few)

pub overflow_sub-blank : goal.overflow_sub-blank
overflow_sub-blank c = grind (arith, digits_few)

pub returns-clause-begins : goal.returns-clause-begins
returns-clause-begins c = grind (arith, digits_few)

pub returns-clause-text : goal.returns-clause-text
returns-clause-text c = grind (arith, digits_few, drop-set_at)
