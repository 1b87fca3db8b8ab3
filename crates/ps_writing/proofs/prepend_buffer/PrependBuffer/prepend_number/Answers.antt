use Rattle.std.proofs.Common.{arith, length-append, length-drop, rules}
use Rattle.ps_writing.proofs.ReferenceText.{digits_few}
use Rattle.ps_writing.proofs.prepend_buffer.PrependBuffer.prepend_number.Goals as goal

pub write_digits-self-inside-requires : goal.write_digits-self-inside-requires
write_digits-self-inside-requires g c = grind (arith, digits_few, length-drop)

pub prepend-requires : goal.prepend-requires
prepend-requires g c = (search rules, grind (arith, digits_few, length-append, length-drop))

pub returns-clause-most : goal.returns-clause-most
returns-clause-most g c = grind (arith, digits_few, length-append, length-drop)
