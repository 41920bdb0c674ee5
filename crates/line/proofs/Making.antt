-- What making a message rests on.
use Rattle.std.proofs.Common.{◌≤◌, length, arith}
use Rattle.std.proofs.lemmas.List.{length-take}
use Rattle.std.proofs.lemmas.Bool.Decides.{nat_tests}
use Rattle.line.specs.declared.message.Message.{Message}
use Rattle.line.specs.View.{msg_of}
use Rattle.line.specs.Messages.{Fits}

within : (m : Message) → length (msg_of m).text ≤ m.header.length
within m = rw length-take (omega arith)

pub short : (m : Message) → length (msg_of m).text ≤ 64
short m = omega (arith, within m)

-- the parts of a message make one
pub sound : (m : Message) → Fits (msg_of m)
sound m = grind (arith, nat_tests, within m)
