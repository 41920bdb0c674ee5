use Rattle.std.proofs.Common.{arith}
use Rattle.std.proofs.lemmas.Grind.{common_steps}
use Rattle.plan.specs.Plans.{planned}
use Rattle.plan.proofs.Down.{writes_down}
use Rattle.plan.proofs.read.read_plan.Goals as goal

pub returns-clause-back : goal.returns-clause-back
unfolding planned
returns-clause-back c = writes_down _ _ (grind (arith, common_steps))
