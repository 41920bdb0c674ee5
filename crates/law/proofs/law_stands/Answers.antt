use Rattle.law.proofs.Whole.{law}
use Rattle.law.proofs.law_stands.Goals as goal

-- src/lib.rt:5:1
pub returns : goal.returns
returns c = law
