use Rattle.std.proofs.Common.{arith}
use Rattle.std.proofs.lemmas.Grind.{common_steps}
use Rattle.std.proofs.lemmas.Result.{err_from_is_err_and}
use Rattle.line.proofs.Postings.{turn, stops}
use Rattle.line.proofs.Totals.{enough}
use Rattle.line.proofs.line.post_all.Goals as goal

pub returns-in_err-post : goal.returns-in_err-post
returns-in_err-post g c =
    let p = err_from_is_err_and c.from_residual.result c.from_residual.ensures.1 in
    rw (p.1, p.2) (grind (arith, common_steps, turn, stops, enough, c.in_err-post.ensures, c.loop-message.invariant, c.message-item.is))
