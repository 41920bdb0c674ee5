use Rattle.std.proofs.Common.{rules}
use Rattle.lines.specs.Kept.{log}
use Rattle.lines.specs.Logs.{goes}
use Rattle.lines.proofs.Logs.{peeks}
use Rattle.lines.proofs.Slots.{first}
use Rattle.lines.proofs.framed.methods.FrameLineLine.peek.Goals as goal

pub returns-in_err-oldest : goal.returns-in_err-oldest
returns-in_err-oldest c =
    let a = c.args.pair.sender in
    let b = c.args.pair.receiver in
    let e = peeks (λ p. p.message) a b (log c.args.self.now) _ (first (goes a b) 0 (log c.args.self.now)) _ c.in_err-oldest.ensures in
    search rules

pub returns : goal.returns
returns c =
    let a = c.args.pair.sender in
    let b = c.args.pair.receiver in
    peeks (λ p. p.message) a b (log c.args.self.now) _ (first (goes a b) 0 (log c.args.self.now)) _ c.in_ok-oldest.ensures
