use Rattle.std.proofs.Common.{refl, rules}
use Rattle.lines.proofs.Store.{missed, met}
use Rattle.lines.proofs.party.methods.PartyLineLine.peek.Goals as goal

pub returns-in_err-oldest : goal.returns-in_err-oldest
returns-in_err-oldest c = let e = missed c.args.pair.sender c.args.pair.receiver c.args.self.now.messages.items _ c.in_err-oldest.ensures _ refl in search rules

pub returns : goal.returns
returns c = met c.args.pair.sender c.args.pair.receiver c.args.self.now.messages.items _ c.in_ok-oldest.ensures _ refl _ c.index.ensures
