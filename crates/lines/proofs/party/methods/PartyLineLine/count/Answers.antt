use Rattle.std.proofs.Common.{rules, tests, arith}
use Rattle.std.proofs.lemmas.Iterator.Consumers.{YieldsList-from_filter, count_from_yields_List}
use Rattle.lines.specs.Held.{log}
use Rattle.lines.specs.Logs.{goes}
use Rattle.lines.proofs.Logs.{counts}
use Rattle.lines.proofs.Store.{shown}
use Rattle.lines.proofs.party.methods.PartyLineLine.count.Goals as goal

pub returns : goal.returns
returns c =
    let a = c.args.pair.sender in
    let b = c.args.pair.receiver in
    let n = count_from_yields_List c.filter-waiting.result _ c.count.ensures.ran (YieldsList-from_filter _ (goes a b) (shown c.args.self.now.messages.items cc) c.filter-waiting.ensures.closure (λ x r q k. search (rules, tests))) in
    counts a b (log c.args.self.now) _ c.in_ok-check.ensures (grind (arith, n))
