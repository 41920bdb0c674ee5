use Rattle.std.proofs.Common.{ap, ◌∙◌, rules, tests, arith}
use Rattle.std.proofs.lemmas.Iterator.Consumers.{YieldsList-from_first, YieldsList-from_filter, count_from_yields_List}
use Rattle.lines.specs.Kept.{log}
use Rattle.lines.specs.Logs.{goes}
use Rattle.lines.specs.Slots.{Spot, spot, left}
use Rattle.lines.proofs.Logs.{counts}
use Rattle.lines.proofs.Slots.{counted}
use Rattle.lines.proofs.framed.methods.FrameLineLine.count.Goals as goal

pub returns : goal.returns
returns c =
    let a = c.args.pair.sender in
    let b = c.args.pair.receiver in
    let n = count_from_yields_List c.filter-waiting.result _ c.count.ensures.ran (YieldsList-from_filter _ (λ (p : Spot). goes a b p.message) (YieldsList-from_first spot left _ (ap left c.filter-waiting.ensures.source ∙ c.slots.ensures.each)) c.filter-waiting.ensures.closure (λ x r q k. search (rules, tests))) in
    let m = n ∙ counted (goes a b) 0 (log c.args.self.now) in
    counts a b (log c.args.self.now) _ c.in_ok-check.ensures (grind (arith, m))
