use Rattle.std.proofs.Common.{ap, ◌∙◌, rules, tests}
use Rattle.std.proofs.lemmas.Iterator.Consumers.{YieldsList-from_first}
use Rattle.std.proofs.lemmas.Iterator.Search.{find_from_yields_List}
use Rattle.lines.specs.Logs.{goes, searched}
use Rattle.lines.specs.Slots.{Spot, spot, left}
use Rattle.lines.proofs.Logs.{searches}
use Rattle.lines.proofs.framed.FrameLine.find.Goals as goal

pub returns : goal.returns
returns c =
    let a = c.args.pair.sender in
    let b = c.args.pair.receiver in
    let found = find_from_yields_List (λ (p : Spot). goes a b p.message) c.find.new.self _ c.find.result c.find.ensures.ran (YieldsList-from_first spot left _ c.slots.ensures.each) (λ x r q k. search (rules, tests)) in
    searches spot a b _ _ c.in_ok-check.ensures c.ok_or.ensures.value ∙ ap (searched a b) found
